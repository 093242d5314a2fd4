use Rattle.std.proofs.Common.{◌∙◌, ap}
use Rattle.macs_commands.specs.Words.{word_text}
use Rattle.macs_commands.specs.declared.command_word.CommandWord.{CommandWord}
use Rattle.macs_commands.proofs.Lined.{word_then}
use Rattle.macs_commands.proofs.requests.lines.write_command.Goals as goal

pub returns : goal.returns
returns c = word_then _ _ _ _ _
    (rw (c.text.ensures ∙ ap (λ (w : CommandWord). word_text w) c.of.ensures) at c.put_word.ensures)
    c.write_fields.ensures
