use Rattle.std.proofs.Common.{◌∙◌, rules, tests}
use Rattle.std.proofs.lemmas.Iterator.{YieldsList-from_slice}
use Rattle.std.proofs.lemmas.Iterator.Search.{find_from_yields_List}
use Rattle.std.specs.Str.{bytes_eq}
use Rattle.macs_commands.specs.Words.{word_text}
use Rattle.macs_commands.specs.declared.command_word.CommandWord.{CommandWord}
use Rattle.macs_commands.specs.declared.command_word.TheConstants.{COMMAND_WORDS}
use Rattle.macs_commands.proofs.command_word.CommandWord.spelled.Goals as goal

pub returns : goal.returns
returns c =
    c.copied.ensures
    ∙ find_from_yields_List (λ (word : CommandWord). bytes_eq (word_text word) c.args.text.now) _ _ c.find.result
    c.find.ensures.ran (YieldsList-from_slice COMMAND_WORDS (cc)) (λ x b q k. search (rules, tests))
