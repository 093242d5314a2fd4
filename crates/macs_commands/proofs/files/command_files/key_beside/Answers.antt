use Rattle.std.proofs.Common.{◌∙◌, ap, sym}
use Rattle.macs_commands.specs.Lines.{keys_of}
use Rattle.macs_commands.proofs.KeysBeside.{beside-keys, first_beside}
use Rattle.macs_commands.proofs.files.command_files.key_beside.Goals as goal

pub loop-key-init : goal.loop-key-init
loop-key-init c = beside-keys (keys_of c.args.word) c.args.table.now.entries
    ∙ ap (first_beside (keys_of c.args.word))
    (sym (c.into_iter-key-iterator.ensures.into_iter_gives ∙ c.keys-key-items.ensures.rest))
