-- The keys so far are those of the command.
use Rattle.std.proofs.Common.{◌≡◌}
use Rattle.toml.specs.View.{table_view}
use Rattle.macs_commands.specs.Lines.{key_beside, keys_of}
use Rattle.macs_commands.proofs.KeysBeside.{first_beside}
use Rattle.macs_commands.proofs.files.command_files.key_beside.Given as goal

abbrev pub invariant-loop-key : goal.invariant-loop-key
invariant-loop-key l =
    key_beside (keys_of l.fn.word) (table_view l.fn.table) ≡ first_beside (keys_of l.fn.word) l.key-iterator
