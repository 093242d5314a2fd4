-- The commands so far come before those of the values that are left.
use Rattle.std.proofs.Common.{◌≡◌, drop, ◌+◌}
use Rattle.toml.specs.View.{items_view}
use Rattle.macs_commands.specs.CommandFiles.{table_commands}
use Rattle.macs_commands.proofs.Reading.{joined}
use Rattle.macs_commands.proofs.files.command_files.table_commands.Given as goal

abbrev pub invariant-loop-i : goal.invariant-loop-i
invariant-loop-i g l = table_commands 1 (items_view l.fn.tables)
    ≡ joined l.commands.items (table_commands (l.i + 1) (items_view (drop l.i l.fn.tables)))
