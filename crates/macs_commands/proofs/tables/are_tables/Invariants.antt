-- The values so far are tables.
use Rattle.std.proofs.Common.{◌≡◌, drop}
use Rattle.toml.specs.View.{items_view}
use Rattle.macs_commands.specs.Tables.{are_tables}
use Rattle.macs_commands.proofs.tables.are_tables.Given as goal

abbrev pub invariant-loop-i : goal.invariant-loop-i
invariant-loop-i l = are_tables (items_view l.fn.values) ≡ are_tables (items_view (drop l.i l.fn.values))
