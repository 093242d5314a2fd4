use Rattle.std.proofs.Common.{rules}
use Rattle.toml.specs.View.{items_view, table_view}
use Rattle.macs_commands.specs.CommandFiles.{table_commands}
use Rattle.macs_commands.proofs.Reading.{table-more}
use Rattle.macs_commands.proofs.files.command_files.table_commands.Goals as goal

pub loop-i-preserved : goal.loop-i-preserved
loop-i-preserved g c =
    let more = table-more c.args.tables.now c.loop-i.i c.loop-i.commands.items
    (table_commands 1 (items_view c.args.tables.now)) c.loop-i.invariant
    c.index-tables-i.result c.loop-i-test.true c.index-tables-i.is (table_view c.in-Some.table.now) c.in-Some.ensures
    c.in_ok-command.command c.in_ok-command.ensures in
    search (rules, more)
