use Rattle.toml.specs.View.{table_view}
use Rattle.macs_offline.proofs.Checked.{commands-said, sci-said}
use Rattle.macs_offline.proofs.command_file.failure_of_fault.Goals as goal

pub returns-in-Commands : goal.returns-in-Commands
returns-in-Commands c =
    rw c.in-Commands.is (commands-said (table_view c.args.file.now) c.in-Commands.cause c.failure_of_cause.result
    c.failure_of_cause.ensures)

pub returns-in-Sci : goal.returns-in-Sci
returns-in-Sci c =
    rw c.in-Sci.is (sci-said (table_view c.args.file.now) c.failure_saying.result
    (c.failure_saying.ensures _ c.from_str-text.ensures.ok))
