use Rattle.toml.specs.View.{table_view}
use Rattle.macs_offline.proofs.Checked.{cause-said}
use Rattle.macs_offline.proofs.command_file.failure_of_cause.Goals as goal

pub returns-in_default : goal.returns-in_default
returns-in_default c =
    cause-said (table_view c.args.file.now) c.args.cause c.failure_saying.result c.in_default.not-Memory
    (c.failure_saying.ensures _ c.fault_text.ensures)
