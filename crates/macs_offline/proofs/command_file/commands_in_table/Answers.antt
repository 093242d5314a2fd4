use Rattle.toml.specs.View.{table_view}
use Rattle.macs_offline.proofs.Checked.{has-fault}
use Rattle.macs_offline.proofs.command_file.commands_in_table.Goals as goal

pub returns-in-Err-clause-fault : goal.returns-in-Err-clause-fault
returns-in-Err-clause-fault c = λ text parsed.
    has-fault text (table_view c.args.table.now) c.in-Err.fault c.failure_of_fault.result parsed
    c.in-Err.ensures.fault c.failure_of_fault.ensures
