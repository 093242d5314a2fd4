use Rattle.macs_offline.proofs.Planned.{why-not-toml}
use Rattle.macs_offline.proofs.plan.planned_in_text.Goals as goal

pub returns-in-Ok-clause-fault : goal.returns-in-Ok-clause-fault
returns-in-Ok-clause-fault c = c.planned_in_table.ensures.fault c.args.text.now c.in-Ok.ensures.ok

pub returns-in-Err-clause-fault : goal.returns-in-Err-clause-fault
returns-in-Err-clause-fault c =
    why-not-toml c.args.end c.args.stage c.args.text.now c.in-Err.error c.failure_of_toml.result
    c.in-Err.ensures.refused c.in-Err.ensures.span c.failure_of_toml.ensures
