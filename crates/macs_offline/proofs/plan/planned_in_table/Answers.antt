use Rattle.toml.specs.View.{table_view}
use Rattle.macs_offline.proofs.Planned.{why-of-fault}
use Rattle.macs_offline.proofs.plan.planned_in_table.Goals as goal

pub returns-in_default : goal.returns-in_default
returns-in_default c = record {
  planned = tt;
  fault = λ text parsed.
      why-of-fault c.args.end c.args.stage text (table_view c.args.table.now) c.in-Err.fault c.failure_of_fault.result
      parsed (c.in-Err.ensures.fault c.in_default.not-Memory) c.failure_of_fault.ensures;
}
