use Rattle.macs_journal.proofs.OpenGates.{gates-counted, gates-once}
use Rattle.macs_journal.proofs.laws.open_gates_counted.Goals as goal

pub returns-clause-counted : goal.returns-clause-counted
returns-clause-counted c = gates-counted

pub returns-clause-one : goal.returns-clause-one
returns-clause-one c = gates-once
