use Rattle.macs_program.proofs.WrittenOver.{blank-permitted, closed-permitted, one-stands}
use Rattle.macs_program.proofs.laws.written_over.Goals as goal

pub returns-clause-one : goal.returns-clause-one
returns-clause-one c = one-stands

pub returns-clause-blank : goal.returns-clause-blank
returns-clause-blank c = blank-permitted

pub returns-clause-closed : goal.returns-clause-closed
returns-clause-closed c = closed-permitted
