use Rattle.macs_c.proofs.Reportable.{reportable}
use Rattle.macs_c.proofs.laws.each_call_may_be_reported.Goals as goal

pub returns : goal.returns
returns c = λ it asked read answer after call made. reportable it after asked read answer call made
