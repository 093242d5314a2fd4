use Rattle.std.proofs.Common.{Some}
use Rattle.macs_control.proofs.second.EachSecond.is_over.Goals as goal

pub returns-in-Ok : goal.returns-in-Ok
returns-in-Ok g c = (Some c.in-Ok.now, (c.look.ensures.over, c.look.ensures.last))
