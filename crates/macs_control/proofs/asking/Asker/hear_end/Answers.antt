use Rattle.macs_control.specs.Asking.{seat_of}
use Rattle.macs_control.specs.Seats.{held_by}
use Rattle.macs_control.proofs.Asked.{line-heard}
use Rattle.macs_control.proofs.asking.Asker.hear_end.Goals as goal

pub returns-in-Line-clause-heard : goal.returns-in-Line-clause-heard
returns-in-Line-clause-heard g c =
    line-heard _ (held_by (seat_of c.args.self.now)) _ _ _ c.hear.result c.in-Line.is c.hear.ensures.hears
