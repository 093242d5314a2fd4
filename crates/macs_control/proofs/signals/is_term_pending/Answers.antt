use Rattle.macs_control.proofs.Marks.{not-pending, pending-by}
use Rattle.macs_control.proofs.signals.is_term_pending.Goals as goal

pub returns-in-Some : goal.returns-in-Some
returns-in-Some c =
    pending-by c.args.status.now c.in-Some.digits.now c.is_term_in.result
    (rw c.in-Some.is at c.digits_in.ensures.digits) c.is_term_in.ensures

pub returns-in-None : goal.returns-in-None
returns-in-None c = not-pending c.args.status.now (c.digits_in.ensures.none c.in-None.is)
