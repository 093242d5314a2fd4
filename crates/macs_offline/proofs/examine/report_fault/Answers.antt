use Rattle.std.proofs.Common.{refl}
use Rattle.macs_offline.proofs.examine.report_fault.Goals as goal

pub returns-in_ok-text-in-Some-clause-reported : goal.returns-in_ok-text-in-Some-clause-reported
returns-in_ok-text-in-Some-clause-reported c =
    (c.in-Some.at, rw c.in-Some.is at (c.in-Ok.ensures.fault refl), c.in_ok-text-in-Some.ensures, refl)

pub returns-in-None-clause-ended : goal.returns-in-None-clause-ended
returns-in-None-clause-ended c = absurd ((rw c.in-None.is at (c.in-Ok.ensures.fault refl)) c.requires.bad)
