use Rattle.std.proofs.Common.{◌<◌, ◌≤◌, arith, rules}
use Rattle.macs_journal.specs.Areas.{least_sectors}
use Rattle.macs_journal.proofs.Recovering.{recovers-found, refused-failed, refused-found, refused-small}
use Rattle.macs_journal.proofs.recovery.recover_into.Given.{Over}
use Rattle.macs_journal.proofs.recovery.recover_into.Goals.{Else-sectors-lt-LEAST_SECTORS}
use Rattle.macs_journal.proofs.recovery.recover_into.Goals as goal

pub returns-then-sectors-lt-LEAST_SECTORS-clause-opening : goal.returns-then-sectors-lt-LEAST_SECTORS-clause-opening
returns-then-sectors-lt-LEAST_SECTORS-clause-opening g c =
    let less : (g.D.SectorDisk.disk c.args.disk).sectors < least_sectors =
    (let is = c.sectors.ensures in let small = c.if-sectors-lt-LEAST_SECTORS.true in omega (arith, is, small)) in
    refused-small g.D.SectorDisk.disk c.args.disk less

-- the disk is large enough
large : (g : Over) (c : Else-sectors-lt-LEAST_SECTORS g) → least_sectors ≤ (g.D.SectorDisk.disk c.args.disk).sectors
large g c = let is = c.sectors.ensures in let within = c.if-sectors-lt-LEAST_SECTORS.false in omega (arith, is, within)

pub returns-in-Ok-Journal-clause-opening : goal.returns-in-Ok-Journal-clause-opening
returns-in-Ok-Journal-clause-opening g c =
    rw c.new.ensures (recovers-found g.D.SectorDisk.disk c.args.disk c.sync_and_find.new.disk
    (large g (goal.at.returns-in-Ok-Journal-clause-opening g c).Else-sectors-lt-LEAST_SECTORS)
    c.sync_and_find.ensures.work.works c.sync_and_find.ensures.from_first c.sync_and_find.ensures.nothing
    c.in-Ok-Journal.ensures.work.ok c.in-Ok-Journal.ensures.settled
    c.in-Ok-Journal.field-0 c.in-Ok-Journal.place c.sync_and_find.new.room _ _ _
    (search rules) (search rules) (search rules) c.in-Ok-Journal.field-0-is c.in-Ok-Journal.ensures.behind
    c.in-Ok-Journal.ensures.found)

pub returns-in-Ok-Refused-clause-opening : goal.returns-in-Ok-Refused-clause-opening
returns-in-Ok-Refused-clause-opening g c =
    refused-found g.D.SectorDisk.disk c.args.disk c.sync_and_find.new.disk
    (large g (goal.at.returns-in-Ok-Refused-clause-opening g c).Else-sectors-lt-LEAST_SECTORS)
    c.sync_and_find.ensures.work.works c.sync_and_find.ensures.from_first c.sync_and_find.ensures.nothing
    c.in-Ok-Refused.ensures.work.ok c.in-Ok-Refused.ensures.settled
    c.in-Ok-Refused.field-0 c.in-Ok-Refused.fault c.sync_and_find.new.room c.in-Ok-Refused.field-0-is
    c.in-Ok-Refused.ensures.names c.in-Ok-Refused.ensures.found

pub returns-in-Err-clause-opening : goal.returns-in-Err-clause-opening
returns-in-Err-clause-opening g c =
    refused-failed g.D.SectorDisk.disk c.args.disk c.sync_and_find.new.disk
    (large g (goal.at.returns-in-Err-clause-opening g c).Else-sectors-lt-LEAST_SECTORS)
    c.sync_and_find.ensures.work.works c.sync_and_find.ensures.from_first c.sync_and_find.ensures.nothing
    c.in-Err.ensures.work.err c.sync_and_find.ensures.unwritten
