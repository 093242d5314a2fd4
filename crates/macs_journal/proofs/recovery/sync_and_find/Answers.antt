use Rattle.std.proofs.Common.{◌≡◌, inr, rules, sym, ◌∙◌}
use Rattle.macs_disk.specs.Disk.{IsHonest, now}
use Rattle.macs_disk.specs.Runs.{LeavesNothingNew}
use Rattle.macs_disk.specs.States.{state_after_sync}
use Rattle.macs_journal.proofs.Untouched.{stands-after-one, stands-from-first, synced-leaves, untouched-now}
use Rattle.macs_journal.proofs.recovery.sync_and_find.Given.{Over}
use Rattle.macs_journal.proofs.recovery.sync_and_find.Goals.{After-find}
use Rattle.macs_journal.proofs.recovery.sync_and_find.Goals as goal

-- the sync was made, and then the disk was read
module _ (g : Over) (c : After-find g) (honest : IsHonest (g.D.SectorDisk.disk c.find.new.disk)) where
  synced : IsHonest (g.D.SectorDisk.disk c.sync.new.self)
  synced = sym c.find.ensures.reads.work.works.honest ∙ honest

  was_honest : IsHonest (g.D.SectorDisk.disk c.args.disk.now)
  was_honest = sym c.sync.ensures.call.work.works.honest ∙ synced

  settled : now (g.D.SectorDisk.disk c.find.new.disk) ≡ state_after_sync (now (g.D.SectorDisk.disk c.args.disk.now))
  settled = untouched-now _ _ c.find.ensures.reads.work.works (c.find.ensures.reads.untouched honest)
      ∙ (c.in_ok-sync.ensures.effect synced).ok

  leaves : LeavesNothingNew (g.D.SectorDisk.disk c.args.disk.now) (g.D.SectorDisk.disk c.find.new.disk)
  leaves =
      synced-leaves _ _ _ c.sync.result (g.met.D.SectorDisk.sound c.args.disk.now was_honest) c.sync.ensures.call
      (c.sync.ensures.effect synced)
      c.find.ensures.reads.work.works (c.find.ensures.reads.untouched honest)

pub returns-in_err-found-clause-nothing : goal.returns-in_err-found-clause-nothing
returns-in_err-found-clause-nothing g c = leaves g (goal.at.returns-in_err-found-clause-nothing g c).After-find

pub returns-clause-nothing : goal.returns-clause-nothing
returns-clause-nothing g c = leaves g (goal.at.returns-clause-nothing g c).After-find

-- by search: a body without the sync is refused for what it leaves, and not for a name
pub returns-clause-settled : goal.returns-clause-settled
returns-clause-settled g c honest =
    let same = untouched-now _ _ c.find.ensures.reads.work.works (c.find.ensures.reads.untouched honest) in
    search (rules, same)

pub returns-in_err-found-clause-unwritten : goal.returns-in_err-found-clause-unwritten
returns-in_err-found-clause-unwritten g c honest =
    inr (settled g (goal.at.returns-in_err-found-clause-unwritten g c).After-find honest)

pub returns-clause-unwritten : goal.returns-clause-unwritten
returns-clause-unwritten g c honest = inr (settled g (goal.at.returns-clause-unwritten g c).After-find honest)

pub returns-in_err-sync-clause-from_first : goal.returns-in_err-sync-clause-from_first
returns-in_err-sync-clause-from_first g c honest = stands-after-one _ _ c.sync.result c.sync.ensures.call

pub returns-in_err-found-clause-from_first : goal.returns-in_err-found-clause-from_first
returns-in_err-found-clause-from_first g c honest =
    stands-from-first _ _ _ c.sync.result c.sync.ensures.call c.find.ensures.reads.work.works
    (c.find.ensures.reads.untouched honest)

pub returns-clause-from_first : goal.returns-clause-from_first
returns-clause-from_first g c honest =
    stands-from-first _ _ _ c.sync.result c.sync.ensures.call c.find.ensures.reads.work.works
    (c.find.ensures.reads.untouched honest)
