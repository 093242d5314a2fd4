use Rattle.std.proofs.Common.{◌≢◌, ℕ, inl, sym, ◌∙◌}
use Rattle.macs_disk.specs.States.{Image, IsImage}
use Rattle.macs_disk.specs.Disk.{IsHonest, now}
use Rattle.macs_disk.specs.Runs.{Leaves, LeavesNothingNew}
use Rattle.macs_disk.proofs.Calls.{sync-leaves}
use Rattle.macs_disk.proofs.Moments.{Leaves-call, Leaves-weaker, Works-on}
use Rattle.macs_journal.specs.Areas.{gate}
use Rattle.macs_journal.specs.NewArea.{IsOldOrOpening}
use Rattle.macs_journal.specs.Work.{IsSpared}
use Rattle.macs_journal.proofs.Appends.{wrote, sync-image}
use Rattle.macs_journal.proofs.HeadCalls.{opening-image, synced-settled}
use Rattle.macs_journal.proofs.Spared.{Spared-on, Spared-sync, Spared-write}
use Rattle.macs_journal.proofs.Working.{failed, failed-later}
use Rattle.macs_journal.proofs.head_gate.open_head.Given.{Over}
use Rattle.macs_journal.proofs.head_gate.open_head.Goals as goal
use Rattle.macs_journal.proofs.head_gate.open_head.Goals.{After-sync, After-write}

-- ---- a sync, done or not

module _ (g : Over) (c : After-sync g) (honest : IsHonest (g.D.SectorDisk.disk c.sync.new.self)) where
  honest0 : IsHonest (g.D.SectorDisk.disk c.args.disk.now)
  honest0 = sym c.sync.ensures.call.work.works.honest ∙ honest

  nothing : LeavesNothingNew (g.D.SectorDisk.disk c.args.disk.now) (g.D.SectorDisk.disk c.sync.new.self)
  nothing = sync-leaves _ _ c.sync.result (g.met.D.SectorDisk.sound c.args.disk.now honest0) c.sync.ensures.call
      (c.sync.ensures.effect honest)

  leaves-sync : Leaves (g.D.SectorDisk.disk c.args.disk.now) (g.D.SectorDisk.disk c.sync.new.self)
      (IsOldOrOpening (now (g.D.SectorDisk.disk c.args.disk.now)) c.args.area)
  leaves-sync = Leaves-weaker _ _ (IsImage (now (g.D.SectorDisk.disk c.args.disk.now)))
      (IsOldOrOpening (now (g.D.SectorDisk.disk c.args.disk.now)) c.args.area) (λ image left. inl left) nothing

  spares-sync : (i : ℕ) → IsSpared (g.D.SectorDisk.disk c.args.disk.now) (g.D.SectorDisk.disk c.sync.new.self) i
  spares-sync i = Spared-sync _ _ c.sync.result i (g.met.D.SectorDisk.sound c.args.disk.now honest0) c.sync.ensures.call
      (c.sync.ensures.effect honest)

pub returns-in_err-sync-clause-images : goal.returns-in_err-sync-clause-images
returns-in_err-sync-clause-images g c honest =
    leaves-sync g (goal.at.returns-in_err-sync-clause-images g c).After-sync honest

pub returns-in_err-sync-clause-others : goal.returns-in_err-sync-clause-others
returns-in_err-sync-clause-others g c honest i apart =
    spares-sync g (goal.at.returns-in_err-sync-clause-others g c).After-sync honest i

-- ---- and then the gate is written, whole or torn

module _ (g : Over) (c : After-write g) (honest : IsHonest (g.D.SectorDisk.disk c.write.new.self)) where
  honest1 : IsHonest (g.D.SectorDisk.disk c.sync.new.self)
  honest1 = sym c.write.ensures.call.work.works.honest ∙ honest

  was_honest : IsHonest (g.D.SectorDisk.disk c.args.disk.now)
  was_honest = sym c.sync.ensures.call.work.works.honest ∙ honest1

  nothing-first : LeavesNothingNew (g.D.SectorDisk.disk c.args.disk.now) (g.D.SectorDisk.disk c.sync.new.self)
  nothing-first = sync-leaves _ _ c.sync.result (g.met.D.SectorDisk.sound c.args.disk.now was_honest)
      c.sync.ensures.call (c.sync.ensures.effect honest1)

  here : (image : Image) → IsImage (now (g.D.SectorDisk.disk c.write.new.self)) image
      → IsOldOrOpening (now (g.D.SectorDisk.disk c.args.disk.now)) c.args.area image
  here =
      opening-image _ _ (now (g.D.SectorDisk.disk c.write.new.self)) c.args.area c.head_gate.result
      (g.met.D.SectorDisk.sound c.args.disk.now was_honest).fit
      c.head_gate.ensures.at (c.in_ok-sync.ensures.effect honest1).ok (wrote _ _ _ _ _ (c.write.ensures.effect honest))

  leaves-write : Leaves (g.D.SectorDisk.disk c.args.disk.now) (g.D.SectorDisk.disk c.write.new.self)
      (IsOldOrOpening (now (g.D.SectorDisk.disk c.args.disk.now)) c.args.area)
  leaves-write =
      let old = g.D.SectorDisk.disk c.args.disk.now in
      let P = IsOldOrOpening (now old) c.args.area in
      Leaves-call old _ _ c.write.result P
      (Leaves-weaker _ _ (IsImage (now old)) P (λ image left. inl left) nothing-first) c.write.ensures.call here

  spares : (i : ℕ) → i ≢ gate c.args.area 0
      → IsSpared (g.D.SectorDisk.disk c.args.disk.now) (g.D.SectorDisk.disk c.write.new.self) i
  spares i apart =
      Spared-on _ _ _ i c.sync.ensures.call.work.works c.write.ensures.call.work.works
      (Spared-sync _ _ c.sync.result i (g.met.D.SectorDisk.sound c.args.disk.now was_honest) c.sync.ensures.call
      (c.sync.ensures.effect honest1))
      (Spared-write _ _ _ _ c.write.result i (λ same. apart (same ∙ c.head_gate.ensures.at)) c.write.ensures.call
      (c.write.ensures.effect honest))

pub returns-in_err-write-clause-images : goal.returns-in_err-write-clause-images
returns-in_err-write-clause-images g c honest =
    leaves-write g (goal.at.returns-in_err-write-clause-images g c).After-write honest

pub returns-in_err-write-clause-others : goal.returns-in_err-write-clause-others
returns-in_err-write-clause-others g c honest =
    spares g (goal.at.returns-in_err-write-clause-others g c).After-write honest

-- ---- and a second sync, done or not

pub returns-in_err-sync-2-clause-images : goal.returns-in_err-sync-2-clause-images
returns-in_err-sync-2-clause-images g c honest =
    let d = g.D.SectorDisk.disk in
    let path = (goal.at.returns-in_err-sync-2-clause-images g c).After-write in
    let honest2 : IsHonest (d c.write.new.self) = sym c.sync-2.ensures.call.work.works.honest ∙ honest in
    Leaves-call _ _ (d c.sync-2.new.self) c.sync-2.result (IsOldOrOpening (now (d c.args.disk.now)) c.args.area)
    (leaves-write g path honest2) c.sync-2.ensures.call
    (λ image left. here g path honest2 image (sync-image _ _ _ (g.met.D.SectorDisk.sound c.write.new.self honest2).fit
    (c.sync-2.ensures.effect honest) image left))

pub returns-in_err-sync-2-clause-others : goal.returns-in_err-sync-2-clause-others
returns-in_err-sync-2-clause-others g c honest i apart =
    let honest2 : IsHonest (g.D.SectorDisk.disk c.write.new.self) =
    sym c.sync-2.ensures.call.work.works.honest ∙ honest in
    Spared-on _ _ _ i (Works-on _ _ _ c.sync.ensures.call.work.works c.write.ensures.call.work.works)
    c.sync-2.ensures.call.work.works
    (spares g (goal.at.returns-in_err-sync-2-clause-others g c).After-write honest2 i apart)
    (Spared-sync _ _ c.sync-2.result i (g.met.D.SectorDisk.sound c.write.new.self honest2) c.sync-2.ensures.call
    (c.sync-2.ensures.effect honest))

pub returns-clause-images : goal.returns-clause-images
returns-clause-images g c honest =
    let d = g.D.SectorDisk.disk in
    let path = (goal.at.returns-clause-images g c).After-write in
    let honest2 : IsHonest (d c.write.new.self) = sym c.sync-2.ensures.call.work.works.honest ∙ honest in
    Leaves-call _ _ (d c.sync-2.new.self) c.sync-2.result (IsOldOrOpening (now (d c.args.disk.now)) c.args.area)
    (leaves-write g path honest2) c.sync-2.ensures.call
    (λ image left. here g path honest2 image (sync-image _ _ _ (g.met.D.SectorDisk.sound c.write.new.self honest2).fit
    (c.sync-2.ensures.effect honest) image left))

pub returns-clause-others : goal.returns-clause-others
returns-clause-others g c honest i apart =
    let honest2 : IsHonest (g.D.SectorDisk.disk c.write.new.self) =
    sym c.sync-2.ensures.call.work.works.honest ∙ honest in
    Spared-on _ _ _ i (Works-on _ _ _ c.sync.ensures.call.work.works c.write.ensures.call.work.works)
    c.sync-2.ensures.call.work.works
    (spares g (goal.at.returns-clause-others g c).After-write honest2 i apart)
    (Spared-sync _ _ c.sync-2.result i (g.met.D.SectorDisk.sound c.write.new.self honest2) c.sync-2.ensures.call
    (c.sync-2.ensures.effect honest))

-- ---- the device calls

pub returns-in_err-sync-clause-work : goal.returns-in_err-sync-clause-work
returns-in_err-sync-clause-work g c =
    let d = g.D.SectorDisk.disk in
    failed (d c.args.disk.now) (d c.sync.new.self) c.from_residual.result c.from_residual.ensures.0
    c.sync.ensures.call.work.works c.in_err-sync.ensures.call.work.err

pub returns-in_err-write-clause-work : goal.returns-in_err-write-clause-work
returns-in_err-write-clause-work g c =
    let d = g.D.SectorDisk.disk in
    failed-later (d c.args.disk.now) (d c.sync.new.self) (d c.write.new.self) c.from_residual-in_err-write.result
    c.from_residual-in_err-write.ensures.0
    c.sync.ensures.call.work.works c.in_ok-sync.ensures.call.work.ok c.write.ensures.call.work.works
    c.in_err-write.ensures.call.work.err

pub returns-in_err-sync-2-clause-work : goal.returns-in_err-sync-2-clause-work
returns-in_err-sync-2-clause-work g c =
    let d = g.D.SectorDisk.disk in
    failed-later (d c.args.disk.now) (d c.write.new.self) (d c.sync-2.new.self) c.from_residual-in_err-sync-2.result
    c.from_residual-in_err-sync-2.ensures.0
    (Works-on _ _ _ c.sync.ensures.call.work.works c.write.ensures.call.work.works)
    (c.in_ok-write.ensures.call.work.ok ∙ c.in_ok-sync.ensures.call.work.ok)
    c.sync-2.ensures.call.work.works c.in_err-sync-2.ensures.call.work.err

pub returns-clause-settled : goal.returns-clause-settled
returns-clause-settled g c honest =
    synced-settled (now (g.D.SectorDisk.disk c.write.new.self)) (now (g.D.SectorDisk.disk c.sync-2.new.self))
    (c.in_ok-sync-2.ensures.effect honest).ok
