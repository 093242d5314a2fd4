use Rattle.std.proofs.Common.{◌≡◌, ◌≢◌, ℕ, true, false, sym, ◌∙◌, ap, subst}
use Rattle.macs_disk.specs.Disk.{IsHonest, now}
use Rattle.macs_disk.proofs.Images.{put-same}
use Rattle.macs_disk.proofs.Moments.{Works-on}
use Rattle.macs_record.specs.Gates.{IsOpen}
use Rattle.macs_journal.specs.Areas.{gate}
use Rattle.macs_journal.specs.Found.{IsGateOpen}
use Rattle.macs_journal.specs.Work.{IsSpared}
use Rattle.macs_journal.proofs.Spared.{Spared-on, Spared-read, Spared-write}
use Rattle.macs_journal.proofs.Working.{failed, failed-later}
use Rattle.macs_journal.proofs.gates.close_gate.Given.{Over}
use Rattle.macs_journal.proofs.gates.close_gate.Goals as goal
use Rattle.macs_journal.proofs.gates.close_gate.Goals.{After-is_open, After-write}

not_both : true ≡ false → ⊥
not_both same = absurd cc

-- what was read is the gate
module _ (g : Over) (c : After-is_open g) (honest : IsHonest (g.D.SectorDisk.disk c.read.new.self)) where
  gate-read : c.read.new.into ≡ (now (g.D.SectorDisk.disk c.args.disk.now)).seen (gate c.args.area c.args.k)
  gate-read = (c.in_ok-read.ensures.effect honest).ok
      ∙ ap (now (g.D.SectorDisk.disk c.args.disk.now)).seen c.gate-at.ensures.at

-- where it is written, whole or torn
module _ (g : Over) (c : After-write g) (honest : IsHonest (g.D.SectorDisk.disk c.write.new.self)) where
  honest-read : IsHonest (g.D.SectorDisk.disk c.read.new.self)
  honest-read = sym c.write.ensures.call.work.works.honest ∙ honest

  spares : (i : ℕ) → i ≢ gate c.args.area c.args.k
      → IsSpared (g.D.SectorDisk.disk c.args.disk.now) (g.D.SectorDisk.disk c.write.new.self) i
  spares i apart =
      Spared-on _ _ _ i c.read.ensures.call.work.works c.write.ensures.call.work.works
      (Spared-read _ _ _ _ c.read.result i c.read.ensures.call (c.read.ensures.effect honest-read))
      (Spared-write _ _ _ _ c.write.result i (λ here. apart (here ∙ c.gate-at.ensures.at)) c.write.ensures.call
      (c.write.ensures.effect honest))

pub returns-in_err-write-clause-closed : goal.returns-in_err-write-clause-closed
returns-in_err-write-clause-closed g c honest shut =
    let path = goal.at.returns-in_err-write-clause-closed g c in
    absurd (shut (subst IsOpen (gate-read g path.After-is_open (honest-read g path.After-write honest))
    (c.is_open.ensures.0 c.if-is_open.true)))

pub returns-in_err-write-clause-others : goal.returns-in_err-write-clause-others
returns-in_err-write-clause-others g c honest =
    spares g (goal.at.returns-in_err-write-clause-others g c).After-write honest

pub returns-in_ok-write-clause-others : goal.returns-in_ok-write-clause-others
returns-in_ok-write-clause-others g c honest =
    spares g (goal.at.returns-in_ok-write-clause-others g c).After-write honest

pub returns-in_ok-write-clause-gate : goal.returns-in_ok-write-clause-gate
returns-in_ok-write-clause-gate g c honest opens =
    (λ j. ((c.in_ok-write.ensures.effect honest).ok j).seen (gate c.args.area c.args.k))
    ∙ put-same (now (g.D.SectorDisk.disk c.read.new.self)).seen _ _ _ (sym c.gate-at.ensures.at)

-- ---- the device calls, and what a gate owes that is not this one

pub returns-in_err-read-clause-work : goal.returns-in_err-read-clause-work
returns-in_err-read-clause-work g c =
    let d = g.D.SectorDisk.disk in
    failed (d c.args.disk.now) (d c.read.new.self) c.from_residual.result c.from_residual.ensures.0
    c.read.ensures.call.work.works c.in_err-read.ensures.call.work.err

pub returns-in_err-read-clause-closed : goal.returns-in_err-read-clause-closed
returns-in_err-read-clause-closed g c honest shut i =
    Spared-read _ _ _ _ c.read.result i c.read.ensures.call (c.read.ensures.effect honest)

pub returns-in_err-read-clause-others : goal.returns-in_err-read-clause-others
returns-in_err-read-clause-others g c honest i apart =
    Spared-read _ _ _ _ c.read.result i c.read.ensures.call (c.read.ensures.effect honest)

pub returns-in_err-write-clause-work : goal.returns-in_err-write-clause-work
returns-in_err-write-clause-work g c =
    let d = g.D.SectorDisk.disk in
    failed-later (d c.args.disk.now) (d c.read.new.self) (d c.write.new.self) c.from_residual-in_err-write.result
    c.from_residual-in_err-write.ensures.0
    c.read.ensures.call.work.works c.in_ok-read.ensures.call.work.ok c.write.ensures.call.work.works
    c.in_err-write.ensures.call.work.err

pub returns-in_ok-write-clause-work : goal.returns-in_ok-write-clause-work
returns-in_ok-write-clause-work g c =
    let d = g.D.SectorDisk.disk in
    record {
      works = Works-on (d c.args.disk.now) (d c.read.new.self) (d c.write.new.self) c.read.ensures.call.work.works
          c.write.ensures.call.work.works;
      ok = c.in_ok-write.ensures.call.work.ok ∙ c.in_ok-read.ensures.call.work.ok;
      err = tt;
    }

pub returns-in_ok-write-clause-closed : goal.returns-in_ok-write-clause-closed
returns-in_ok-write-clause-closed g c honest shut =
    let path = goal.at.returns-in_ok-write-clause-closed g c in
    absurd (shut (subst IsOpen (gate-read g path.After-is_open (honest-read g path.After-write honest))
    (c.is_open.ensures.0 c.if-is_open.true)))

-- where it reads closed
module _ (g : Over) (c : After-is_open g) (honest : IsHonest (g.D.SectorDisk.disk c.read.new.self))
    (reads : c.is_open.result ≡ false) where
  not-open : ¬ IsGateOpen (now (g.D.SectorDisk.disk c.args.disk.now)).seen c.args.area c.args.k
  not-open opens = not_both (sym (c.is_open.ensures.1 (subst IsOpen (sym (gate-read g c honest)) opens)) ∙ reads)

pub returns-else-is_open-clause-work : goal.returns-else-is_open-clause-work
returns-else-is_open-clause-work g c =
    record { works = c.read.ensures.call.work.works; ok = c.in_ok-read.ensures.call.work.ok; err = tt }

pub returns-else-is_open-clause-gate : goal.returns-else-is_open-clause-gate
returns-else-is_open-clause-gate g c honest opens =
    absurd (not-open g (goal.at.returns-else-is_open-clause-gate g c).After-is_open honest c.if-is_open.false opens)

pub returns-else-is_open-clause-closed : goal.returns-else-is_open-clause-closed
returns-else-is_open-clause-closed g c honest shut i =
    Spared-read _ _ _ _ c.read.result i c.read.ensures.call (c.read.ensures.effect honest)

pub returns-else-is_open-clause-others : goal.returns-else-is_open-clause-others
returns-else-is_open-clause-others g c honest i apart =
    Spared-read _ _ _ _ c.read.result i c.read.ensures.call (c.read.ensures.effect honest)
