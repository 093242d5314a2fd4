use Rattle.std.proofs.Common.{refl, sym, ◌∙◌, arith}
use Rattle.macs_disk.specs.Disk.{IsHonest}
use Rattle.macs_disk.proofs.Moments.{Works-on, Works-start}
use Rattle.macs_journal.proofs.OpenGates.{closed-next, spared-next}
use Rattle.macs_journal.proofs.Spared.{Spared-start}
use Rattle.macs_journal.proofs.gates.close_gates.Goals as goal

pub loop-k-init : goal.loop-k-init
loop-k-init g c =
    let disk = g.D.SectorDisk.disk c.args.disk.now in
    record {
      works = Works-start disk;
      steady = refl;
      spared = λ honest i apart. Spared-start disk i;
      closed = λ honest k le lt opens. absurd (omega (arith, le, lt));
    }

pub loop-k-preserved : goal.loop-k-preserved
loop-k-preserved g c =
    let d = g.D.SectorDisk.disk in
    let i = c.loop-k.invariant in
    let call = c.close_gate.ensures in
    let before : IsHonest (d c.close_gate.new.disk)
    → IsHonest (d c.loop-k.disk) = λ honest. sym call.work.works.honest ∙ honest in
    record {
      works = Works-on _ _ _ i.works call.work.works;
      steady = c.in_ok-close_gate.ensures.work.ok ∙ i.steady;
      spared = λ honest. spared-next _ _ _ _ _ _ i.works call.work.works (i.spared (before honest)) (call.others honest)
          c.loop-k.auto.k (call.closed honest);
      closed = λ honest.
          closed-next _ _ _ _ _ _ i.works call.work.works (i.spared (before honest)) (call.others honest)
          (c.in_ok-close_gate.ensures.gate honest) (i.closed (before honest));
    }

pub returns-in_err-close_gate-clause-others : goal.returns-in_err-close_gate-clause-others
returns-in_err-close_gate-clause-others g c honest n apart =
    let i = c.loop-k.invariant in
    let call = c.close_gate.ensures in
    let before : IsHonest (g.D.SectorDisk.disk c.loop-k.disk) = sym call.work.works.honest ∙ honest in
    spared-next _ _ _ c.args.area c.args.first c.loop-k.k i.works call.work.works (i.spared before) (call.others honest)
    c.loop-k.auto.k (call.closed honest) n
    (λ k le lt. apart k le (omega (arith, lt, c.loop-k-test.true)))

pub returns-clause-others : goal.returns-clause-others
returns-clause-others g c honest n apart =
    c.loop-k.invariant.spared honest n (λ k le lt. apart k le (omega (arith, lt, c.loop-k.auto.k-end c.requires.room)))
