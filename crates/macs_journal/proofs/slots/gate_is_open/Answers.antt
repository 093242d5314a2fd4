use Rattle.std.proofs.Common.{◌≡◌, ◌+◌, ◌∙◌, ap, arith, subst, sym}
use Rattle.macs_disk.specs.Disk.{now}
use Rattle.macs_record.specs.Gates.{IsOpen}
use Rattle.macs_journal.specs.Areas.{gate}
use Rattle.macs_journal.proofs.OnlyReads.{are-read, call-reads, read-done, read-error, read-start}
use Rattle.macs_journal.proofs.Working.{not-owed}
use Rattle.macs_journal.proofs.slots.gate_is_open.Goals as goal

pub returns-in_err-read-clause-reads : goal.returns-in_err-read-clause-reads
returns-in_err-read-clause-reads g c =
    read-error _ _ _ _ _ (read-start _)
    (call-reads _ _ _ _ _ c.in_err-read.ensures.call c.in_err-read.ensures.effect) tt c.from_residual.ensures.0

pub returns-clause-reads : goal.returns-clause-reads
returns-clause-reads g c =
    let gate = call-reads _ _ _ _ _ c.in_ok-read.ensures.call c.in_ok-read.ensures.effect in
    read-done _ _ _ (are-read _ _ _ gate tt) tt

pub returns-clause-gate : goal.returns-clause-gate
returns-clause-gate g c honest =
    let old = now (g.D.SectorDisk.disk c.args.disk.now) in
    let gives : c.read.new.into ≡ old.seen (gate c.args.area (c.args.slot + 1)) =
    (c.in_ok-read.ensures.effect honest).ok ∙ ap old.seen c.slot_gate.ensures.at in
    (λ is. subst IsOpen gives (c.is_open.ensures.0 is), λ opens. c.is_open.ensures.1 (subst IsOpen (sym gives) opens))

pub read-requires : goal.read-requires
read-requires g c = omega (arith, c.slot_gate.ensures.within, c.requires.size)

pub returns-in_err-read-clause-gate : goal.returns-in_err-read-clause-gate
returns-in_err-read-clause-gate g c = not-owed _ c.from_residual.result c.from_residual.ensures.0
