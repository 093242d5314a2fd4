use Rattle.std.proofs.Common.{◌≡◌, ◌+◌, ◌∙◌, ℕ, arith, inl, inr, subst, sym, true, true≢false}
use Rattle.std.proofs.lemmas.Bool.{cases_lt}
use Rattle.macs_disk.specs.Disk.{now}
use Rattle.macs_disk.specs.States.{DiskState}
use Rattle.macs_journal.specs.Found.{IsGateOpen}
use Rattle.macs_journal.proofs.OnlyReads.{honest-before, read-done, read-error, read-more, read-start, same-before}
use Rattle.macs_journal.proofs.bad_journal.gate_fault.Goals as goal

pub loop-behind-init : goal.loop-behind-init
loop-behind-init g c = record {
  above = omega arith;
  reads = read-start _;
  shut = λ honest k above below. absurd (omega (arith, above, below));
}

pub gate_is_open-requires-clause-size : goal.gate_is_open-requires-clause-size
gate_is_open-requires-clause-size g c =
    let same = c.loop-behind.invariant.reads.works.sectors in
    omega (arith, same, c.requires.size)

pub loop-behind-preserved : goal.loop-behind-preserved
loop-behind-preserved g c =
    let d = g.D.SectorDisk.disk in
    let old = d c.args.disk.now in
    let mid = d c.loop-behind.disk in
    let new = d c.gate_is_open.new.disk in
    let inv = c.loop-behind.invariant in
    let works = c.gate_is_open.ensures.reads.work.works in
    let above = inv.above in
    record {
      above = omega (arith, above);
      reads = read-more old mid new _ inv.reads c.in_ok-gate_is_open.ensures.reads tt;
      shut = λ honest k over below opens. elim (cases_lt k c.loop-behind.behind) [
        | inl before ↦ inv.shut (honest-before old mid new inv.reads works honest) k over before opens
        | inr here ↦
            let same : k ≡ c.loop-behind.behind = omega (arith, below, here) in
            let opened = subst (λ (s : DiskState). IsGateOpen s.seen c.args.area (c.loop-behind.behind + 1))
            (sym (same-before old mid new inv.reads works honest))
            (subst (λ (n : ℕ). IsGateOpen (now old).seen c.args.area (n + 1)) same opens) in
            let yes : c.in_ok-gate_is_open.field-0 ≡ true = (c.in_ok-gate_is_open.ensures.gate honest).1 opened in
            true≢false (sym yes ∙ c.if-branch.false)
      ];
    }

pub returns-in_err-gate_is_open-clause-reads : goal.returns-in_err-gate_is_open-clause-reads
returns-in_err-gate_is_open-clause-reads g c =
    read-error _ _ _ _ _ c.loop-behind.invariant.reads c.in_err-gate_is_open.ensures.reads tt c.from_residual.ensures.0

pub returns-then-branch-clause-reads : goal.returns-then-branch-clause-reads
returns-then-branch-clause-reads g c =
    read-done _ _ _ (read-more _ _ _ _ c.loop-behind.invariant.reads c.in_ok-gate_is_open.ensures.reads tt) tt

pub returns-then-branch-clause-fault : goal.returns-then-branch-clause-fault
returns-then-branch-clause-fault g c honest =
    let d = g.D.SectorDisk.disk in
    let same = same-before (d c.args.disk.now) (d c.loop-behind.disk) (d c.gate_is_open.new.disk)
    c.loop-behind.invariant.reads c.gate_is_open.ensures.reads.work.works honest in (
      c.slot_gate.ensures.at,
      (
        c.loop-behind.behind,
        c.loop-behind.invariant.above,
        c.loop-behind-test.true,
        subst (λ (s : DiskState). IsGateOpen s.seen c.args.area (c.loop-behind.behind + 1)) same
            ((c.in_ok-gate_is_open.ensures.gate honest).0 c.if-branch.true),
      ),
    )

pub returns-clause-reads : goal.returns-clause-reads
returns-clause-reads g c = read-done _ _ _ c.loop-behind.invariant.reads tt

pub returns-clause-fault : goal.returns-clause-fault
returns-clause-fault g c honest = λ has.
    let within = has.2 in
    let past = c.loop-behind-test.false in
    c.loop-behind.invariant.shut honest has.0 has.1 (omega (arith, within, past)) has.3
