use Rattle.std.proofs.Common.{◌≡◌, ◌∙◌, ℕ, arith, inl, inr, subst, sym, true, true≢false}
use Rattle.std.proofs.lemmas.Bool.{cases_lt}
use Rattle.std.proofs.lemmas.Result.{IfOk-weaker}
use Rattle.macs_disk.specs.Disk.{now}
use Rattle.macs_disk.specs.States.{DiskState}
use Rattle.macs_record.specs.Decoding.{HasRecord}
use Rattle.macs_journal.specs.Areas.{slot_body}
use Rattle.macs_journal.specs.FirstFault.{GateFaultIs, IsSound, IsUsed}
use Rattle.macs_journal.proofs.Faults.{unused-fault}
use Rattle.macs_journal.proofs.OnlyReads.{honest-before, read-done, read-error, read-more, read-start, read-then}
use Rattle.macs_journal.proofs.OnlyReads.{same-before}
use Rattle.macs_journal.proofs.bad_journal.area_fault.Goals as goal

pub loop-slot-init : goal.loop-slot-init
loop-slot-init g c = record { reads = read-start _; sound = λ honest j below. absurd (omega (arith, below)) }

pub is_used-requires-clause-size : goal.is_used-requires-clause-size
is_used-requires-clause-size g c =
    let same = c.loop-slot.invariant.reads.works.sectors in
    omega (arith, same, c.requires)

pub gate_fault-requires-clause-size : goal.gate_fault-requires-clause-size
gate_fault-requires-clause-size g c =
    let same = c.loop-slot.invariant.reads.works.sectors in
    omega (arith, same, c.is_used.ensures.reads.work.works.sectors, c.requires)

pub read_record-requires-clause-size : goal.read_record-requires-clause-size
read_record-requires-clause-size g c =
    let same = c.loop-slot.invariant.reads.works.sectors in
    omega (arith, same, c.is_used.ensures.reads.work.works.sectors, c.requires)

-- ---- the device calls

pub returns-in_err-used-clause-reads : goal.returns-in_err-used-clause-reads
returns-in_err-used-clause-reads g c =
    read-error _ _ _ _ _ c.loop-slot.invariant.reads c.in_err-used.ensures.reads tt c.from_residual.ensures.0

pub returns-then-not-used-clause-reads : goal.returns-then-not-used-clause-reads
returns-then-not-used-clause-reads g c =
    read-then _ _ _ _ (read-more _ _ _ _ c.loop-slot.invariant.reads c.in_ok-used.ensures.reads tt)
    c.gate_fault.ensures.reads

pub returns-in_err-_record-clause-reads : goal.returns-in_err-_record-clause-reads
returns-in_err-_record-clause-reads g c =
    read-error _ _ _ _ _ (read-more _ _ _ _ c.loop-slot.invariant.reads c.in_ok-used.ensures.reads tt)
    c.in_err-_record.ensures.reads tt c.from_residual-in_err-_record.ensures.0

pub returns-in_default-clause-reads : goal.returns-in_default-clause-reads
returns-in_default-clause-reads g c =
    let found = read-more _ _ _ _ c.loop-slot.invariant.reads c.in_ok-used.ensures.reads tt in
    read-done _ _ _ (read-more _ _ _ _ found c.in_ok-_record.ensures.reads tt) tt

pub returns-clause-reads : goal.returns-clause-reads
returns-clause-reads g c = read-done _ _ _ c.loop-slot.invariant.reads tt

-- ---- a slot that is not used

pub returns-then-not-used-clause-fault : goal.returns-then-not-used-clause-fault
returns-then-not-used-clause-fault g c =
    let d = g.D.SectorDisk.disk in
    let old = d c.args.disk.now in
    let start = d c.loop-slot.disk in
    let mid = d c.is_used.new.disk in
    let new = d c.gate_fault.new.disk in
    let inv = c.loop-slot.invariant in
    let to_mid = c.is_used.ensures.reads.work.works in
    let to_new = c.gate_fault.ensures.reads.work.works in
    let found = read-more old start mid _ inv.reads c.in_ok-used.ensures.reads tt in
    IfOk-weaker c.gate_fault.result _ _ (λ fault known honest.
    let before = honest-before old mid new found to_new honest in
    unused-fault (now old).seen c.args.area c.args.count c.loop-slot.slot fault c.loop-slot-test.true
    (inv.sound (honest-before old start mid inv.reads to_mid before))
    (λ used. (
    let yes : c.in_ok-used.used ≡ true = (c.in_ok-used.ensures.used before).1
    (subst (λ (s : DiskState). IsUsed s.seen c.args.area c.args.count c.loop-slot.slot)
    (sym (same-before old start mid inv.reads to_mid before)) used) in
    true≢false (sym yes ∙ c.if-not-used.true)
    ))
    (subst (λ (s : DiskState). GateFaultIs s.seen c.args.area c.loop-slot.slot fault)
    (same-before old mid new found to_new honest) (known honest)))
    c.gate_fault.ensures.fault

-- ---- the record of one that is

pub returns-in_default-clause-fault : goal.returns-in_default-clause-fault
returns-in_default-clause-fault g c honest =
    let d = g.D.SectorDisk.disk in
    let old = d c.args.disk.now in
    let start = d c.loop-slot.disk in
    let mid = d c.is_used.new.disk in
    let new = d c.read_record.new.disk in
    let inv = c.loop-slot.invariant in
    let to_mid = c.is_used.ensures.reads.work.works in
    let to_new = c.read_record.ensures.reads.work.works in
    let found = read-more old start mid _ inv.reads c.in_ok-used.ensures.reads tt in
    let before = honest-before old mid new found to_new honest in
    record {
      slot = c.loop-slot.slot;
      within = c.loop-slot-test.true;
      before = inv.sound (honest-before old start mid inv.reads to_mid before);
      fault = inl (
        c.slot_body.ensures.at,
        subst (λ (s : DiskState). IsUsed s.seen c.args.area c.args.count c.loop-slot.slot)
            (same-before old start mid inv.reads to_mid before)
            ((c.in_ok-used.ensures.used before).0 c.if-not-used.false),
        λ has. (rw c.in_default.is at (c.in_ok-_record.ensures.value honest))
            (subst (λ (s : DiskState). HasRecord (s.seen (slot_body c.args.area c.loop-slot.slot)))
            (sym (same-before old mid new found to_new honest)) has),
      );
    }

pub loop-slot-preserved : goal.loop-slot-preserved
loop-slot-preserved g c =
    let d = g.D.SectorDisk.disk in
    let old = d c.args.disk.now in
    let start = d c.loop-slot.disk in
    let mid = d c.is_used.new.disk in
    let new = d c.read_record.new.disk in
    let inv = c.loop-slot.invariant in
    let to_mid = c.is_used.ensures.reads.work.works in
    let to_new = c.read_record.ensures.reads.work.works in
    let found = read-more old start mid _ inv.reads c.in_ok-used.ensures.reads tt in
    record {
      reads = read-more old mid new _ found c.in_ok-_record.ensures.reads tt;
      sound = λ honest j below.
          let before = honest-before old mid new found to_new honest in
          elim (cases_lt j c.loop-slot.slot) [
            | inl early ↦ inv.sound (honest-before old start mid inv.reads to_mid before) j early
            | inr here ↦
                let same : c.loop-slot.slot ≡ j = omega (arith, below, here) in
                let used = subst (λ (s : DiskState). IsUsed s.seen c.args.area c.args.count c.loop-slot.slot)
                (same-before old start mid inv.reads to_mid before)
                ((c.in_ok-used.ensures.used before).0 c.if-not-used.false) in
                let has = subst (λ (s : DiskState). HasRecord (s.seen (slot_body c.args.area c.loop-slot.slot)))
                (same-before old mid new found to_new honest)
                (c.in-Some._record, rw c.in-Some.is at (c.in_ok-_record.ensures.value honest)) in
                subst (λ (n : ℕ). IsSound (now old).seen c.args.area c.args.count n) same (used, has)
          ];
    }

pub returns-clause-fault : goal.returns-clause-fault
returns-clause-fault g c honest = record {
  free = c.loop-slot.slot;
  before = c.loop-slot.invariant.sound honest;
  behind = inl (let past = c.loop-slot-test.false in let auto = c.loop-slot.auto in omega (arith, past, auto));
}
