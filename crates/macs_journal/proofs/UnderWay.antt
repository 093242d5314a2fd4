-- One device call of a compaction, whatever it answers, and what a power loss leaves while it is under way.
use Rattle.std.proofs.Common.{◌≡◌, ◌≤◌, ◌↔◌, ◌+◌, inl, inr, ℕ, refl, sym, subst, arith, Bool, true, false, IsTrue, List}
use Rattle.std.proofs.Common.{length, Result, Ok, Err}
use Rattle.std.specs.Prelude.{OnOk}
use Rattle.std.proofs.lemmas.Option.{slice_get_within}
use Rattle.macs_disk.specs.Disk.{Disk, IsDeviceCall, now}
use Rattle.macs_disk.specs.Runs.{Leaves}
use Rattle.macs_disk.specs.States.{IsSound}
use Rattle.macs_disk.proofs.Moments.{Leaves-weaker, Works-start}
use Rattle.macs_record.specs.Gates.{IsOpen, closed_gate}
use Rattle.macs_record.specs.Heads.{Head}
use Rattle.macs_record.specs.declared.record.Record.{Record}
use Rattle.macs_journal.specs.Appending.{HasEitherJournal, IsReady}
use Rattle.macs_journal.specs.Areas.{gate, gates, head_body, other_area, slot_body, slots}
use Rattle.macs_journal.specs.Found.{Content, HasJournal}
use Rattle.macs_journal.specs.Compacted.{CompactWrites, FindsUntil, HasOpenGates, compacted, next_head}
use Rattle.macs_journal.specs.NewArea.{AreBodies, HasNewGates}
use Rattle.macs_journal.specs.Stages.{AreBodiesWritten, AreGatesClosed, AtNextStage, AtStage, Does, IsCompactStage}
use Rattle.macs_journal.specs.Stages.{IsCompacted, IsUnderWay, body_from, gate_from, next_stage}
use Rattle.macs_journal.specs.Work.{IsSpared}
use Rattle.macs_journal.specs.declared.compact_stage.CompactStage.{CompactStage}
use Rattle.macs_journal.specs.declared.compact_stage.CompactStage.TheVariants.{ReadGate, CloseGate, GatesSync, HeadBody}
use Rattle.macs_journal.specs.declared.compact_stage.CompactStage.TheVariants.{Body, BodiesSync, HeadGate, HeadSync}
use Rattle.macs_journal.proofs.BodyCalls.{body-written, filling-first, filling-more, head-written}
use Rattle.macs_journal.proofs.GateCalls.{clearing, gate-closed, gates-synced, read-closed, read-open}
use Rattle.macs_journal.proofs.HeadCalls.{bodies-durable, head-opened, opening-first, opening-synced, opening-written}
use Rattle.macs_journal.proofs.HeadCalls.{becomes-compacted, left-until, open_gate-opens}
use Rattle.macs_journal.proofs.NewArea.{gates-opened, leaves-clearing, leaves-filling, leaves-opening}
use Rattle.macs_journal.proofs.NewArea.{ready-compacted, spared-clearing, spared-filling, spared-opening}
use Rattle.macs_journal.proofs.Spared.{Spared-read, Spared-start, Spared-sync, Spared-write}
use Rattle.macs_journal.proofs.Stages.{body_from-cases, gate_from-cases}

-- ---- one call

module _ (began new : Disk) (area : ℕ) (head : Head) (records : List Record) where
  -- before the next gate, or after the last
  at-gates : (k : ℕ) → AreGatesClosed began new area k 0 → AtStage began new area head records (gate_from k)
  at-gates k at = elim (gate_from-cases k) [
    | inl last ↦ subst (AtStage began new area head records) (sym last.1)
        (subst (λ (n : ℕ). AreGatesClosed began new area n 0) last.0 at)
    | inr more ↦ subst (AtStage began new area head records) (sym more.1) at
  ]

  at-bodies : (slot : ℕ) → AreBodiesWritten began new area head records slot
      → AtStage began new area head records (body_from (length records) slot)
  at-bodies slot at = elim (body_from-cases (length records) slot) [
    | inl last ↦ subst (AtStage began new area head records) (sym last.1)
        (subst (λ (n : ℕ). AreBodiesWritten began new area head records n) last.0 at)
    | inr more ↦ subst (AtStage began new area head records) (sym more.1) at
  ]

module _ {T E : Type 0} (began d new : Disk) (area : ℕ) (head : Head) (records : List Record) (read : List ℕ)
    (sound : IsSound (now d)) where
  pub call-under_way : (stage : CompactStage) (result : Result T E) → IsCompactStage (length records) stage
      → AtStage began d area head records stage
      → IsDeviceCall d new result → Does (now d) (now new) area head records stage read result
      → IsUnderWay began new area head records
  call-under_way (ReadGate k) result fits at call does =
      inl (clearing began d area k 0 at new (omega (arith, fits)) call.work.works
      (λ i apart. Spared-read d new (gate area k) read result i call does))
  call-under_way (CloseGate k) result fits at call does =
      inl (clearing began d area k 1 at.0 new (omega (arith, fits)) call.work.works
      (λ i apart. Spared-write d new (gate area k) closed_gate result i (apart k (omega arith) fits at.1) call does))
  call-under_way GatesSync result fits at call does =
      inl (clearing began d area gates 0
      at new (omega arith) call.work.works (λ i apart. Spared-sync d new result i sound call does))
  call-under_way HeadBody result fits at call does =
      inr (inl (filling-first began d new area (length records)
      at call.work.works (λ i apart. Spared-write d new (head_body area) does.0 result i apart call does.2)))
  call-under_way (Body slot) result fits at call does =
      inr (inl (filling-more began d new area head records slot at fits call.work.works
      (λ i apart. Spared-write d new (slot_body area slot) does.0 result i apart call does.2)))
  call-under_way BodiesSync result fits at call does =
      inr (inr (opening-first began d new area head records result at sound call does))
  call-under_way HeadGate result fits at call does =
      inr (inr (opening-written began d new area head records result at call does))
  call-under_way HeadSync result fits at call does =
      inr (inr (opening-synced began d new area head records result at sound call does))

  pub call-next : (stage : CompactStage) (is_open : Bool) (result : Result T E) → (IsTrue is_open ↔ IsOpen read)
      → AtStage began d area head records stage
      → IsDeviceCall d new result → OnOk result (new.clock ≡ d.clock + 1)
      → Does (now d) (now new) area head records stage read result
      → OnOk result (AtNextStage began new area head records (next_stage (length records) stage is_open))
  call-next stage is_open (Err e) test at call one does = tt
  call-next (ReadGate k) true (Ok x) test at call one does =
      read-open began d new area k
      at call.work.works one does.same (λ i. Spared-read d new (gate area k) read (Ok x) i call does)
      (subst IsOpen does.ok (test.0 refl))
  call-next (ReadGate k) false (Ok x) test at call one does =
      at-gates began new area head records (k + 1) (read-closed began d new area k
      at call.work.works one does.same (λ i. Spared-read d new (gate area k) read (Ok x) i call does)
      (λ opens. absurd (let is = test.1 (subst IsOpen (sym does.ok) opens) in cc)))
  call-next (CloseGate k) is_open (Ok x) test at call one does =
      at-gates began new area head records (k + 1) (gate-closed began d new area k at.0 at.1 call.work.works one does.ok
      (λ i apart. Spared-write d new (gate area k) closed_gate (Ok x) i apart call does))
  call-next GatesSync is_open (Ok x) test at call one does =
      gates-synced began d new area at call.work.works one does.ok (λ i. Spared-sync d new (Ok x) i sound call does)
  call-next HeadBody is_open (Ok x) test at call one does =
      at-bodies began new area head records 0 (head-written began d new area head records does.0 at call.work.works one
      does.1 does.2.ok (λ i apart. Spared-write d new (head_body area) does.0 (Ok x) i apart call does.2))
  call-next (Body slot) is_open (Ok x) test at call one does =
      at-bodies began new area head records (slot + 1)
      (body-written began d new area head records slot does.0 at call.work.works one does.1 does.2.ok
      (λ i apart. Spared-write d new (slot_body area slot) does.0 (Ok x) i apart call does.2))
  call-next BodiesSync is_open (Ok x) test at call one does =
      bodies-durable began d new area head records (Ok x) at sound call does one does.ok
  call-next HeadGate is_open (Ok x) test at call one does =
      head-opened began d new area head records (Ok x) at call does one does.ok
  call-next HeadSync is_open (Ok x) test at call one does =
      becomes-compacted began d new area head records (Ok x) at sound call does one does.ok

-- ---- what a power loss leaves while it is under way

-- before each call
pub at-under_way : (began d : Disk) (area : ℕ) (head : Head) (records : List Record) (stage : CompactStage)
    → IsCompactStage (length records) stage
    → AtStage began d area head records stage → IsUnderWay began d area head records
at-under_way began d area head records (ReadGate k) fits at =
    inl (clearing began d area k 0 at d (omega (arith, fits)) (Works-start d) (λ i apart. Spared-start d i))
at-under_way began d area head records (CloseGate k) fits at =
    inl (clearing began d area k 1 at.0 d (omega (arith, fits)) (Works-start d) (λ i apart. Spared-start d i))
at-under_way began d area head records GatesSync fits at =
    inl (clearing began d area gates 0 at d (omega arith) (Works-start d) (λ i apart. Spared-start d i))
at-under_way began d area head records HeadBody fits at =
    inr (inl (filling-first began d d area (length records) at (Works-start d) (λ i apart. Spared-start d i)))
at-under_way began d area head records (Body slot) fits at =
    inr (inl (filling-more began d d area head records slot at fits (Works-start d) (λ i apart. Spared-start d i)))
at-under_way began d area head records BodiesSync fits at =
    inr (inl (record { mid = at.mid; cleared = at.cleared; works = at.works; others = at.others }))
at-under_way began d area head records HeadGate fits at = inr (inr at.opening)
at-under_way began d area head records HeadSync fits at = inr (inr at.opening)

-- the bodies of all records
all-bodies : (began full : Disk) (area : ℕ) (head : Head) (records : List Record)
    → AreBodiesWritten began full area head records (length records)
    → AreBodies (now full).seen area records
all-bodies began full area head records at j r is = at.bodies j (slice_get_within records j r is) r is

module _ (began d : Disk) (area : ℕ) (head : Head) (records : List Record) (few : length records ≤ slots) where
  module _ (before : Content) (ready : IsReady (now began) before) (area_is : other_area before.area ≡ area) where
    filled-leaves : (full : Disk) → AreBodiesWritten began full area head records (length records)
        → Leaves began full (λ image. HasJournal image before)
    filled-leaves full at =
        leaves-filling began at.mid before area area_is ready at.cleared.works at.cleared.spared at.cleared.settled
        at.cleared.shut full records few at.works at.others

    pub way-leaves : next_head before.head (length records) ≡ head → IsUnderWay began d area head records
        → Leaves began d (HasEitherJournal before (compacted before records))
    way-leaves head_is (inl at) =
        Leaves-weaker began d (λ image. HasJournal image before) (HasEitherJournal before (compacted before records))
        (λ image has. inl has)
        (leaves-clearing began d before area area_is ready at.works at.spared)
    way-leaves head_is (inr (inl at)) =
        Leaves-weaker began d (λ image. HasJournal image before) (HasEitherJournal before (compacted before records))
        (λ image has. inl has)
        (leaves-filling began at.mid before area area_is ready at.cleared.works at.cleared.spared at.cleared.settled
        at.cleared.shut d records few at.works at.others)
    way-leaves head_is (inr (inr at)) =
        let f = at.filled in
        leaves-opening began f.mid before area area_is ready f.cleared.works f.cleared.spared f.cleared.settled
        f.cleared.shut at.full records few f.works f.others
        head head_is f.head_is (all-bodies began at.full area head records f) d at.leaves

    pub way-until : IsUnderWay began d area head records → (opened : ℕ)
        → HasOpenGates (now began).seen area gates opened
        → FindsUntil began d (began.clock + (261 + opened + length records)) before
    way-until (inl at) opened has k from until lt image left =
        (leaves-clearing began d before area area_is ready at.works at.spared).each image (k, from, until, left)
    way-until (inr (inl at)) opened has k from until lt image left =
        (leaves-filling began at.mid before area area_is ready at.cleared.works at.cleared.spared at.cleared.settled
        at.cleared.shut d records few at.works at.others).each
        image (k, from, until, left)
    way-until (inr (inr at)) opened has k from until lt image left =
        let cleared = at.filled.cleared.calls opened has in
        let filled = at.filled.calls in
        left-until began at.full d (λ image. HasJournal image before) (began.clock + (261 + opened + length records))
        (filled-leaves at.full at.filled) at.leaves.works
        (λ k from until lt. at.until k from until (omega (arith, lt, cleared, filled))) k from until lt image left

    pub way-ready : next_head before.head (length records) ≡ head → IsCompacted began d area head records
        → IsReady (now d) (compacted before records)
    way-ready head_is at =
        let o = at.opening in
        let f = o.filled in
        ready-compacted began f.mid before area area_is ready f.cleared.works f.cleared.spared f.cleared.settled
        f.cleared.shut o.full records few f.works f.others
        head head_is f.head_is (all-bodies began o.full area head records f) d o.leaves.works o.others at.settled
        (subst IsOpen (sym at.opened) open_gate-opens)

  pub way-spares : IsUnderWay began d area head records → (i : ℕ)
      → (¬ CompactWrites (now began).seen area (length records) i) → IsSpared began d i
  way-spares (inl at) = spared-clearing began d area (length records) at.works at.spared
  way-spares (inr (inl at)) =
      spared-filling began at.mid area (length records) at.cleared.works at.cleared.spared d at.works at.others
  way-spares (inr (inr at)) =
      let f = at.filled in
      spared-opening began f.mid area (length records) f.cleared.works f.cleared.spared at.full f.works f.others d
      at.leaves.works at.others

  -- once it is done
  pub compacted-way : IsCompacted began d area head records → IsUnderWay began d area head records
  compacted-way at = inr (inr at.opening)

  pub way-gates : IsCompacted began d area head records → HasNewGates (now began).seen (now d).seen area
  way-gates at =
      let o = at.opening in
      let f = o.filled in
      gates-opened began f.mid o.full d area (length records) f.cleared.closed f.works f.others o.leaves.works
      o.others at.opened

  pub way-calls : IsCompacted began d area head records → (opened : ℕ) → HasOpenGates (now began).seen area gates opened
      → d.clock ≡ began.clock + (262 + opened + length records)
  way-calls at opened has =
      let cleared = at.opening.filled.cleared.calls opened has in
      let filled = at.opening.filled.calls in
      let last = at.calls in
      omega (arith, cleared, filled, last)
