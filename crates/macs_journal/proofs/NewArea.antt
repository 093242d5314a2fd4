-- What a power loss leaves during a compaction, by the sectors that are left alone.
use Rattle.std.proofs.Common.{◌≡◌, ◌≢◌, ◌<◌, ◌≤◌, ◌+◌, inl, inr, ⊎_elim, ℕ, refl, sym, ◌∙◌, ap, subst, arith, List}
use Rattle.std.proofs.Common.{length}
use Rattle.macs_disk.specs.States.{DiskState, Image}
use Rattle.macs_disk.specs.Disk.{Disk, Works, now}
use Rattle.macs_disk.specs.Runs.{Leaves}
use Rattle.macs_disk.proofs.Moments.{Leaves-join, Leaves-now, Works-on}
use Rattle.macs_record.specs.Decoding.{IsSectorOf}
use Rattle.macs_record.specs.Gates.{IsOpen, open_gate}
use Rattle.macs_record.specs.Heads.{Head, IsHeadOf}
use Rattle.macs_record.specs.declared.record.Record.{Record}
use Rattle.macs_journal.specs.Appending.{HasEitherJournal, IsReady}
use Rattle.macs_journal.specs.Areas.{gate, gates, head_body, other_area, slot_body, slots}
use Rattle.macs_journal.specs.Compacting.{CompactWrites, compacted, next_head}
use Rattle.macs_journal.specs.Found.{Content, HasJournal, IsGateOpen, IsPast}
use Rattle.macs_journal.specs.NewArea.{AreBodies, AreClosed, HasNewGates, IsNoBody, IsNoOpenGate, IsOldOrOpening}
use Rattle.macs_journal.specs.NewArea.{IsSettled, IsShut}
use Rattle.macs_journal.specs.Work.{IsSpared}
use Rattle.macs_journal.proofs.Appends.{open_or_closed}
use Rattle.macs_journal.proofs.Current.{alone}
use Rattle.macs_journal.proofs.OpenGates.{new-gates}
use Rattle.macs_journal.proofs.Spared.{Spared-on, Spared-seen, left-same}

-- ---- one image

module _ (before : Content) (area : ℕ) (area_is : other_area before.area ≡ area) (s : DiskState)
    (ready : IsReady s before) where
  past-there : IsPast s.durable area before.head
  past-there = subst (λ (a : ℕ). IsPast s.durable a before.head) area_is ready.finds.past

  -- gates of the other area are closed
  closing-finds : (image : Image) → ((i : ℕ) → IsNoOpenGate s.seen area 0 gates i → image i ≡ s.durable i)
      → HasJournal image before
  closing-finds image same =
      let within = ready.finds.stands.area in
      alone s.durable image before ready.finds
      (λ i from until. same i (λ k le lt opens here. omega (arith, within, area_is, from, until, lt, here)))
      (subst (λ (a : ℕ). IsPast image a before.head) (sym area_is)
      (λ opens. elim (open_or_closed (s.seen (gate area 0))) [
        | inl was ↦
            let e = past-there (subst IsOpen (ready.fresh (gate area 0)) was) in
            record {
              past = e.past;
              is = subst (IsHeadOf e.past)
                  (sym (same (head_body area) (λ k le lt opens here. omega (arith, here)))) e.is;
              earlier = e.earlier;
              same = e.same;
            }
        | inr not ↦
            let here : image (gate area 0) ≡ s.seen (gate area 0) =
            same (gate area 0) (λ k le lt was here. not
            (subst (λ (n : ℕ). IsGateOpen s.seen area n) (let first : k ≡ 0 = omega (arith, here) in first) was))
            ∙ sym (ready.fresh (gate area 0)) in
            absurd (not (subst IsOpen here opens))
      ]))

  module _ (count : ℕ) (few : count ≤ slots) (closed : IsShut s.seen area) where
    -- its bodies are written then
    filling-finds : (image : Image) → ((i : ℕ) → i ≢ head_body area → IsNoBody area count i → image i ≡ s.durable i)
        → HasJournal image before
    filling-finds image same =
        let within = ready.finds.stands.area in
        alone s.durable image before ready.finds
        (λ i from until. same i (omega (arith, within, area_is, from, until))
        (λ j lt. omega (arith, within, area_is, from, until, lt, few)))
        (subst (λ (a : ℕ). IsPast image a before.head) (sym area_is) (λ opens. absurd (closed 0 (omega arith)
        (subst IsOpen
        (same (gate area 0) (omega arith) (λ j lt. omega arith) ∙ sym (ready.fresh (gate area 0))) opens))))

-- the bodies are written, and only the head gate may still change
module _ (before : Content) (area : ℕ) (area_is : other_area before.area ≡ area) (s : DiskState)
    (ready : IsReady s before)
    (records : List Record) (few : length records ≤ slots) (closed : IsShut s.seen area) (head : Head)
    (head_is : next_head before.head (length records) ≡ head)
    (seen : Image) (head_body_is : IsHeadOf head (seen (head_body area))) (bodies : AreBodies seen area records)
    (kept : (i : ℕ) → i ≢ head_body area → IsNoBody area (length records) i → seen i ≡ s.seen i) where
  -- sectors of the area that was current
  old-sector : (image : Image) → ((i : ℕ) → i ≢ gate area 0 → image i ≡ seen i)
      → (i : ℕ) → head_body before.area ≤ i → i < head_body before.area + 514 → image i ≡ s.durable i
  old-sector image same i from until =
      let within = ready.finds.stands.area in
      same i (omega (arith, within, area_is, from, until))
      ∙ kept i (omega (arith, within, area_is, from, until))
      (λ j lt. omega (arith, within, area_is, from, until, lt, few))
      ∙ ready.fresh i

  new-finds : (image : Image) → ((i : ℕ) → i ≢ gate area 0 → image i ≡ seen i) → IsGateOpen image area 0
      → HasJournal image (compacted before records)
  new-finds image same opens =
      let within = ready.finds.stands.area in
      let back : before.area ≡ other_area area = omega (arith, within, area_is) in
      let generation : before.head.generation + 1 ≡ head.generation = ap (λ (h : Head). h.generation) head_is in
      let count : length records ≡ head.count = ap (λ (h : Head). h.count) head_is in
      let identity : before.head.identity ≡ head.identity = ap (λ (h : Head). h.identity) head_is in
      let old_head : IsHeadOf before.head (image (head_body before.area)) =
      subst (IsHeadOf before.head) (sym (old-sector image same (head_body before.area) (omega arith) (omega arith)))
      ready.finds.stands.head.is in
      subst (λ (h : Head). HasJournal image (record { area = other_area before.area; head = h; records = records }))
      (sym head_is)
      (subst (λ (a : ℕ). HasJournal image (record { area = a; head = head; records = records })) (sym area_is)
      (record {
        stands = record {
          area = omega (arith, within, area_is);
          head = record {
            open_gate = opens;
            is =
                subst (IsHeadOf head) (sym (same (head_body area) (omega arith))) head_body_is;
          };
          snapshot = omega (arith, count);
          few = few;
          opened = λ j from lt. absurd (omega (arith, from, lt, count));
          closed = λ j from lt is. closed (j + 1) (omega (arith, lt)) (subst IsOpen
              (same (gate area (j + 1)) (omega arith)
              ∙ kept (gate area (j + 1)) (omega arith) (λ k lt. omega arith)) is);
          bodies = λ j r at. subst (IsSectorOf r) (sym (same (slot_body area j) (omega arith))) (bodies j r at);
        };
        past = λ is. record {
          past = before.head;
          is = subst (λ (a : ℕ). IsHeadOf before.head (image (head_body a))) back old_head;
          earlier = omega (arith, generation);
          same = identity;
        };
      }))

  -- whether the gate is open or not
  either-finds : (image : Image) → ((i : ℕ) → i ≢ gate area 0 → image i ≡ seen i)
      → HasEitherJournal before (compacted before records) image
  either-finds image same = elim (open_or_closed (image (gate area 0))) [
    | inl opens ↦ inr (new-finds image same opens)
    | inr not ↦
        inl (alone s.durable image before ready.finds (old-sector image same)
        (subst (λ (a : ℕ). IsPast image a before.head) (sym area_is) (λ opens. absurd (not opens))))
  ]

-- ---- the runs, one after another

module _ (old mid : Disk) (before : Content) (area : ℕ) (area_is : other_area before.area ≡ area)
    (ready : IsReady (now old) before) (to_mid : Works old mid)
    (clearing : (i : ℕ) → IsNoOpenGate (now old).seen area 0 gates i → IsSpared old mid i) where
  pub leaves-clearing : Leaves old mid (λ image. HasJournal image before)
  leaves-clearing = record {
    works = to_mid;
    each = λ image left. closing-finds before area area_is (now old) ready image
        (λ i apart. left-same old mid image i (ready.clean i) (clearing i apart) left);
  }

  module _ (settled : IsSettled (now mid)) (closed : IsShut (now mid).seen area) where
    ready-cleared : IsReady (now mid) before
    ready-cleared = record {
      clean = settled.clean;
      fresh = settled.fresh;
      finds = closing-finds before area area_is (now old) ready (now mid).durable
          (λ i apart. sym (settled.fresh i) ∙ Spared-seen old mid i to_mid (clearing i apart) ∙ ready.fresh i);
    }

    module _ (full : Disk) (records : List Record) (few : length records ≤ slots) (to_full : Works mid full)
        (filling : (i : ℕ) → i ≢ head_body area → IsNoBody area (length records) i → IsSpared mid full i) where
      -- until the head gate is written what is found is what was found before
      pub leaves-filling : Leaves old full (λ image. HasJournal image before)
      leaves-filling =
          Leaves-join old mid full (λ image. HasJournal image before) (λ image. HasJournal image before)
          (λ image. HasJournal image before) leaves-clearing
          (record {
            works = to_full;
            each = λ image left.
                filling-finds before area area_is (now mid) ready-cleared (length records) few closed image
                (λ i not_head no_body. left-same mid full image i (settled.clean i) (filling i not_head no_body) left);
          }) (λ image finds. finds) (λ image finds. finds)

      module _ (head : Head) (head_is : next_head before.head (length records) ≡ head)
          (head_body_is : IsHeadOf head ((now full).seen (head_body area)))
          (bodies : AreBodies (now full).seen area records) where
        seen-kept : (i : ℕ) → i ≢ head_body area → IsNoBody area (length records) i
            → (now full).seen i ≡ (now mid).seen i
        seen-kept i not_head no_body = Spared-seen mid full i to_full (filling i not_head no_body)

        pub leaves-opening : (new : Disk) → Leaves full new (IsOldOrOpening (now full) area)
            → Leaves old new (HasEitherJournal before (compacted before records))
        leaves-opening new opening =
            Leaves-join old full new (λ image. HasJournal image before) (IsOldOrOpening (now full) area)
            (HasEitherJournal before (compacted before records))
            leaves-filling opening (λ image finds. inl finds)
            (λ image left. ⊎_elim (λ as_before.
            inl (Leaves-now old full (λ image. HasJournal image before) leaves-filling image as_before))
            (λ same. either-finds before area area_is (now mid) ready-cleared records few closed head head_is
            (now full).seen head_body_is bodies seen-kept image same) left)

        pub ready-compacted : (new : Disk) → Works full new → ((i : ℕ) → i ≢ gate area 0 → IsSpared full new i)
            → IsSettled (now new)
            → IsGateOpen (now new).seen area 0 → IsReady (now new) (compacted before records)
        ready-compacted new to_new opening stands opens = record {
          clean = stands.clean;
          fresh = stands.fresh;
          finds = new-finds before area area_is (now mid) ready-cleared records few closed head head_is (now full).seen
              head_body_is bodies seen-kept (now new).durable
              (λ i apart. sym (stands.fresh i) ∙ Spared-seen full new i to_new (opening i apart))
              (subst IsOpen (stands.fresh (gate area 0)) opens);
        }

-- ---- sectors left alone

module _ (old mid : Disk) (area count : ℕ) (to_mid : Works old mid)
    (clearing : (i : ℕ) → IsNoOpenGate (now old).seen area 0 gates i → IsSpared old mid i) where
  pub spared-clearing : (i : ℕ) → (¬ CompactWrites (now old).seen area count i) → IsSpared old mid i
  spared-clearing i apart = clearing i (λ k le lt opens here. apart (inr (inr (k, lt, opens, here))))

  module _ (full : Disk) (to_full : Works mid full) (filling : (i : ℕ) → i ≢ head_body area → IsNoBody area count i
      → IsSpared mid full i) where
    pub spared-filling : (i : ℕ) → (¬ CompactWrites (now old).seen area count i) → IsSpared old full i
    spared-filling i apart =
        Spared-on old mid full i to_mid to_full (spared-clearing i apart)
        (filling i (λ here. apart (inl (inl here))) (λ j lt here. apart (inr (inl (j, lt, here)))))

    pub spared-opening : (new : Disk) → Works full new → ((i : ℕ) → i ≢ gate area 0 → IsSpared full new i)
        → (i : ℕ) → (¬ CompactWrites (now old).seen area count i) → IsSpared old new i
    spared-opening new to_new opening i apart =
        Spared-on old full new i (Works-on old mid full to_mid to_full) to_new (spared-filling i apart)
        (opening i (λ here. apart (inl (inr here))))

-- ---- what is in the gates

-- they were closed, and then the bodies were written and the head was opened
pub gates-opened : (old mid full new : Disk) (area count : ℕ) → AreClosed (now old).seen (now mid).seen area 0 gates
    → Works mid full → ((i : ℕ) → i ≢ head_body area → IsNoBody area count i → IsSpared mid full i)
    → Works full new → ((i : ℕ) → i ≢ gate area 0 → IsSpared full new i) → (now new).seen (gate area 0) ≡ open_gate
    → HasNewGates (now old).seen (now new).seen area
gates-opened old mid full new area count closed to_full filling to_new opening head =
    new-gates (now old).seen (now old).seen (now mid).seen (now new).seen area 0 (omega arith) (λ k. refl) closed
    (λ k. Spared-seen full new (gate area (k + 1)) to_new (opening (gate area (k + 1)) (omega arith))
    ∙ Spared-seen mid full (gate area (k + 1)) to_full
    (filling (gate area (k + 1)) (omega arith) (λ j lt. omega arith))) head
