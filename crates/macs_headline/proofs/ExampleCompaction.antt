-- A compaction in which the power fails before the third body is written.
use Rattle.std.proofs.Common.{◌≡◌, ◌≢◌, ◌<◌, ◌≤◌, ◌+◌, ◌-◌, inl, inr, ℕ, zero, suc, true, false, List, [], ◌∷◌, length}
use Rattle.std.proofs.Common.{take}
use Rattle.std.proofs.Common.{refl, sym, ◌∙◌, ap, subst, arith}
use Rattle.std.specs.Prelude.{slice_get}
use Rattle.std.specs.List.{AllByRecursion}
use Rattle.macs_disk.specs.Disk.{Works}
use Rattle.macs_disk.specs.States.{DiskState, Image, settled_state, state_after_write}
use Rattle.macs_disk.proofs.Images.{put-other}
use Rattle.macs_record.specs.Heads.{Head, IsHead, head_sector_of}
use Rattle.macs_record.specs.Layout.{IsRecord, sector_of}
use Rattle.macs_record.specs.declared.record.Record.{Record}
use Rattle.macs_journal.specs.Appending.{IsReady}
use Rattle.macs_journal.specs.Areas.{gates, head_body, other_area, slot_body, slots}
use Rattle.macs_journal.specs.Compacting.{HasOpenGates, compacted, next_head}
use Rattle.macs_journal.specs.Found.{Content, HasJournal, IsGateOpen}
use Rattle.macs_journal.specs.NewArea.{IsNoBody, IsSettled}
use Rattle.macs_journal.specs.Stages.{AreBodiesWritten, IsBodyOf, IsCleared}
use Rattle.macs_journal.specs.Value.{IsCompacting}
use Rattle.macs_journal.specs.Work.{IsSpared}
use Rattle.macs_journal.specs.declared.compact_stage.CompactStage.TheVariants.{Body}
use Rattle.macs_headline.specs.ExampleCuts.{Write, body_writes, compaction_states, compaction_writes, disk_through}
use Rattle.macs_headline.specs.ExampleCuts.{state_after_writes}
use Rattle.macs_headline.specs.Images.{image_with_area, image_with_bodies}
use Rattle.macs_headline.proofs.Built.{area-body, area-head, each_get}

-- ---- writes, one after another

-- a sector that none of them writes is as it was
writes_apart : (ws : List Write) (s : DiskState) (i : ℕ) → AllByRecursion (λ (w : Write). i ≢ w.at) ws
    → ((state_after_writes s ws).seen i ≡ s.seen i) × ((state_after_writes s ws).pending i ≡ s.pending i)
unfolding state_after_writes
writes_apart [] s i apart = (refl, refl)
writes_apart (w ∷ ws) s i apart =
    let rest = writes_apart ws (state_after_write s w.at w.octets) i apart.1 in
    (rest.0 ∙ put-other s.seen w.at i w.octets apart.0, rest.1 ∙ put-other s.pending w.at i true apart.0)

-- none of them is durable
writes_durable : (ws : List Write) (s : DiskState) → (state_after_writes s ws).durable ≡ s.durable
unfolding state_after_writes
writes_durable [] s = refl
writes_durable (w ∷ ws) s = writes_durable ws (state_after_write s w.at w.octets)

-- after them reads give the sectors that were written
bodies_seen : (rs : List Record) (s : DiskState) (area place : ℕ)
    → (state_after_writes s (body_writes area place rs)).seen ≡ image_with_bodies s.seen area place rs
unfolding state_after_writes body_writes image_with_bodies
bodies_seen [] s area place = refl
bodies_seen (r ∷ rs) s area place =
    bodies_seen rs (state_after_write s (slot_body area place) (sector_of r)) area (place + 1)

-- what holds of writes holds of the first of them
first_apart : (P : Write → Type 0) (n : ℕ) (ws : List Write) → AllByRecursion P ws → AllByRecursion P (take n ws)
first_apart P zero ws all = tt
first_apart P (suc n) [] all = tt
first_apart P (suc n) (w ∷ ws) all = (all.0, first_apart P n ws all.1)

-- how many of the first three writes were made, some calls after the sync
some_of : (n : ℕ) → n ≤ 3 → (ws : List Write) → take n ws ≡ take n (take 3 ws)
some_of zero le ws = refl
some_of (suc n) le [] = refl
some_of (suc zero) le (a ∷ ws) = refl
some_of (suc (suc zero)) le (a ∷ []) = refl
some_of (suc (suc zero)) le (a ∷ b ∷ ws) = refl
some_of (suc (suc (suc zero))) le (a ∷ []) = refl
some_of (suc (suc (suc zero))) le (a ∷ b ∷ []) = refl
some_of (suc (suc (suc zero))) le (a ∷ b ∷ c ∷ ws) = refl
some_of (suc (suc (suc (suc n)))) le ws = absurd (omega (arith, le))

-- the first of those of bodies
bodies_front : (area place n : ℕ) (rs : List Record)
    → take n (body_writes area place rs) ≡ body_writes area place (take n rs)
unfolding body_writes
bodies_front area place zero rs = refl
bodies_front area place (suc n) [] = refl
bodies_front area place (suc n) (r ∷ rs) =
    ap (λ (ws : List Write). record { at = slot_body area place; octets = sector_of r } ∷ ws)
    (bodies_front area (place + 1) n rs)

-- a sector that is none of two bodies is none of those that are written
two_apart : (area i : ℕ) (rs : List Record) → IsNoBody area 2 i
    → AllByRecursion (λ (w : Write). i ≢ w.at) (body_writes area 0 (take 2 rs))
unfolding body_writes
two_apart area i [] none = tt
two_apart area i (a ∷ []) none = (none 0 (omega arith), tt)
two_apart area i (a ∷ b ∷ rs) none = (none 0 (omega arith), (none 1 (omega arith), tt))

-- the first two are among the first two
first_two : (rs : List Record) (slot : ℕ) → slot < 2 → slice_get (take 2 rs) slot ≡ slice_get rs slot
first_two [] slot lt = refl
first_two (a ∷ rs) zero lt = refl
first_two (a ∷ []) (suc zero) lt = refl
first_two (a ∷ b ∷ rs) (suc zero) lt = refl
first_two (a ∷ rs) (suc (suc n)) lt = absurd (omega (arith, lt))

none_open : (image : Image) (area upto count : ℕ) → ((k : ℕ) → k < upto → ¬ IsGateOpen image area k)
    → HasOpenGates image area upto count → count ≡ 0
unfolding HasOpenGates
none_open image area zero count closed has = has
none_open image area (suc upto) count closed (inl (opens, more)) = absurd (closed upto (omega arith) opens)
none_open image area (suc upto) count closed (inr (shut, has)) =
    none_open image area upto count (λ k lt. closed k (omega (arith, lt))) has

-- ---- the compaction

module _ (image : Image) (c : Content) (records : List Record) where
  abbrev head : Head
  head = next_head c.head (length records)

  abbrev area : ℕ
  area = other_area c.area

  -- the first writes: that of the head's body, and those of the first two records
  abbrev three_writes : List Write
  three_writes =
      record { at = head_body area; octets = head_sector_of head } ∷ body_writes area 0 (take 2 records)

  three_are : take 3 (compaction_writes c records) ≡ three_writes
  three_are = ap (λ (ws : List Write). record { at = head_body area; octets = head_sector_of head } ∷ ws)
      (bodies_front area 0 2 records)

  -- at a moment of the calls
  abbrev moment : ℕ → DiskState
  moment = compaction_states image c records

  early : (k : ℕ) → k ≤ 258 → moment k ≡ settled_state image
  unfolding state_after_writes
  early k le = let none : k - 258 ≡ 0 = omega (arith, le) in
      ap (λ (n : ℕ). state_after_writes (settled_state image) (take n (compaction_writes c records))) none

  pub last-is : moment 261 ≡ state_after_writes (settled_state image) three_writes
  last-is = ap (λ (ws : List Write). state_after_writes (settled_state image) ws) three_are

  seen_is : (moment 261).seen ≡ image_with_area image area head (take 2 records)
  unfolding state_after_writes image_with_area
  seen_is = ap (λ (s : DiskState). s.seen) last-is ∙ bodies_seen (take 2 records)
      (state_after_write (settled_state image) (head_body area) (head_sector_of head)) area 0

  on : (from to : ℕ) → from ≤ to → Works (disk_through moment from) (disk_through moment to)
  on from to le = record {
    later = le;
    past = λ k lt. refl;
    failures = omega arith;
    worn = λ is. is;
    sectors = refl;
    honest = refl;
  }

  -- a sector is spared from one moment to another, if it is as it was at each moment between
  spared : (from to i : ℕ)
      → ((k : ℕ) → from ≤ k → k ≤ to → ((moment k).seen i ≡ image i) × ((moment k).pending i ≡ false)) → from ≤ to
      → IsSpared (disk_through moment from) (disk_through moment to) i
  spared from to i same le = record {
    reads = λ k low high. (same k low high).0 ∙ sym (same from (omega arith) le).0;
    leaves = λ k low high octets may. record {
      kept = λ clean. may.kept (same k low high).1 ∙ ap (λ (d : Image). d i) (durable_at k)
          ∙ sym (ap (λ (d : Image). d i) (durable_at from));
      whole = λ pending. let both : true ≡ false = sym pending ∙ (same from (omega arith) le).1 in absurd (cc);
    };
  } where
    durable_at : (k : ℕ) → (moment k).durable ≡ image
    durable_at k = writes_durable (take (k - 258) (compaction_writes c records)) (settled_state image)

  untouched : (i : ℕ) → i ≢ head_body area → IsNoBody area 2 i → (k : ℕ) → 258 ≤ k → k ≤ 261
      → ((moment k).seen i ≡ image i) × ((moment k).pending i ≡ false)
  untouched i apart none k low high =
      let n = k - 258 in
      let is : take n (compaction_writes c records) ≡ take n three_writes =
      some_of n (omega (arith, low, high)) (compaction_writes c records)
      ∙ ap (λ (ws : List Write). take n ws) three_are in
      subst (λ (ws : List Write). ((state_after_writes (settled_state image) ws).seen i ≡ image i)
      × ((state_after_writes (settled_state image) ws).pending i ≡ false))
      (sym is) (writes_apart (take n three_writes) (settled_state image) i
      (first_apart (λ (w : Write). i ≢ w.at) n three_writes (apart, two_apart area i records none)))

  -- no gate of the other area is open, and heads and records are in their ranges
  module _ (closed : (k : ℕ) → k < gates → ¬ IsGateOpen image area k) (finds : HasJournal image c)
      (range : IsHead head) (ranges : AllByRecursion IsRecord records) (some : 2 < length records)
      (few : length records ≤ slots) where
    cleared : IsCleared (disk_through moment 0) (disk_through moment 258) area
    cleared = record {
      works = on 0 258 (omega arith);
      calls = λ opened has. let none = none_open image area gates opened closed
          (subst (λ (s : DiskState). HasOpenGates s.seen area gates opened) (early 0 (omega arith)) has) in
          omega (arith, none);
      settled = subst IsSettled (sym (early 258 (omega arith))) (record { clean = λ i. refl; fresh = λ i. refl });
      closed = λ k low lt opens.
          absurd (closed k lt (subst (λ (s : DiskState). IsGateOpen s.seen area k) (early 0 (omega arith)) opens));
      shut = λ k lt opens.
          closed k lt (subst (λ (s : DiskState). IsGateOpen s.seen area k) (early 258 (omega arith)) opens);
      spared = λ i apart. spared 0 258 i (λ k low high. (
        ap (λ (s : DiskState). s.seen i) (early k high),
        ap (λ (s : DiskState). s.pending i) (early k high),
      )) (omega arith);
    }

    body_is : (slot : ℕ) → slot < 2 → IsBodyOf records slot ((moment 261).seen (slot_body area slot))
    body_is slot lt r is = record {
      range = each_get records slot r ranges is;
      octets = sym (ap (λ (seen : Image). seen (slot_body area slot)) seen_is
          ∙ area-body image area head (take 2 records) slot r (first_two records slot lt ∙ is));
    }

    bodies_written : AreBodiesWritten (disk_through moment 0) (disk_through moment 261) area head records 2
    bodies_written = record {
      mid = disk_through moment 258;
      cleared = cleared;
      works = on 258 261 (omega arith);
      calls = refl;
      head_is = record {
        range = range;
        octets = sym (ap (λ (seen : Image). seen (head_body area)) seen_is
            ∙ area-head image area head (take 2 records));
      };
      bodies = body_is;
      others = λ i apart none. spared 258 261 i (untouched i apart none) (omega arith);
    }

    pub compacting : IsCompacting (disk_through moment 261) (record { head = head; stage = Body 2 }) c
        (compacted c records)
    compacting = record {
      began = disk_through moment 0;
      records = records;
      ready = subst (λ (s : DiskState). IsReady s c) (sym (early 0 (omega arith)))
          (record { clean = λ i. refl; fresh = λ i. refl; finds = finds });
      becomes = refl;
      next = refl;
      few = few;
      fits = omega (arith, some);
      at = bodies_written;
    }
