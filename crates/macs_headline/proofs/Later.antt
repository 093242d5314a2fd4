-- What is found during a compaction, and what it stands for.
use Rattle.std.proofs.Common.{◌≡◌, ◌≤◌, ◌<◌, ◌+◌, ℕ, zero, suc, List, [], ◌∷◌, ◌++◌, length, take, drop, replicate}
use Rattle.std.proofs.Common.{Option, Some, None, refl, sym, ◌∙◌, ap, subst, arith, append-nil, append_assoc, take_all}
use Rattle.std.proofs.Common.{true}
use Rattle.std.specs.List.{AllByRecursion}
use Rattle.std.specs.Option.{option_and_then}
use Rattle.std.proofs.lemmas.List.{drop_all, length_push}
use Rattle.macs_config.specs.Config.{Edition}
use Rattle.macs_disk.specs.States.{Image}
use Rattle.macs_record.specs.Gates.{IsOpen}
use Rattle.macs_record.specs.Heads.{Head, IsHead, IsHeadOf}
use Rattle.macs_record.specs.Layout.{IsRecord}
use Rattle.macs_record.specs.declared.format.Format.TheVariants.{Two}
use Rattle.macs_record.specs.declared.record.Record.{Record}
use Rattle.macs_journal.specs.Areas.{IsArea, gate, head_body, other_area, slots}
use Rattle.macs_journal.specs.Compacting.{compacted, next_head}
use Rattle.macs_journal.specs.Found.{Content, HasJournal, IsGateOpen, IsPast, content_with_record}
use Rattle.macs_journal.proofs.Current.{alone}
use Rattle.macs_store.specs.Replay.{meaning_of, replay_of, snapshot_of, standing_after_record, standing_after_records}
use Rattle.macs_store.proofs.Formats.{meaning-read, two-read}
use Rattle.macs_store.specs.Standing.{Standing}
use Rattle.macs_store.proofs.Keeping.{standing-with}
use Rattle.macs_headline.specs.Images.{content_with_records, image_with_area, image_with_open_head}
use Rattle.macs_headline.proofs.Built.{area-other, opened-found, opened-other}

-- ---- the other area, while it is written and when it is open

module _ (image : Image) (c : Content) (finds : HasJournal image c) (area : ℕ) (area_is : other_area c.area ≡ area)
    (head : Head) (records : List Record)
    (few : length records ≤ slots) where
  is_area : IsArea area
  is_area = let within = finds.stands.area in omega (arith, within, area_is)

  -- the sectors of the current area are not written
  here_same : (i : ℕ) → head_body c.area ≤ i → i < head_body c.area + 514
      → image_with_area image area head records i ≡ image i
  here_same i from until =
      let within = finds.stands.area in
      area-other image area head records i (omega (arith, within, area_is, from, until))
      (λ j lt. omega (arith, within, area_is, from, until, lt, few))

  -- until the head gate is opened, what was found is found
  pub written-found : (¬ IsGateOpen image area 0) → HasJournal (image_with_area image area head records) c
  written-found closed =
      let written = image_with_area image area head records in
      alone image written c finds here_same
      (subst (λ (a : ℕ). IsPast written a c.head) (sym area_is)
      (λ opens. absurd (closed
      (subst IsOpen (area-other image area head records (gate area 0) (omega arith) (λ j lt. omega arith)) opens))))

-- and after it the compacted journal is
pub later-found : (image : Image) (c : Content) (finds : HasJournal image c) (area : ℕ) → other_area c.area ≡ area
    → (records : List Record)
    → IsHead (next_head c.head (length records)) → length records ≤ slots → AllByRecursion IsRecord records
    → ((k : ℕ) → k ≤ slots → ¬ IsGateOpen image area k)
    → HasJournal (image_with_open_head (image_with_area image area (next_head c.head (length records)) records) area)
    (record { area = area; head = next_head c.head (length records); records = records })
later-found image c finds area area_is records is_head few are closed =
    let within = finds.stands.area in
    let head = next_head c.head (length records) in
    let new = image_with_open_head (image_with_area image area head records) area in
    let back : head_body (other_area area) ≡ head_body c.area = omega (arith, within, area_is) in
    let here : new (head_body (other_area area)) ≡ image (head_body c.area) =
    opened-other image area head records (head_body (other_area area)) (omega (arith, within, area_is))
    (omega (arith, within, area_is))
    (λ j lt. omega (arith, within, area_is, lt, few)) ∙ ap image back in
    opened-found image area head records (omega (arith, within, area_is)) is_head refl few are
    (λ j lt. closed (j + 1) (omega (arith, lt)))
    (λ opens. record {
      past = c.head;
      is = subst (IsHeadOf c.head) (sym here) finds.stands.head.is;
      earlier = omega arith;
      same = refl;
    })

-- ---- what contents stand for

-- what comes of something comes of what that is
and_then : {A B : Type 0} (f : A → Option B) (o : Option A) (b : B) → option_and_then f o ≡ Some b
    → (a : A) × (o ≡ Some a) × (f a ≡ Some b)
and_then f None b is = absurd (cc)
and_then f (Some a) b is = (a, refl, is)

-- several records more
pub meaning-more : (edition : Edition) (rs : List Record) (c : Content) (s t : Standing)
    → c.head.count ≤ length c.records → c.head.format ≡ Two
    → meaning_of edition c ≡ Some s → standing_after_records s rs ≡ Some t
    → meaning_of edition (content_with_records c rs) ≡ Some t
meaning-more edition [] c s t within two stands made =
    subst (λ (records : List Record). meaning_of edition (record c { records = records }) ≡ Some t)
    (sym (append-nil c.records)) (stands ∙ made)
meaning-more edition (r ∷ rs) c s t within two stands made =
    let size : length (c.records ++ r ∷ []) ≡ length c.records + 1 = length_push c.records r in
    let next = and_then (λ (next : Standing). standing_after_records next rs) (standing_after_record s r) t made in
    let more = meaning-more edition rs (content_with_record c r) next.0 t (omega (arith, size, within)) two
    (standing-with edition c r s within two stands ∙ next.1) next.2 in
    subst (λ (records : List Record). meaning_of edition (record c { records = records }) ≡ Some t)
    (append_assoc c.records (r ∷ []) rs) more

-- a record that changes nothing, many times
pub same-again : (n : ℕ) (r : Record) (s : Standing) → standing_after_record s r ≡ Some s
    → standing_after_records s (replicate n r) ≡ Some s
same-again zero r s is = refl
same-again (suc n) r s is =
    ap (option_and_then (λ (next : Standing). standing_after_records next (replicate n r))) is ∙ same-again n r s is

-- a compacted journal stands for what its snapshot does
pub meaning-later : (edition : Edition) (c : Content) (records : List Record) (s : Standing) → edition.format_two ≡ true
    → snapshot_of edition c.head.identity records ≡ Some s → meaning_of edition (compacted c records) ≡ Some s
meaning-later edition c records s takes_two is =
    let n = length records in
    let all : take n records ≡ records = take_all n records (omega arith) in
    let none : drop n records ≡ [] = drop_all n records (omega arith) in
    let split : replay_of edition c.head.identity n records
    ≡ option_and_then (λ (next : Standing). Some next) (snapshot_of edition c.head.identity records) =
    λ i. option_and_then (λ (next : Standing). standing_after_records next (none i))
    (snapshot_of edition c.head.identity (all i)) in
    meaning-read edition (compacted c records) (two-read edition takes_two) ∙ split
    ∙ ap (option_and_then (λ (next : Standing). Some next)) is
