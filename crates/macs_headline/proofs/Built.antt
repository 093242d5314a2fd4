-- What is found in an image that was built sector by sector.
use Rattle.std.proofs.Common.{◌≡◌, ◌≢◌, ◌≤◌, ◌<◌, ◌+◌, ℕ, zero, suc, List, [], ◌∷◌, ◌++◌, length, slice_get, Some}
use Rattle.std.proofs.Common.{get_or, refl, sym, ◌∙◌, ap, subst, arith, append-nil, append_assoc}
use Rattle.std.specs.List.{AllByRecursion}
use Rattle.std.proofs.lemmas.List.{length_push}
use Rattle.macs_disk.specs.Memory.{blank_memory}
use Rattle.macs_disk.specs.States.{Image, put_sector, zero_sector}
use Rattle.macs_disk.proofs.Images.{put-other, put-same}
use Rattle.macs_record.specs.Gates.{IsOpen, open_gate}
use Rattle.macs_record.specs.Heads.{Head, IsHead, head_sector_of}
use Rattle.macs_record.specs.Layout.{IsRecord, sector_of}
use Rattle.macs_record.specs.declared.record.Record.{Record}
use Rattle.macs_journal.specs.Appending.{free_body, free_gate}
use Rattle.macs_journal.specs.Areas.{IsArea, gate, head_body, least_sectors, other_area, slot_body, slots}
use Rattle.macs_journal.specs.Found.{Content, HasJournal, IsGateOpen, IsPast, content_with_record}
use Rattle.macs_journal.proofs.Appends.{finds-but-body, finds-more, open_gate-opens}
use Rattle.macs_headline.specs.Binding.{IsNewDisk}
use Rattle.macs_headline.specs.Images.{content_with_records, image_with_area, image_with_bodies, image_with_next_body}
use Rattle.macs_headline.specs.Images.{image_with_open_head, image_with_record, image_with_records}

-- ---- zeros

pub zeros-closed : ¬ IsOpen zero_sector
unfolding zero_sector
zeros-closed opens = let same : 0x4d ≡ 0 = ap (λ (sector : List ℕ). get_or sector 0 0) (sym opens.1) in
    omega (arith, same)

-- a sector of zeros closes a gate
pub closed-gate : (image : Image) (area k : ℕ) → image (gate area k) ≡ zero_sector → ¬ IsGateOpen image area k
closed-gate image area k is opens = zeros-closed (subst IsOpen is opens)

pub blank-is-new : (sectors : ℕ) → least_sectors ≤ sectors → IsNewDisk (blank_memory sectors).disk
blank-is-new sectors large = record {
  honest = refl;
  large = large;
  closed = λ image left. (closed-gate image 0 0 (left.kept 1 refl), closed-gate image 1 0 (left.kept 515 refl));
}

-- ---- an area rewritten

bodies_other : (rs : List Record) (image : Image) (area place i : ℕ)
    → ((j : ℕ) → place ≤ j → j < place + length rs → i ≢ slot_body area j)
    → image_with_bodies image area place rs i ≡ image i
unfolding image_with_bodies
bodies_other [] image area place i apart = refl
bodies_other (r ∷ rs) image area place i apart =
    bodies_other rs (put_sector image (slot_body area place) (sector_of r)) area (place + 1) i
    (λ j le lt. apart j (omega (arith, le)) (omega (arith, lt)))
    ∙ put-other image (slot_body area place) i (sector_of r) (apart place (omega arith) (omega arith))

bodies_at : (rs : List Record) (image : Image) (area place j : ℕ) (r : Record) → slice_get rs j ≡ Some r
    → image_with_bodies image area place rs (slot_body area (place + j)) ≡ sector_of r
unfolding image_with_bodies
bodies_at [] image area place j r is = absurd (cc)
bodies_at (x ∷ rs) image area place zero r is =
    let same : x ≡ r = cc in
    let written = put_sector image (slot_body area place) (sector_of x) in
    bodies_other rs written area (place + 1) (slot_body area (place + zero)) (λ k le lt. omega (arith, le))
    ∙ put-same image (slot_body area place) (slot_body area (place + zero)) (sector_of x) (omega arith)
    ∙ ap sector_of same
bodies_at (x ∷ rs) image area place (suc j) r is =
    let written = put_sector image (slot_body area place) (sector_of x) in
    let there : slot_body area (place + suc j) ≡ slot_body area (place + 1 + j) = omega arith in
    ap (image_with_bodies written area (place + 1) rs) there ∙ bodies_at rs written area (place + 1) j r is

module _ (image : Image) (area : ℕ) (head : Head) (records : List Record) where
  -- sectors that are not written
  pub area-other : (i : ℕ) → i ≢ head_body area → ((j : ℕ) → j < length records → i ≢ slot_body area j)
      → image_with_area image area head records i ≡ image i
  unfolding image_with_area
  area-other i apart none =
      bodies_other records (put_sector image (head_body area) (head_sector_of head)) area 0 i
      (λ j le lt. none j (omega (arith, lt)))
      ∙ put-other image (head_body area) i (head_sector_of head) apart

  -- and those that are
  pub area-head : image_with_area image area head records (head_body area) ≡ head_sector_of head
  unfolding image_with_area
  area-head =
      bodies_other records (put_sector image (head_body area) (head_sector_of head)) area 0 (head_body area)
      (λ j le lt. omega arith)
      ∙ put-same image (head_body area) (head_body area) (head_sector_of head) refl

  pub area-body : (j : ℕ) (r : Record) → slice_get records j ≡ Some r
      → image_with_area image area head records (slot_body area j) ≡ sector_of r
  unfolding image_with_area
  area-body j r is =
      let there : slot_body area j ≡ slot_body area (0 + j) = omega arith in
      let written = put_sector image (head_body area) (head_sector_of head) in
      ap (image_with_bodies written area 0 records) there ∙ bodies_at records written area 0 j r is

  -- with the head gate opened
  abbrev opened : Image
  opened = image_with_open_head (image_with_area image area head records) area

  opened_but_gate : (i : ℕ) → i ≢ gate area 0 → opened i ≡ image_with_area image area head records i
  unfolding image_with_open_head
  opened_but_gate i apart = put-other (image_with_area image area head records) (gate area 0) i open_gate apart

  pub opened-other : (i : ℕ) → i ≢ head_body area → i ≢ gate area 0
      → ((j : ℕ) → j < length records → i ≢ slot_body area j) → opened i ≡ image i
  opened-other i apart far none = opened_but_gate i far ∙ area-other i apart none

  opened_gate : IsGateOpen opened area 0
  unfolding image_with_open_head
  opened_gate = subst IsOpen (sym (put-same (image_with_area image area head records) (gate area 0) (gate area 0)
      open_gate refl)) open_gate-opens

pub each_get : (rs : List Record) (j : ℕ) (r : Record) → AllByRecursion IsRecord rs → slice_get rs j ≡ Some r
    → IsRecord r
each_get [] j r are is = absurd (cc)
each_get (x ∷ rs) zero r are is = let same : x ≡ r = cc in subst IsRecord same are.0
each_get (x ∷ rs) (suc j) r are is = each_get rs j r are.1 is

-- what was written is found, after the open head gate
pub opened-found : (image : Image) (area : ℕ) (head : Head) (records : List Record) → IsArea area → IsHead head
    → head.count ≡ length records
    → length records ≤ slots → AllByRecursion IsRecord records → ((j : ℕ) → j < slots → ¬ IsGateOpen image area (j + 1))
    → IsPast (opened image area head records) (other_area area) head
    → HasJournal (opened image area head records) (record { area = area; head = head; records = records })
opened-found image area head records is_area is_head count few are closed past = record {
  stands = record {
    area = is_area;
    head = record {
      open_gate = opened_gate image area head records;
      is = record {
        range = is_head;
        octets = sym (opened_but_gate image area head records (head_body area)
            (omega arith) ∙ area-head image area head records);
      };
    };
    snapshot = omega (arith, count);
    few = few;
    opened = λ j from until. absurd (omega (arith, from, until, count));
    closed = λ j from until opens. closed j until (subst IsOpen
        (opened-other image area head records (gate area (j + 1)) (omega arith) (omega arith) (λ k lt. omega arith))
        opens);
    bodies = λ j r is. record {
      range = each_get records j r are is;
      octets = sym (opened_but_gate image area head records (slot_body area j) (omega arith)
          ∙ area-body image area head records j r is);
    };
  };
  past = past;
}

-- ---- records appended

pub record-found : (image : Image) (c : Content) (r : Record) → length c.records < slots → IsRecord r
    → HasJournal image c
    → HasJournal (image_with_record image c r) (content_with_record c r)
record-found image c r room range finds =
    let mid = image_with_next_body image c r in
    finds-more mid (image_with_record image c r) c r room
    (λ i apart. put-other mid (free_gate c) i open_gate apart)
    (subst IsOpen (sym (put-same mid (free_gate c) (free_gate c) open_gate refl)) open_gate-opens)
    (record { range = range; octets = sym (put-same image (free_body c) (free_body c) (sector_of r) refl) })
    (finds-but-body image mid c room (λ i apart. put-other image (free_body c) i (sector_of r) apart) finds)

pub records-found : (rs : List Record) (image : Image) (c : Content) → length c.records + length rs ≤ slots
    → AllByRecursion IsRecord rs → HasJournal image c
    → HasJournal (image_with_records image c rs) (content_with_records c rs)
unfolding image_with_records
records-found [] image c room are finds =
    subst (λ (records : List Record). HasJournal image (record c { records = records }))
    (sym (append-nil c.records)) finds
records-found (r ∷ rs) image c room are finds =
    let size : length (c.records ++ r ∷ []) ≡ length c.records + 1 = length_push c.records r in
    let more = image_with_record image c r in
    let found = records-found rs more (content_with_record c r) (omega (arith, size, room)) are.1
    (record-found image c r (omega (arith, room)) are.0 finds) in
    subst (λ (records : List Record).
    HasJournal (image_with_records more (content_with_record c r) rs) (record c { records = records }))
    (append_assoc c.records (r ∷ []) rs) found

-- sectors after the area are not written
pub records-other : (rs : List Record) (image : Image) (c : Content) (i : ℕ) → length c.records + length rs ≤ slots
    → head_body c.area + 514 ≤ i
    → image_with_records image c rs i ≡ image i
unfolding image_with_records
records-other [] image c i room far = refl
records-other (r ∷ rs) image c i room far =
    let size : length (c.records ++ r ∷ []) ≡ length c.records + 1 = length_push c.records r in
    records-other rs (image_with_record image c r) (content_with_record c r) i (omega (arith, size, room)) far
    ∙ put-other (image_with_next_body image c r) (free_gate c) i open_gate (omega (arith, room, far))
    ∙ put-other image (free_body c) i (sector_of r) (omega (arith, room, far))
