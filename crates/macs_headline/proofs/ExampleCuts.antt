-- The disks of the example hold the work in which its lives are cut short, and what a power loss leaves of it.
use Rattle.std.proofs.Common.{◌≡◌, ◌<◌, ◌-◌, ◌==◌, ◌^◌, ◌&&◌, inl, inr, ℕ, zero, suc, Bool, true, false, cond}
use Rattle.std.proofs.Common.{List, [], ◌∷◌, ◌++◌, length, take, replicate, get_or, refl, sym, ap, subst, arith}
use Rattle.std.specs.Prelude.{All, nat_lt}
use Rattle.std.specs.List.{AllByRecursion}
use Rattle.std.specs.Int.{to_be_bytes, w32, w64}
use Rattle.std.proofs.lemmas.Bool.{cases_lt, ltb-true}
use Rattle.std.proofs.lemmas.List.{get_or_past}
use Rattle.std.proofs.lemmas.List.Elements.{All-append, All-from_recursion, All-get_or, All-replicate}
use Rattle.macs_disk.specs.Disk.{MayLeave, now}
use Rattle.macs_disk.specs.States.{DiskState, Image, IsImage, IsSector, put_sector, settled_state}
use Rattle.macs_disk.proofs.Images.{put-other, put-same}
use Rattle.macs_record.specs.Gates.{open_gate, open_mark}
use Rattle.macs_record.specs.Heads.{Head, IsHead, head_mark, head_octets, head_sector_of, version_of}
use Rattle.macs_record.specs.Layout.{IsRecord, front_of, sector_of}
use Rattle.macs_record.specs.Sectors.{padded_sector}
use Rattle.macs_record.specs.declared.record.Record.{Record}
use Rattle.macs_record.specs.declared.record.Record.TheVariants as kept
use Rattle.macs_record.proofs.Lengths.{head_sector_length, sector_length}
use Rattle.macs_journal.specs.Appending.{IsBodyDurable, free_body, free_gate}
use Rattle.macs_journal.specs.Areas.{gate, head_body, slot_body, slots}
use Rattle.macs_journal.specs.Compacting.{next_head}
use Rattle.macs_journal.specs.Found.{Content, HasJournal, content_with_record}
use Rattle.macs_journal.specs.Value.{IsHolding}
use Rattle.macs_journal.proofs.Appends.{finds-but-body}
use Rattle.macs_store.specs.Snapshot.{settings_record}
use Rattle.macs_headline.specs.Deeds.{IsPassedOn}
use Rattle.macs_headline.specs.Example.{own_sa, served_config}
use Rattle.macs_headline.specs.ExampleCuts.{IsOneCall, IsRun, Write, append_under_way, append_states, body_writes}
use Rattle.macs_headline.specs.ExampleCuts.{compacting_disk, compaction_under_way, disk_through, killed_disk}
use Rattle.macs_headline.specs.ExampleCuts.{place_behind, state_after_writes, torn_image, widening_disk, working_disk}
use Rattle.macs_headline.specs.ExampleDisk.{compacted_content, checked, cut_image, ended_content, narrow_content}
use Rattle.macs_headline.specs.ExampleDisk.{narrow_image, full_content, full_image, full_snapshot, last_content}
use Rattle.macs_headline.specs.ExampleDisk.{last_image, served_content, served_image, widened}
use Rattle.macs_headline.specs.Images.{image_with_area, image_with_bodies, image_with_next_body, image_with_record}
use Rattle.macs_headline.proofs.Built.{closed-gate}
use Rattle.macs_headline.proofs.ExampleCompaction.{compacting, last-is}
use Rattle.macs_headline.proofs.ExampleImages.{far-full, narrow-found, full-found, last-found, last-size, later-head}
use Rattle.macs_headline.proofs.ExampleImages.{snapshot-size}
use Rattle.macs_headline.proofs.ExampleRecords.{IsOctet, six_records, snapshot-is, snapshot-ranges, widened-range}
use Rattle.macs_headline.proofs.ExampleRecords.{word-range}

-- ---- sectors

-- octets that are small, by computing
abbrev small : List ℕ → Bool
small [] = true
small (x ∷ xs) = nat_lt x 256 && small xs

both_true : (a b : Bool) → a && b ≡ true → (a ≡ true) × (b ≡ true)
both_true true true is = (refl, refl)
both_true true false is = absurd (cc)
both_true false b is = absurd (cc)

small_octets : (xs : List ℕ) → small xs ≡ true → AllByRecursion IsOctet xs
small_octets [] is = tt
small_octets (x ∷ xs) is =
    let both = both_true (nat_lt x 256) (small xs) is in
    (let lt : x < 256 = ltb-true x 256 both.0 in omega (arith, lt), small_octets xs both.1)

-- octets, and zeros after them
padded_range : (front : List ℕ) → All IsOctet front → All IsOctet (padded_sector front)
padded_range front range =
    All-append IsOctet front (replicate (512 - length front) 0) range
    (All-replicate IsOctet (512 - length front) 0 (omega arith))

octet_at : (xs : List ℕ) → All IsOctet xs → (i : ℕ) → get_or xs i 0 < 2 ^ 8
octet_at xs range i = elim (cases_lt i (length xs)) [
  | inl within ↦ All-get_or IsOctet xs i 0 within range
  | inr behind ↦ subst (λ (v : ℕ). v < 2 ^ 8) (sym (get_or_past xs i 0 behind)) (omega arith)
]

pub record_sector : (r : Record) → IsRecord r → small (front_of r) ≡ true → IsSector (sector_of r)
record_sector r range is = record {
  size = sector_length r range;
  octets = octet_at (sector_of r)
      (padded_range (front_of r) (All-from_recursion IsOctet (front_of r) (small_octets (front_of r) is)));
}

-- ---- an append

module _ (image : Image) (c : Content) (r : Record) (room : length c.records < slots) (range : IsRecord r)
    (finds : HasJournal image c) where
  -- the body is durable
  staged : IsBodyDurable (settled_state (image_with_next_body image c r)) c (sector_of r)
  staged = record {
    ready = record {
      clean = λ i. refl;
      fresh = λ i. refl;
      finds = finds-but-body image (image_with_next_body image c r) c room
          (λ i apart. put-other image (free_body c) i (sector_of r) apart) finds;
    };
    body = put-same image (free_body c) (free_body c) (sector_of r) refl;
  }

  -- the gate is written
  pub append-holds : (states : ℕ → DiskState) (calls : ℕ) → states calls ≡ append_states image c r 3
      → IsHolding (disk_through states calls) (place_behind c) (append_under_way r) c (content_with_record c r)
  append-holds states calls is = record {
    at = record { area = refl; head = refl; free = refl };
    holds = (
      r,
      record { range = range; octets = refl },
      refl,
      record { prior = settled_state (image_with_next_body image c r); staged = staged; is = is },
      room,
    );
  }

-- with a gate that is pending a power loss may leave it open, and else what is durable
gate_left : (b : Bool) (x y : List ℕ) → cond b true false ≡ false → cond b x y ≡ y
gate_left true x y is = absurd (cc)
gate_left false x y is = refl

gate_whole : (b : Bool) (x y : List ℕ) → IsSector x → cond b true false ≡ true → IsSector (cond b x y)
gate_whole true x y whole is = whole
gate_whole false x y whole is = absurd (cc)

open_sector : IsSector open_gate
open_sector = record {
  size = refl;
  octets =
      octet_at open_gate (padded_range open_mark (All-from_recursion IsOctet open_mark (small_octets open_mark refl)));
}

append_left : (image : Image) (c : Content) (r : Record)
    → IsImage (append_states image c r 3) (image_with_record image c r)
append_left image c r = record {
  kept = λ i clean. gate_left (i == free_gate c) open_gate (image_with_next_body image c r i) clean;
  whole = λ i pending. gate_whole (i == free_gate c) open_gate (image_with_next_body image c r i) open_sector pending;
}

pub widening-holds : IsHolding widening_disk (place_behind narrow_content) (append_under_way widened) narrow_content
    served_content
widening-holds = append-holds narrow_image narrow_content widened (omega arith) widened-range narrow-found
    (append_states narrow_image narrow_content widened) 3 refl

pub left-open : MayLeave widening_disk served_image
left-open = append_left narrow_image narrow_content widened

-- ---- a program that is killed

last_room : length last_content.records < slots
last_room = omega (arith, last-size)

pub working-holds : IsHolding working_disk (place_behind last_content) (append_under_way checked) last_content
    ended_content
working-holds = append-holds last_image last_content checked last_room tt last-found
    (append_states last_image last_content checked) 3 refl

-- the next disk holds the same
pub killed-holds : IsHolding killed_disk (place_behind last_content) (append_under_way checked) last_content
    ended_content
killed-holds = append-holds last_image last_content checked last_room tt last-found (λ k. now working_disk) 0 refl

pub killed-passed : IsPassedOn working_disk working_disk.clock killed_disk
killed-passed = record {
  moment = 3;
  later = omega arith;
  within = omega arith;
  sectors = refl;
  honest = refl;
  images =
      λ image left. left;
}

pub gate-pending : (now killed_disk).pending (free_gate last_content) ≡ true
gate-pending = put-same (λ _. false) (free_gate last_content) (free_gate last_content) true refl

-- ---- a compaction that is cut short

abbrev full_head : Head
full_head = next_head full_content.head (length full_snapshot)

-- the first write
abbrev head_write : Write
head_write = record { at = head_body 1; octets = head_sector_of full_head }

two_records : take 2 full_snapshot ≡ take 2 six_records
two_records = ap (λ (rs : List Record). take 2 rs) snapshot-is

pub compacting-holds : IsHolding compacting_disk (place_behind full_content) compaction_under_way full_content
    compacted_content
compacting-holds = record {
  at = record { area = refl; head = refl; free = refl };
  holds = compacting full_image full_content full_snapshot
      (λ k lt. closed-gate full_image 1 k (far-full (gate 1 k) (omega arith))) full-found later-head
      (subst (AllByRecursion IsRecord) (sym snapshot-is) snapshot-ranges) (omega (arith, snapshot-size))
      (omega (arith, snapshot-size));
}

-- ---- what a power loss leaves of it

double_range : (x : ℕ) → All IsOctet (to_be_bytes w64 x)
double_range x = All-from_recursion IsOctet (to_be_bytes w64 x) (
  omega arith,
  (omega arith, (omega arith, (omega arith, (omega arith, (omega arith, (omega arith, (omega arith, tt))))))),
)

head_octets_range : (h : Head) → IsHead h → All IsOctet (head_octets h)
head_octets_range h is =
    let tx = to_be_bytes w32 h.identity.tx_block in
    let rx = to_be_bytes w32 h.identity.rx_block in
    let count = to_be_bytes w32 h.count in
    let generation = to_be_bytes w64 h.generation in
    let version = to_be_bytes w32 (version_of h.format) in
    let sci = h.identity.sci in
    let blocks = All-append IsOctet tx rx (word-range h.identity.tx_block) (word-range h.identity.rx_block) in
    let identity = All-append IsOctet sci (tx ++ rx) is.sci.each blocks in
    let counted = All-append IsOctet count (sci ++ (tx ++ rx)) (word-range h.count) identity in
    let generated = All-append IsOctet generation (count ++ (sci ++ (tx ++ rx))) (double_range h.generation) counted in
    let versioned = All-append IsOctet version (generation ++ (count ++ (sci ++ (tx ++ rx))))
    (word-range (version_of h.format)) generated in
    All-append IsOctet head_mark (version ++ (generation ++ (count ++ (sci ++ (tx ++ rx)))))
    (All-from_recursion IsOctet head_mark (small_octets head_mark refl)) versioned

-- a head is a sector
pub head-sector : (h : Head) → IsHead h → IsSector (head_sector_of h)
head-sector h is = record {
  size = head_sector_length h is;
  octets =
      octet_at (head_sector_of h) (padded_range (head_octets h) (head_octets_range h is));
}

head_whole : IsSector (head_sector_of full_head)
head_whole = head-sector full_head later-head

settings_whole : IsSector (sector_of (settings_record served_config))
settings_whole = record_sector (settings_record served_config) snapshot-ranges.0 refl

own_whole : IsSector (sector_of (kept.TxSa 0 own_sa 13))
own_whole = record_sector (kept.TxSa 0 own_sa 13) snapshot-ranges.1.0 refl

-- what is pending at one of three places is any of these, and the rest is durable
pub torn_kept : (a b c : Bool) (x y z w : List ℕ) → cond c true (cond b true (cond a true false)) ≡ false
    → cond c z (cond b y (cond a x w)) ≡ w
torn_kept a b true x y z w is = absurd (cc)
torn_kept a true false x y z w is = absurd (cc)
torn_kept true false false x y z w is = absurd (cc)
torn_kept false false false x y z w is = refl

pub torn_whole : (a b c : Bool) (x y z w : List ℕ) → IsSector x → IsSector y → IsSector z
    → cond c true (cond b true (cond a true false)) ≡ true
    → IsSector (cond c z (cond b y (cond a x w)))
torn_whole a b true x y z w is_x is_y is_z is = is_z
torn_whole a true false x y z w is_x is_y is_z is = is_y
torn_whole true false false x y z w is_x is_y is_z is = is_x
torn_whole false false false x y z w is_x is_y is_z is = absurd (cc)

module _ (one first second : List ℕ) (is_one : IsSector one) (is_first : IsSector first)
    (is_second : IsSector second) where
  by_six : IsImage (state_after_writes (settled_state full_image) (head_write ∷ body_writes 1 0 (take 2 six_records)))
      (torn_image one first second)
  unfolding state_after_writes body_writes
  by_six = record {
    kept = λ i clean.
        torn_kept (i == head_body 1) (i == slot_body 1 0) (i == slot_body 1 1) one first second (full_image i) clean;
    whole = λ i pending. torn_whole (i == head_body 1) (i == slot_body 1 0) (i == slot_body 1 1) one first second
        (full_image i) is_one is_first is_second pending;
  }

  pub torn-left : MayLeave compacting_disk (torn_image one first second)
  torn-left =
      subst (λ (s : DiskState). IsImage s (torn_image one first second))
      (sym (last-is full_image full_content full_snapshot))
      (subst (λ (rs : List Record). IsImage (state_after_writes (settled_state full_image)
      (head_write ∷ body_writes 1 0 rs)) (torn_image one first second))
      (sym two_records) by_six)

-- the octets that were written among them
cut_is_torn : cut_image 2
    ≡ torn_image (head_sector_of full_head) (sector_of (settings_record served_config))
    (sector_of (kept.TxSa 0 own_sa 13))
unfolding image_with_area image_with_bodies
cut_is_torn = ap (λ (rs : List Record).
    image_with_bodies (put_sector full_image (head_body 1) (head_sector_of full_head)) 1 0 rs) two_records

pub cut-left : MayLeave compacting_disk (cut_image 2)
cut-left =
    subst (MayLeave compacting_disk) (sym cut_is_torn)
    (torn-left (head_sector_of full_head) (sector_of (settings_record served_config))
    (sector_of (kept.TxSa 0 own_sa 13))
    head_whole settings_whole own_whole)

-- ---- call by call

append_calls : (image : Image) (c : Content) (r : Record) (k : ℕ) → k < 3
    → IsOneCall (append_states image c r k) (append_states image c r (suc k))
append_calls image c r zero within = inl (free_body c, sector_of r, refl)
append_calls image c r (suc zero) within = inr refl
append_calls image c r (suc (suc zero)) within = inl (free_gate c, open_gate, refl)
append_calls image c r (suc (suc (suc k))) within = absurd (omega (arith, within))

pub widening-run : IsRun narrow_image widening_disk
widening-run = record { start = refl; calls = append_calls narrow_image narrow_content widened }

pub working-run : IsRun last_image working_disk
working-run = record { start = refl; calls = append_calls last_image last_content checked }
