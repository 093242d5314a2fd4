-- A file is copied, its layout found, and made ready for a disk; or an empty one is made that of a new disk.
use Rattle.std.proofs.Common.{◌≡◌, ◌≤◌, ◌<◌, ◌+◌, ◌-◌, ◌/◌, ◌%◌, ◌&&◌, ◌⊎◌, inl, inr, ℕ, if◌then◌else◌, max, Bool, true}
use Rattle.std.proofs.Common.{false, List, [], length, replicate, refl, ap, ◌∙◌, arith, subst, sym}
use Rattle.std.proofs.lemmas.Bool.{cases_lt, le-leb, lt-leb}
use Rattle.std.proofs.lemmas.List.{get_or-replicate, length-replicate}
use Rattle.std.specs.declared.snapshot.Snapshot.{Snapshot}
use Rattle.macs_disk.specs.Files.{FileState, IsCopy, IsEmpty, IsSure, file_after_sync, file_after_write, put_from}
use Rattle.macs_disk.specs.Files.{values_from}
use Rattle.macs_disk.specs.FileDisks.{HasMark, IsBlank, IsCleared, IsExtent, IsMarkedAs, IsOpened, IsStill}
use Rattle.macs_disk.specs.FileDisks.{file_lengthened, is_ready, keeps_disk, mark_end, state_in_file}
use Rattle.macs_disk.specs.FileEvidence.{values-same}
use Rattle.macs_disk.specs.Layouts.{is_marked, layout_in, mark, place, sectors_in, suits}
use Rattle.macs_disk.specs.States.{zero_sector}
use Rattle.macs_disk.specs.declared.layout.Layout.{Layout}
use Rattle.macs_disk.specs.declared.layout.Layout.TheVariants.{Packed, Spaced}
use Rattle.macs_disk.proofs.FileCalls.{disk_by}
use Rattle.macs_disk.proofs.FileSectors.{values-written}
use Rattle.macs_disk.proofs.FileWrites.{put-at, put-before, put-behind, write-behaves, write-block, write-seen}
use Rattle.macs_disk.proofs.FileWrites.{write-size, write-sure}

-- ---- the mark

-- a file that is too short for a spaced one
pub too-short : (file : FileState) → file.size < place Spaced 1028 + 512 → Packed ≡ layout_in file
unfolding layout_in
too-short file short = let no = lt-leb (place Spaced 1028 + 512) file.size short in rw no refl

-- one that is long enough is spaced where the mark is read
pub by-mark : (file : FileState) (sector : List ℕ) (marked : Bool) (layout : Layout)
    → place Spaced 1028 + 512 ≤ file.size → sector ≡ values_from file.seen (place Spaced 1028) 512
    → is_marked sector ≡ marked → layout ≡ (if marked then Spaced else Packed) → layout ≡ layout_in file
unfolding layout_in
by-mark file sector marked layout long read is found =
    let yes = le-leb (place Spaced 1028 + 512) file.size long in
    let known : is_marked (values_from file.seen (place Spaced 1028) 512) ≡ marked = sym (ap is_marked read) ∙ is in
    found ∙ rw (yes, known) refl

pub unmarked : is_marked zero_sector ≡ false
unfolding zero_sector
unmarked = refl

-- what is read of a sector that was written, and of one elsewhere
read-written : (old new : FileState) (at : ℕ) (xs : List ℕ) → new ≡ file_after_write old at xs → length xs ≡ 512
    → values_from new.seen at 512 ≡ xs
read-written old new at xs is size =
    ap (λ (f : FileState). values_from f.seen at 512) is
    ∙ values-same (file_after_write old at xs).seen (put_from old.seen at xs)
    at 512 (λ k lt. write-seen old at xs (at + k)) ∙ values-written old.seen at xs size

pub read-elsewhere : (old new : FileState) (at there : ℕ) (xs : List ℕ) → new ≡ file_after_write old there xs
    → (at + 512 ≤ there) ⊎ (there + length xs ≤ at)
    → values_from new.seen at 512 ≡ values_from old.seen at 512
read-elsewhere old new at there xs is (inl before) =
    ap (λ (f : FileState). values_from f.seen at 512) is
    ∙ values-same (file_after_write old there xs).seen old.seen at 512
    (λ k lt. write-seen old there xs (at + k) ∙ put-before old.seen there (at + k) xs (omega (arith, before, lt)))
read-elsewhere old new at there xs is (inr behind) =
    ap (λ (f : FileState). values_from f.seen at 512) is
    ∙ values-same (file_after_write old there xs).seen old.seen at 512
    (λ k lt. write-seen old there xs (at + k) ∙ put-behind old.seen there (at + k) xs (omega (arith, behind)))

-- the size of a file that was written
pub size-written : (old new : FileState) (at : ℕ) (xs : List ℕ) → new ≡ file_after_write old at xs → 0 < length xs
    → new.size ≡ max old.size (at + length xs)
size-written old new at xs is some = ap (λ (f : FileState). f.size) is ∙ write-size old at xs some

pub block-written : (old new : FileState) (at : ℕ) (xs : List ℕ) → new ≡ file_after_write old at xs
    → new.block ≡ old.block
block-written old new at xs is = ap (λ (f : FileState). f.block) is ∙ write-block old at xs

pub sure-written : (old new : FileState) (at : ℕ) (xs : List ℕ) → new ≡ file_after_write old at xs → IsSure old
    → IsSure new
sure-written old new at xs is sure = ap (λ (f : FileState). f.is_sure) is ∙ write-sure old at xs ∙ sure

-- an empty file as it is has the mark of a packed one
pub marked-none : (old new : FileState) → IsEmpty old → new ≡ old → IsMarkedAs old new Packed
marked-none old new empty same =
    let size : new.size ≡ 0 = ap (λ (f : FileState). f.size) same ∙ empty.size in
    record {
      block = ap (λ (f : FileState). f.block) same;
      size = size;
      is_sure = ap (λ (f : FileState). f.is_sure) same ∙ empty.is_sure;
      has = inl (omega (arith, size));
    }

pub marked : (old mid new : FileState) → IsEmpty old → mid ≡ file_after_write old (place Spaced 1028) mark
    → new ≡ file_after_write mid (place Spaced 1028 + 512) (replicate 3584 0) → IsMarkedAs old new Spaced
marked old mid new empty first second =
    let long : length mark ≡ 512 = refl in
    let some : length (replicate {A = ℕ} 3584 0) ≡ 3584 = length-replicate {A = ℕ} 3584 0 in
    let size = size-written old mid (place Spaced 1028) mark first (omega (arith, long)) in
    let more = size-written mid new (place Spaced 1028 + 512) (replicate 3584 0) second (omega (arith, some)) in
    let none = empty.size in
    record {
      block = block-written mid new (place Spaced 1028 + 512) (replicate 3584 0) second
          ∙ block-written old mid (place Spaced 1028) mark first;
      size = omega (arith, size, more, some, long, none);
      is_sure = sure-written mid new (place Spaced 1028 + 512) (replicate 3584 0) second
          (sure-written old mid (place Spaced 1028) mark first empty.is_sure);
      has = (
        omega (arith, more, some),
        read-elsewhere mid new (place Spaced 1028) (place Spaced 1028 + 512) (replicate 3584 0) second
            (inl (omega arith))
            ∙ read-written old mid (place Spaced 1028) mark first long,
      );
    }

-- ---- a file with zeros in the place of the sectors

zero-at : (f : ℕ → ℕ) (at count p : ℕ) → at ≤ p → p < at + count → put_from f at (replicate count 0) p ≡ 0
zero-at f at count p le lt = put-at f at p (replicate count 0) le
    ∙ get_or-replicate count (p - at) 0 (f p) (omega (arith, le, lt))

all-zeros : (at : ℕ) → values_from (λ _. 0) at 512 ≡ zero_sector
unfolding values_from zero_sector
all-zeros at = refl

zeros-read : (f : ℕ → ℕ) (at : ℕ) → ((k : ℕ) → k < 512 → f (at + k) ≡ 0) → values_from f at 512 ≡ zero_sector
zeros-read f at zero = values-same f (λ _. 0) at 512 zero ∙ all-zeros at

inside : (layout : Layout) (i : ℕ) → i < 1028 → place layout i + 512 ≤ place layout 1028
inside Packed i lt = omega (arith, lt)
inside Spaced i lt = omega (arith, lt)

some-room : (layout : Layout) → 0 < place layout 1028
some-room Packed = omega arith
some-room Spaced = omega arith

-- the mark is there after what was written over the sectors
mark-kept : (layout : Layout) (before new : FileState) (xs : List ℕ) → HasMark layout before
    → new ≡ file_after_write before 0 xs → length xs ≡ place layout 1028
    → new.size ≡ max before.size (0 + length xs) → HasMark layout new
mark-kept Packed before new xs (inl short) is long size = inl (omega (arith, short, size, long))
mark-kept Packed before new xs (inr zeros) is long size =
    inr (read-elsewhere before new (place Spaced 1028) 0 xs is (inr (omega (arith, long))) ∙ zeros)
mark-kept Spaced before new xs (enough, has) is long size = (
  omega (arith, size, enough),
  read-elsewhere before new (place Spaced 1028) 0 xs is (inr (omega (arith, long))) ∙ has,
)

-- and the layout is found by it
pub found-mark : (layout : Layout) (file : FileState) → HasMark layout file → layout_in file ≡ layout
found-mark Packed file (inl short) = sym (too-short file (omega (arith, short)))
found-mark Packed file (inr zeros) = elim (cases_lt file.size (place Spaced 1028 + 512)) [
  | inl short ↦ sym (too-short file short)
  | inr enough ↦ sym (by-mark file zero_sector false Packed enough (sym zeros) unmarked refl)
]
found-mark Spaced file (enough, has) = sym (by-mark file mark true Spaced (omega (arith, enough)) (sym has) refl refl)

pub layout-synced : (file : FileState) → layout_in (file_after_sync file) ≡ layout_in file
unfolding layout_in
layout-synced file = refl

mark-synced : (layout : Layout) (file : FileState) → HasMark layout file → HasMark layout (file_after_sync file)
mark-synced Packed file has = has
mark-synced Spaced file has = has

-- how long it is then
cleared-size : (layout : Layout) (new : ℕ) → new ≡ max (mark_end layout) (0 + place layout 1028)
    → (place layout 1028 ≤ new) × (new % 512 ≡ 0) × (sectors_in layout new ≡ 1028)
cleared-size Packed new is = (omega (arith, is), omega (arith, is), omega (arith, is))
cleared-size Spaced new is = (omega (arith, is), omega (arith, is), refl)

pub cleared : (old before over new : FileState) (layout : Layout) (count : ℕ) → IsMarkedAs old before layout
    → over ≡ file_after_write before 0 (replicate count 0) → count ≡ place layout 1028 → new ≡ file_after_sync over
    → IsCleared old new layout
cleared old before over new layout count was second many third =
    let long : length (replicate {A = ℕ} count 0) ≡ count = length-replicate {A = ℕ} count 0 in
    let room = some-room layout in
    let size : over.size ≡ max before.size (0 + length (replicate {A = ℕ} count 0)) =
    size-written before over 0 (replicate count 0) second (omega (arith, long, many, room)) in
    let old_size = was.size in
    let new_size : new.size ≡ over.size = ap (λ (f : FileState). f.size) third in
    let all : new.size ≡ max (mark_end layout) (0 + place layout 1028) =
    omega (arith, new_size, size, old_size, long, many) in
    let sizes = cleared-size layout new.size all in
    record {
      block = ap (λ (f : FileState). f.block) third ∙ block-written before over 0 (replicate count 0) second
          ∙ was.block;
      long = sizes.0;
      whole = sizes.1;
      count = sizes.2;
      is_size_durable = ap (λ (f : FileState). f.is_size_durable) third;
      is_clean = ap (λ (f : FileState). f.is_clean) third;
      is_sure = ap (λ (f : FileState). f.is_sure) third
          ∙ sure-written before over 0 (replicate count 0) second was.is_sure;
      durable = ap (λ (f : FileState). f.durable) third ∙ sym (ap (λ (f : FileState). f.seen) third);
      clean = λ n. ap (λ (f : FileState). f.pending n) third;
      zeros = λ i lt.
          let within = inside layout i lt in
          ap (λ (f : FileState). values_from f.seen (place layout i) 512) third
          ∙ zeros-read over.seen (place layout i) (λ k small.
          ap (λ (f : FileState). f.seen (place layout i + k)) second
          ∙ write-seen before 0 (replicate count 0) (place layout i + k)
          ∙ zero-at before.seen 0 count (place layout i + k) (omega arith) (omega (arith, within, many, small)));
      has = subst (HasMark layout) (sym third)
          (mark-synced layout over
          (mark-kept layout before over (replicate count 0) was.has second (long ∙ many) size));
    }

-- ---- a disk over a file that was made ready

honest-when : (layout : Layout) (sectors : ℕ) (shown first : FileState) → shown.behaves ≡ true → IsSure shown
    → suits layout shown.block ≡ true → first.is_clean ≡ true
    → first.is_size_durable ≡ true → place layout sectors ≤ first.size
    → (keeps_disk layout shown && is_ready layout sectors first) ≡ true
honest-when layout sectors shown first behaves sure suited clean durable long =
    let enough = le-leb (place layout sectors) first.size long in
    rw (behaves, sure, suited, clean, durable, enough) refl

-- a spaced file has its sectors and the mark
pub spaced-room : (file : FileState) → layout_in file ≡ Spaced → place Spaced 1028 + 512 ≤ file.size
spaced-room file is = elim (cases_lt file.size (place Spaced 1028 + 512)) [
  | inl short ↦ absurd (let no : Packed ≡ Spaced = too-short file short ∙ is in cc)
  | inr long ↦ long
]

pub size-lengthened : (file : FileState) (size : ℕ) → (file_lengthened file size).size ≡ max file.size size
size-lengthened file size = elim (cases_lt file.size size) [
  | inl longer ↦
      let long : length (replicate {A = ℕ} (size - file.size) 0) ≡ size - file.size =
      length-replicate {A = ℕ} (size - file.size) 0 in
      let is = write-size file file.size (replicate (size - file.size) 0) (omega (arith, long, longer)) in
      omega (arith, is, long, longer)
  | inr enough ↦
      let none : size - file.size ≡ 0 = omega (arith, enough) in
      ap (λ (n : ℕ). (file_after_write file file.size (replicate n 0)).size) none ∙ (omega (arith, enough))
]

-- one with so many sectors is as long as they are
long-already : (layout : Layout) (least : ℕ) (file : FileState) (count : ℕ) → layout ≡ layout_in file
    → count ≡ sectors_in layout file.size → least ≤ count
    → place layout least - file.size ≡ 0
long-already Packed least file count found is le = omega (arith, is, le)
long-already Spaced least file count found is le = let room = spaced-room file (sym found) in
    omega (arith, is, le, room)

-- so a file that was made ready has all sectors
long-enough : (layout : Layout) (settled : FileState) (least : ℕ) → layout ≡ layout_in settled
    → place layout (max (sectors_in layout settled.size) least) ≤ (file_lengthened settled (place layout least)).size
long-enough Packed settled least found = let size = size-lengthened settled (place Packed least) in omega (arith, size)
long-enough Spaced settled least found =
    let size = size-lengthened settled (place Spaced least) in
    let room = spaced-room settled (sym found) in
    omega (arith, size, room)

-- Its layout is found again: what made a packed file longer are zeros, also in the place of a mark.
pub same-layout : (old new : FileState) → place Spaced 1028 + 512 ≤ old.size → old.size ≤ new.size
    → values_from new.seen (place Spaced 1028) 512 ≡ values_from old.seen (place Spaced 1028) 512
    → layout_in new ≡ layout_in old
unfolding layout_in
same-layout old new long longer same =
    let was = le-leb (place Spaced 1028 + 512) old.size long in
    let is = le-leb (place Spaced 1028 + 512) new.size (omega (arith, long, longer)) in
    rw (was, is, same) refl

packed-still : (file : FileState) (size : ℕ) → file.size ≤ place Spaced 1028
    → Packed ≡ layout_in (file_lengthened file size)
packed-still file size short =
    let is = size-lengthened file size in
    elim (cases_lt (file_lengthened file size).size (place Spaced 1028 + 512)) [
      | inl still ↦ too-short (file_lengthened file size) still
      | inr long ↦ by-mark (file_lengthened file size) zero_sector false Packed long
          (sym (zeros-read (file_lengthened file size).seen (place Spaced 1028)
          (λ k lt. write-seen file file.size (replicate (size - file.size) 0) (place Spaced 1028 + k)
          ∙ zero-at file.seen file.size (size - file.size) (place Spaced 1028 + k) (omega (arith, short))
          (omega (arith, is, long, short, lt))))) unmarked refl
    ]

pub found-longer : (layout : Layout) (file : FileState) (size : ℕ) → file.size % 512 ≡ 0 → layout ≡ layout_in file
    → layout ≡ layout_in (file_lengthened file size)
found-longer layout file size whole found = elim (cases_lt file.size (place Spaced 1028 + 512)) [
  | inl short ↦ found ∙ sym (too-short file short) ∙ packed-still file size (omega (arith, short, whole))
  | inr long ↦
      let zeros : List ℕ = replicate (size - file.size) 0 in
      let is = size-lengthened file size in
      found ∙ sym (layout-synced (file_after_write file file.size zeros)
      ∙ same-layout file (file_after_write file file.size zeros) long (omega (arith, is))
      (read-elsewhere file (file_after_write file file.size zeros) (place Spaced 1028) file.size zeros refl (inl long)))
]

-- a copy is still, and one that is long enough stays as it is
copied-still : (new : FileState) → new.durable ≡ new.seen → ((n : ℕ) → new.pending n ≡ false)
    → new.is_size_durable ≡ true → new.is_clean ≡ true → file_after_sync new ≡ new
copied-still new durable pending size clean = λ j. record {
  behaves = new.behaves;
  block = new.block;
  size = new.size;
  is_size_durable = sym size j;
  seen = new.seen;
  durable = sym durable j;
  pending = λ n. sym (pending n) j;
  is_clean = sym clean j;
  is_sure = new.is_sure;
  is_claimed = new.is_claimed;
}

pub still : (old new : FileState) → IsCopy old new → IsStill new
still old new copy =
    (copy.is_sure, copied-still new copy.durable copy.pending copy.is_size_durable copy.is_clean)

pub enough : (file new : FileState) (least octets count : ℕ) (layout : Layout) → IsStill file → octets ≡ file.size
    → new ≡ file → layout ≡ layout_in file
    → count ≡ sectors_in layout octets → least ≤ count → IsExtent file new least layout count
enough file new least octets count layout still size same found is le =
    let all : count ≡ sectors_in layout file.size = is ∙ ap (sectors_in layout) size in
    let none : place layout least - file.size ≡ 0 = long-already layout least file count found all le in
    record {
      found = found;
      count = omega (arith, all, le);
      file = same ∙ sym still.1
          ∙ ap (λ (n : ℕ). file_after_sync (file_after_write file file.size (replicate n 0))) (sym none);
    }

module _ {F : Type 0} (file : F → FileState) where
  -- a disk over a copy that was made longer
  pub opened : (given ready : F) (copy : FileState) (layout : Layout) (past : List (Snapshot F)) (shown : Snapshot F)
      (least count sectors clock failures : ℕ)
      → IsExtent copy (file ready) least layout count → IsCopy (file given) copy → copy.size % 512 ≡ 0
      → shown.value ≡ ready → past ≡ [] → sectors ≡ count
      → IsOpened (file given) least layout (disk_by file layout past shown sectors clock failures)
  opened given ready copy layout past shown least count sectors clock failures extent copies whole is none all =
      let made : file shown.value ≡ file_lengthened copy (place layout least) = ap file is ∙ extent.file in
      let zeros : List ℕ = replicate (place layout least - copy.size) 0 in
      let block : (file shown.value).block ≡ (file given).block =
      ap (λ (f : FileState). f.block) made ∙ write-block copy copy.size zeros ∙ copies.block in
      let long : place layout sectors ≤ (file shown.value).size =
      subst (λ (n : ℕ). place layout n ≤ (file shown.value).size) (sym (all ∙ extent.count))
      (subst (λ (f : FileState). place layout (max (sectors_in layout copy.size) least) ≤ f.size) (sym made)
      (long-enough layout copy least extent.found)) in
      record {
        whole = ap (λ (n : ℕ). n % 512) (sym copies.size) ∙ whole;
        copy = copy;
        copies = copies;
        found = extent.found;
        again = found-longer layout copy (place layout least) whole extent.found;
        sectors = all ∙ extent.count;
        honest = λ suited. rw none (honest-when layout sectors (file shown.value) (file shown.value)
            (ap (λ (f : FileState). f.behaves) made ∙ write-behaves copy copy.size zeros ∙ copies.behaves)
            (ap (λ (f : FileState). f.is_sure) made ∙ write-sure copy copy.size zeros ∙ copies.is_sure)
            (ap (suits layout) block ∙ suited)
            (ap (λ (f : FileState). f.is_clean) made)
            (ap (λ (f : FileState). f.is_size_durable) made)
            long);
        state = rw none (ap (state_in_file layout) made);
      }

  -- a new disk over a file that was cleared
  pub blank : (old : FileState) (ready : F) (layout : Layout) (past : List (Snapshot F)) (shown : Snapshot F)
      (sectors clock failures : ℕ)
      → IsCleared old (file ready) layout → (file ready).behaves ≡ true
      → sectors ≡ 1028 → shown.value ≡ ready → past ≡ []
      → IsBlank old (file ready) layout (disk_by file layout past shown sectors clock failures)
  unfolding state_in_file
  blank old ready layout past shown sectors clock failures was behaves all is none =
      let long : place layout sectors ≤ (file ready).size =
      subst (λ (n : ℕ). place layout n ≤ (file ready).size) (sym all) was.long in
      let shows : file shown.value ≡ file ready = ap file is in
      record {
        block = was.block;
        honest = λ suited. rw (none, shows)
            (honest-when layout sectors (file ready) (file ready) behaves was.is_sure
            (ap (suits layout) was.block ∙ suited) was.is_clean was.is_size_durable long);
        sectors = all;
        state = rw none (ap (state_in_file layout) shows);
        zeros = λ i lt. rw (none, shows) (was.zeros i lt);
        durable = λ i. rw (none, shows) (ap (λ (f : ℕ → ℕ). values_from f (place layout i) 512) was.durable);
        clean = λ i. rw (none, shows) (was.clean (place layout i / (file ready).block));
        has = was.has;
        found = found-mark layout (file ready) was.has;
      }
