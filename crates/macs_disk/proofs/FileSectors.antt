-- What the calls of a file do, sector by sector.
use Rattle.std.proofs.Common.{◌≡◌, ◌≢◌, ◌≤◌, ◌<◌, ◌+◌, ◌-◌, ◌*◌, ◌/◌, ◌&&◌, ◌||◌, ◌==◌, ◌⊎◌, inl, inr, ℕ, Bool, true}
use Rattle.std.proofs.Common.{false, List, [], ◌∷◌, ◌++◌, length, get_or, nat_lt, refl, ap, ◌∙◌, arith, subst, sym}
use Rattle.std.proofs.Common.{Result, Ok, Err, OnOk}
use Rattle.std.proofs.lemmas.Bool.{cases_lt, cases_eq, lt-ltb, le-ltb}
use Rattle.std.proofs.lemmas.List.{ext_get_or}
use Rattle.std.proofs.lemmas.Grind.{get_or_default_zero}
use Rattle.macs_disk.specs.States.{IsImage, IsSector, put_sector, state_after_write, state_after_sync}
use Rattle.macs_disk.specs.Disk.{Reads, Writes, Syncs}
use Rattle.macs_disk.specs.Files.{FileState, Behaves, IsSure, IsFileImage, IsSoundFile, SyncsFile, WritesSome}
use Rattle.macs_disk.specs.Files.{WritesAll, put_from, has_some, values_from, file_after_write, file_after_sync}
use Rattle.macs_disk.specs.FileDisks.{image_in_file, keeps_disk, state_in_file}
use Rattle.macs_disk.specs.FileEvidence.{is_same, length-values, stands-at, value-at, values-same, values-sector}
use Rattle.macs_disk.specs.Layouts.{place, suits}
use Rattle.macs_disk.specs.declared.layout.Layout.{Layout}
use Rattle.macs_disk.specs.declared.layout.Layout.TheVariants.{Packed, Spaced}
use Rattle.macs_disk.proofs.Images.{State-ext, put-same, put-other}
use Rattle.macs_disk.proofs.FileWrites.{put-at, put-before, put-behind, length-joined, get_or-front, get_or-behind}
use Rattle.macs_disk.proofs.FileWrites.{octets-joined, small-values, write-block, write-sure, write-behaves}

-- ---- where sectors are

-- two places are a whole block apart
abbrev pub Apart : ℕ → ℕ → ℕ → Type 0
Apart block here there = (here + block ≤ there) ⊎ (there + block ≤ here)

packed-apart : (i at : ℕ) → i ≢ at → Apart 512 (512 * i) (512 * at)
packed-apart i at other = elim (cases_lt i at) [
  | inl before ↦ inl (omega (arith, before))
  | inr from ↦ inr (omega (arith, from, other))
]

spaced-apart : (i at block : ℕ) → i ≢ at → block ≤ 4096 → Apart block (4096 * i) (4096 * at)
spaced-apart i at block other fits = elim (cases_lt i at) [
  | inl before ↦ inl (omega (arith, before, fits))
  | inr from ↦ inr (omega (arith, from, other, fits))
]

small-block : (block : ℕ) (is_small : Bool) → (block == 512) ≡ is_small → (is_small || (block == 4096)) ≡ true
    → block ≤ 4096
small-block block true is suited = let same = is_same block 512 is in omega (arith, same)
small-block block false is suited = let same = is_same block 4096 suited in omega (arith, same)

pub apart-at : (layout : Layout) (block i at : ℕ) → suits layout block ≡ true → i ≢ at
    → Apart block (place layout i) (place layout at)
apart-at Packed block i at suited other =
    subst (λ (b : ℕ). Apart b (512 * i) (512 * at)) (sym (is_same block 512 suited)) (packed-apart i at other)
apart-at Spaced block i at suited other = spaced-apart i at block other (small-block block (block == 512) refl suited)

-- ---- a sector that was written

-- the first octets of a sector, and what was after them
abbrev filled : (ℕ → ℕ) → ℕ → List ℕ → List ℕ
filled f at xs = xs ++ values_from f (at + length xs) (512 - length xs)

module _ (f : ℕ → ℕ) (at : ℕ) (xs : List ℕ) (fits : length xs ≤ 512) where
  seen-here : (whole : List ℕ) → length whole ≡ 512 → ((i : ℕ) → i < length xs → get_or whole i 0 ≡ get_or xs i 0)
      → ((i : ℕ) → length xs ≤ i → i < 512 → get_or whole i 0 ≡ f (at + i))
      → values_from (put_from f at xs) at 512 ≡ whole
  seen-here whole size front behind =
      ext_get_or 0 (values_from (put_from f at xs) at 512) whole (length-values (put_from f at xs) at 512 ∙ sym size)
      (λ i lt. let small : i < 512 = subst (λ (n : ℕ). i < n) (length-values (put_from f at xs) at 512) lt in
      value-at (put_from f at xs) at 512 i 0 small ∙ (elim (cases_lt i (length xs)) [
        | inl inside ↦
            let here : at + i - at ≡ i = omega arith in
            put-at f at (at + i) xs (omega arith) ∙ ap (λ (k : ℕ). get_or xs k (f (at + i))) here
            ∙ get_or_default_zero xs i (f (at + i)) inside ∙ sym (front i inside)
        | inr past ↦ put-behind f at (at + i) xs (omega (arith, past)) ∙ sym (behind i past small)
      ]))

  filled-size : length (filled f at xs) ≡ 512
  filled-size =
      let h = length-joined xs (values_from f (at + length xs) (512 - length xs)) in
      let k = length-values f (at + length xs) (512 - length xs) in
      omega (arith, h, k, fits)

  filled-behind : (i : ℕ) → length xs ≤ i → i < 512 → get_or (filled f at xs) i 0 ≡ f (at + i)
  filled-behind i past small =
      let here : i ≡ length xs + (i - length xs) = omega (arith, past) in
      let there : (at + length xs) + (i - length xs) ≡ at + i = omega (arith, past) in
      ap (λ (k : ℕ). get_or (filled f at xs) k 0) here
      ∙ get_or-behind xs (values_from f (at + length xs) (512 - length xs)) (i - length xs) 0
      ∙ value-at f (at + length xs) (512 - length xs) (i - length xs) 0 (omega (arith, past, small, fits)) ∙ ap f there

  seen-filled : values_from (put_from f at xs) at 512 ≡ filled f at xs
  seen-filled = seen-here (filled f at xs) filled-size
      (λ i lt. get_or-front xs (values_from f (at + length xs) (512 - length xs)) i 0 lt) filled-behind

-- a sector of octets is read back from where it was written
pub values-written : (f : ℕ → ℕ) (at : ℕ) (xs : List ℕ) → length xs ≡ 512 → values_from (put_from f at xs) at 512 ≡ xs
values-written f at xs size = seen-here f
    at xs (omega (arith, size)) xs size (λ i lt. refl) (λ i past small. absurd (omega (arith, size, past, small)))

-- octets elsewhere are as they were
elsewhere : {X : Type 0} (f : ℕ → X) (block here there k : ℕ) (xs : List X) → length xs ≤ 512 → 512 ≤ block
    → Apart block here there → k < 512
    → put_from f there xs (here + k) ≡ f (here + k)
elsewhere f block here there k xs fits wide (inl before) lt =
    put-before f there (here + k) xs (omega (arith, before, wide, lt))
elsewhere f block here there k xs fits wide (inr behind) lt =
    put-behind f there (here + k) xs (omega (arith, behind, wide, fits))

-- the block of a sector that is written is pending, and no other one of a sector
block-here : (block n at size : ℕ) (rest : Bool) → 0 < block → 0 < size → at ≡ block * n
    → (has_some block at (at + size) n || rest) ≡ true
block-here block n at size rest wide some front =
    let a = lt-ltb (block * n) (at + size) (omega (arith, front, some)) in
    let b = lt-ltb at (block * n + block) (omega (arith, front, wide)) in
    rw (a, b) refl

block-there : (block n here there size : ℕ) (rest : Bool) → size ≤ block → here ≡ block * n → Apart block here there
    → (has_some block there (there + size) n || rest) ≡ rest
block-there block n here there size rest fits front (inl before) =
    let b = le-ltb there (block * n + block) (omega (arith, front, before)) in
    rw b (none-of (nat_lt (block * n) (there + size)) rest)
  where
    none-of : (b rest : Bool) → ((b && false) || rest) ≡ rest
    none-of true rest = refl
    none-of false rest = refl
block-there block n here there size rest fits front (inr behind) =
    let a = le-ltb (block * n) (there + size) (omega (arith, front, behind, fits)) in
    rw a refl

module _ (layout : Layout) (file : FileState) (at : ℕ) (x : ℕ) (xs : List ℕ) (suited : suits layout file.block ≡ true)
    (fits : length (x ∷ xs) ≤ 512) where
  wide : 512 ≤ file.block
  wide = (stands-at layout file.block at suited).long

  -- the disk's state after octets were written from a sector's front on
  state-written : (whole : List ℕ)
      → values_from (put_from file.seen (place layout at) (x ∷ xs)) (place layout at) 512 ≡ whole
      → state_in_file layout (file_after_write file (place layout at) (x ∷ xs))
      ≡ state_after_write (state_in_file layout file) at whole
  unfolding state_in_file
  state-written whole here = State-ext _ _ seen (λ i. refl) pending where
    seen : (i : ℕ) → values_from (put_from file.seen (place layout at) (x ∷ xs)) (place layout i) 512
        ≡ put_sector (λ (k : ℕ). values_from file.seen (place layout k) 512) at whole i
    seen i = elim (cases_eq i at) [
      | inl same ↦ subst (λ (k : ℕ). values_from (put_from file.seen (place layout at) (x ∷ xs)) (place layout k) 512
          ≡ whole) (sym same) here
          ∙ sym (put-same (λ (k : ℕ). values_from file.seen (place layout k) 512) at i whole same)
      | inr other ↦ values-same (put_from file.seen (place layout at) (x ∷ xs)) file.seen (place layout i) 512
          (λ k lt. elsewhere file.seen file.block (place layout i) (place layout at) k (x ∷ xs) fits wide
          (apart-at layout file.block i at suited other) lt)
          ∙ sym (put-other (λ (k : ℕ). values_from file.seen (place layout k) 512) at i whole other)
    ]

    pending : (i : ℕ) → (has_some file.block (place layout at) (place layout at + length (x ∷ xs))
        (place layout i / file.block) || file.pending (place layout i / file.block))
        ≡ put_sector (λ (k : ℕ). file.pending (place layout k / file.block)) at true i
    pending i = elim (cases_eq i at) [
      | inl same ↦
          let stands = stands-at layout file.block i suited in
          let front = stands.front in
          let there : place layout at ≡ file.block * (place layout i / file.block) =
          ap (place layout) (sym same) ∙ front in
          block-here file.block (place layout i / file.block) (place layout at) (length (x ∷ xs)) _
          (omega (arith, wide)) (omega arith) there
          ∙ sym (put-same (λ (k : ℕ). file.pending (place layout k / file.block)) at i true same)
      | inr other ↦
          let stands = stands-at layout file.block i suited in
          block-there file.block (place layout i / file.block) (place layout i) (place layout at) (length (x ∷ xs)) _
          (omega (arith, fits, wide)) stands.front
          (apart-at layout file.block i at suited other)
          ∙ sym (put-other (λ (k : ℕ). file.pending (place layout k / file.block)) at i true other)
    ]

pub sector-written : (layout : Layout) (file : FileState) (at : ℕ) (octets : List ℕ) → suits layout file.block ≡ true
    → length octets ≡ 512
    → state_in_file layout (file_after_write file (place layout at) octets)
    ≡ state_after_write (state_in_file layout file) at octets
sector-written layout file at [] suited size = absurd (omega (arith, size))
sector-written layout file at (x ∷ xs) suited size =
    state-written layout file at x xs suited (omega (arith, size)) (x ∷ xs)
    (values-written file.seen (place layout at) (x ∷ xs) size)

-- what is left of a write that failed
sector-torn : (layout : Layout) (old new : FileState) (at : ℕ) → suits layout old.block ≡ true → IsSoundFile old
    → WritesSome old new (place layout at) 512
    → (state_in_file layout new ≡ state_in_file layout old)
    ⊎ ((other : List ℕ) × IsSector other
    × (state_in_file layout new ≡ state_after_write (state_in_file layout old) at other))
sector-torn layout old new at suited sound ([], fits, octets, is) = inl (ap (state_in_file layout) is)
sector-torn layout old new at suited sound (x ∷ xs, fits, octets, is) =
    inr (
      filled old.seen (place layout at) (x ∷ xs),
      record {
        size = filled-size old.seen (place layout at) (x ∷ xs) fits;
        octets = octets-joined (x ∷ xs)
            (values_from old.seen (place layout at + length (x ∷ xs)) (512 - length (x ∷ xs))) octets
            (small-values old.seen (place layout at + length (x ∷ xs)) (512 - length (x ∷ xs)) sound.seen);
      },
      ap (state_in_file layout) is
          ∙ state-written layout old at x xs suited fits (filled old.seen (place layout at) (x ∷ xs))
          (seen-filled old.seen (place layout at) (x ∷ xs) fits),
    )

pub writes-sector : {T E : Type 0} (layout : Layout) (old new : FileState) (at : ℕ) (octets : List ℕ)
    (result : Result T E) → suits layout old.block ≡ true → IsSure old
    → IsSoundFile old → length octets ≡ 512 → WritesAll old new (place layout at) octets result
    → Writes (state_in_file layout old) (state_in_file layout new) at octets result
writes-sector layout old new at octets (Ok x) suited sure sound size writes =
    record {
      ok = ap (state_in_file layout) (writes.ok sure)
          ∙ sector-written layout old at octets suited size;
      err = tt;
    }
writes-sector layout old new at octets (Err e) suited sure sound size writes =
    record {
      ok = tt;
      err = sector-torn layout old new
          at suited sound (subst (λ (n : ℕ). WritesSome old new (place layout at) n) size (writes.err sure));
    }

-- ---- a sector that was read, and a sync

pub reads-sector : {T E : Type 0} (layout : Layout) (old new : FileState) (at : ℕ) (into : List ℕ) (result : Result T E)
    → new ≡ old
    → OnOk result (into ≡ values_from old.seen (place layout at) 512)
    → Reads (state_in_file layout old) (state_in_file layout new) at into result
unfolding state_in_file
reads-sector layout old new at into result same octets = record { same = ap (state_in_file layout) same; ok = octets }

pub state-synced : (layout : Layout) (file : FileState)
    → state_in_file layout (file_after_sync file) ≡ state_after_sync (state_in_file layout file)
unfolding state_in_file
state-synced layout file = refl

pub syncs-file : {T E D : Type 0} (layout : Layout) (old new : FileState) (x : T) → IsSure old
    → SyncsFile {E = D} old new (Ok x)
    → Syncs {E = E} (state_in_file layout old) (state_in_file layout new) (Ok x)
syncs-file layout old new x sure syncs =
    record { ok = ap (state_in_file layout) (syncs.ok sure) ∙ state-synced layout old; err = tt }

-- nothing is pending: the state is one after a sync
pub state-clean : (layout : Layout) (file : FileState) → suits layout file.block ≡ true → IsSure file → IsSoundFile file
    → file.is_clean ≡ true
    → state_in_file layout file ≡ state_after_sync (state_in_file layout file)
unfolding state_in_file
state-clean layout file suited sure sound clean = State-ext _ _ (λ i. refl)
    (λ i. let stands = stands-at layout file.block i suited in
    let long = stands.long in
    values-same file.durable file.seen (place layout i) 512
    (λ k lt. subst (λ (p : ℕ). file.durable (p + k) ≡ file.seen (p + k)) (sym stands.front)
    (sym (sound.shown (place layout i / file.block) k (sound.clean clean (place layout i / file.block))
    (omega (arith, lt, long))))))
    (λ i. sound.clean clean (place layout i / file.block))

-- ---- a file that keeps a disk goes on to keep it

keeps-written : (layout : Layout) (file : FileState) (at : ℕ) (xs : List ℕ)
    → keeps_disk layout (file_after_write file at xs) ≡ keeps_disk layout file
keeps-written layout file at xs = λ i. write-behaves file at xs i && write-sure file at xs i
    && suits layout (write-block file at xs i)

-- a file in doubt keeps none
in-doubt : (layout : Layout) (file : FileState) → file.is_sure ≡ false → keeps_disk layout file ≡ false
in-doubt layout file is = rw is (nothing file.behaves (suits layout file.block)) where
  nothing : (a b : Bool) → ((a && false) && b) ≡ false
  nothing true b = refl
  nothing false b = refl

unbehaved : (layout : Layout) (file : FileState) → file.behaves ≡ false → keeps_disk layout file ≡ false
unbehaved layout file is = rw is refl

module _ (layout : Layout) (old new : FileState) (steady : new.behaves ≡ old.behaves) where
  keeps-by : (Behaves old → keeps_disk layout new ≡ keeps_disk layout old) → (b : Bool) → old.behaves ≡ b
      → keeps_disk layout new ≡ keeps_disk layout old
  keeps-by behaving true is = behaving is
  keeps-by behaving false is = unbehaved layout new (steady ∙ is) ∙ sym (unbehaved layout old is)

  sure-by : (IsSure old → keeps_disk layout new ≡ keeps_disk layout old) → (old.is_sure ≡ false → new.is_sure ≡ false)
      → (s : Bool) → old.is_sure ≡ s
      → keeps_disk layout new ≡ keeps_disk layout old
  sure-by sure doubt true is = sure is
  sure-by sure doubt false is = in-doubt layout new (doubt is) ∙ sym (in-doubt layout old is)

  pub keeps-after-write : {T E : Type 0} (at : ℕ) (octets : List ℕ) (result : Result T E)
      → (Behaves old → WritesAll old new at octets result)
      → keeps_disk layout new ≡ keeps_disk layout old
  keeps-after-write at octets result writes =
      keeps-by (λ behaves. sure-by (λ sure. done result (writes behaves) sure) (writes behaves).doubt old.is_sure refl)
      old.behaves refl
    where
      done : {T E : Type 0} (result : Result T E) → WritesAll old new at octets result → IsSure old
          → keeps_disk layout new ≡ keeps_disk layout old
      done (Ok x) all sure = ap (keeps_disk layout) (all.ok sure) ∙ keeps-written layout old at octets
      done (Err e) all sure = let some = all.err sure in
          ap (keeps_disk layout) some.3 ∙ keeps-written layout old at some.0

  pub keeps-same : (Behaves old → new ≡ old) → keeps_disk layout new ≡ keeps_disk layout old
  keeps-same same = keeps-by (λ behaves. ap (keeps_disk layout) (same behaves)) old.behaves refl

  pub keeps-after-sync : {T E : Type 0} (x : T) → (Behaves old → SyncsFile {E = E} old new (Ok x))
      → keeps_disk layout new ≡ keeps_disk layout old
  keeps-after-sync x syncs =
      keeps-by (λ behaves. sure-by (λ sure. ap (keeps_disk layout) ((syncs behaves).ok sure))
      (syncs behaves).doubt old.is_sure refl) old.behaves refl

-- ---- what a power loss leaves

pub file-image : (layout : Layout) (file : FileState) (image : ℕ → ℕ) → suits layout file.block ≡ true
    → IsFileImage file image
    → IsImage (state_in_file layout file) (image_in_file layout image)
unfolding state_in_file
file-image layout file image suited left = record {
  kept = λ i clean.
      let stands = stands-at layout file.block i suited in
      let long = stands.long in
      values-same image file.durable (place layout i) 512
      (λ k lt. subst (λ (p : ℕ). image (p + k) ≡ file.durable (p + k)) (sym stands.front)
      (left.kept (place layout i / file.block) k clean (omega (arith, lt, long))));
  whole = λ i _. values-sector image (place layout i) left.octets;
}

-- a sector that is not pending after a write is another one, and was not pending before
unwritten : (pending : ℕ → Bool) (at i : ℕ) → put_sector pending at true i ≡ false → (i ≢ at) × (pending i ≡ false)
unwritten pending at i clean = elim (cases_eq i at) [
  | inl same ↦ absurd (let marked = put-same pending at i true same in cc)
  | inr other ↦ (other, sym (put-other pending at i true other) ∙ clean)
]

-- a write of some octets in a sector leaves what a write of the sector may
pub inside-write : (layout : Layout) (old mid : FileState) (at : ℕ) (octets : List ℕ) (image : ℕ → ℕ)
    → suits layout old.block ≡ true
    → WritesSome old mid (place layout at) 512 → IsFileImage mid image
    → IsImage (state_after_write (state_in_file layout old) at octets) (image_in_file layout image)
unfolding state_in_file
inside-write layout old mid at octets image suited (xs, fits, small, is) left = record {
  kept = λ i clean.
      let apart = unwritten (λ (k : ℕ). old.pending (place layout k / old.block)) at i clean in
      let stands = stands-at layout old.block i suited in
      let long = stands.long in
      let front = stands.front in
      let block : mid.block ≡ old.block = ap (λ (f : FileState). f.block) is ∙ write-block old (place layout at) xs in
      let free : mid.pending (place layout i / old.block) ≡ false =
      ap (λ (f : FileState). f.pending (place layout i / old.block)) is
      ∙ pending-there old (place layout at) (place layout i / old.block) (place layout i) xs fits long front
      (apart-at layout old.block i at suited apart.0) ∙ apart.1 in
      let durable : mid.durable ≡ old.durable = ap (λ (f : FileState). f.durable) is
      ∙ write-durable old (place layout at) xs in
      values-same image old.durable (place layout i) 512 (λ k lt.
      subst (λ (p : ℕ). image (p + k) ≡ old.durable (p + k)) (sym front)
      (subst (λ (b : ℕ). image (b * (place layout i / old.block) + k)
      ≡ mid.durable (b * (place layout i / old.block) + k)) block
      (left.kept (place layout i / old.block) k free (subst (λ (b : ℕ). k < b) (sym block) (omega (arith, lt, long))))
      ∙ ap (λ (f : ℕ → ℕ). f (old.block * (place layout i / old.block) + k)) durable));
  whole = λ i _. values-sector image (place layout i) left.octets;
} where
  pending-there : (old : FileState) (there n here : ℕ) (xs : List ℕ) → length xs ≤ 512 → 512 ≤ old.block
      → here ≡ old.block * n → Apart old.block here there
      → (file_after_write old there xs).pending n ≡ old.pending n
  pending-there old there n here [] fits wide front apart = refl
  pending-there old there n here (x ∷ xs) fits wide front apart =
      block-there old.block n here there (length (x ∷ xs)) (old.pending n) (omega (arith, fits, wide)) front apart

  write-durable : (file : FileState) (at : ℕ) (xs : List ℕ) → (file_after_write file at xs).durable ≡ file.durable
  write-durable file at [] = refl
  write-durable file at (x ∷ xs) = refl
