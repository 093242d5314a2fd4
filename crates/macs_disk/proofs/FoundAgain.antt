-- A disk in a file is found again as it is: what calls leave of the file's size and of its mark, and what a power loss
-- does.
use Rattle.std.proofs.Common.{◌≡◌, ◌≢◌, ◌≤◌, ◌<◌, ◌+◌, ◌-◌, ◌*◌, ◌/◌, ◌%◌, ◌&&◌, ◌||◌, ◌⊎◌, inl, inr, ℕ, max, Bool}
use Rattle.std.proofs.Common.{true, false, List, [], ◌∷◌, length, nat_lt, replicate, refl, ap, ◌∙◌, arith}
use Rattle.std.proofs.Common.{subst, sym, Result, Ok, Err}
use Rattle.std.proofs.lemmas.Bool.{cases_eq, cases_lt, le-leb, le-ltb}
use Rattle.macs_disk.specs.Disk.{Disk}
use Rattle.macs_disk.specs.Files.{Behaves, FileState, HasNothingNew, IsCopy, IsFileImage, IsSoundFile, IsSure}
use Rattle.macs_disk.specs.Files.{WritesAll}
use Rattle.macs_disk.specs.Files.{file_after_sync, file_after_write, file_in_doubt, values_from}
use Rattle.macs_disk.specs.FileDisks.{IsCleared, IsExtent, IsFoundAs, IsOpened, KeepsLayout, file_lengthened}
use Rattle.macs_disk.specs.FileEvidence.{StandsAt, is_same, stands-at, values-same}
use Rattle.macs_disk.specs.Layouts.{layout_in, mark_place, place, sectors_in, suits}
use Rattle.macs_disk.specs.declared.layout.Layout.{Layout}
use Rattle.macs_disk.specs.declared.layout.Layout.TheVariants.{Packed, Spaced}
use Rattle.macs_disk.proofs.FileOpenings.{found-longer, found-mark, layout-synced, read-elsewhere, same-layout}
use Rattle.macs_disk.proofs.FileOpenings.{size-lengthened, spaced-room, too-short}
use Rattle.macs_disk.proofs.FileWrites.{write-sure}

-- ---- the block of the mark

-- the mark is at the front of a block
pub mark-stands : (layout : Layout) (block : ℕ) → suits layout block ≡ true
    → StandsAt block (mark_place / block) mark_place
mark-stands Packed block suited =
    subst (λ (b : ℕ). StandsAt b (mark_place / b) mark_place) (sym (is_same block 512 suited))
    (record { front = omega arith; long = omega arith })
mark-stands Spaced block suited = stands-at Spaced block 1028 suited

-- a write that ends in front of the mark, or begins after its block, leaves its block as it was
mark-untouched : (block n there count : ℕ) (rest : Bool) → mark_place ≡ block * n
    → (there + count ≤ mark_place) ⊎ (mark_place + block ≤ there)
    → ((nat_lt (block * n) (there + count) && nat_lt there (block * n + block)) || rest) ≡ rest
mark-untouched block n there count rest front (inl before) =
    let no = le-ltb (block * n) (there + count) (omega (arith, front, before)) in
    rw no refl
mark-untouched block n there count rest front (inr behind) =
    let no = le-ltb there (block * n + block) (omega (arith, front, behind)) in
    rw no (none-of (nat_lt (block * n) (there + count)) rest)
  where
    none-of : (b rest : Bool) → ((b && false) || rest) ≡ rest
    none-of true rest = refl
    none-of false rest = refl

-- ---- the layout

-- a file that has the same at the place of the mark, and reaches it as before
pub layout-same : (old new : FileState) → values_from new.seen mark_place 512 ≡ values_from old.seen mark_place 512
    → old.size ≤ new.size
    → (new.size < mark_place + 512) ⊎ (mark_place + 512 ≤ old.size) → layout_in new ≡ layout_in old
layout-same old new same longer (inl short) = sym (too-short new short) ∙ too-short old (omega (arith, short, longer))
layout-same old new same longer (inr long) = same-layout old new long longer same

-- where a write may be that leaves the mark alone
abbrev pub Spares : FileState → ℕ → ℕ → Type 0
Spares file there count = (there + count ≤ mark_place) ⊎ ((mark_place + 512 ≤ there) × (there + count ≤ file.size))

-- and its block
abbrev pub SparesBlock : Layout → FileState → ℕ → ℕ → Type 0
SparesBlock layout file there count = suits layout file.block ≡ true
    → (there + count ≤ mark_place) ⊎ (mark_place + file.block ≤ there)

module _ (old : FileState) (there x : ℕ) (xs : List ℕ) where
  abbrev wrote : FileState
  wrote = file_after_write old there (x ∷ xs)

  abbrev wrote_to : ℕ
  wrote_to = there + length (x ∷ xs)

  mark-shown : Spares old there (length (x ∷ xs))
      → values_from wrote.seen mark_place 512 ≡ values_from old.seen mark_place 512
  mark-shown (inl before) = read-elsewhere old wrote mark_place there (x ∷ xs) refl (inr before)
  mark-shown (inr behind) = read-elsewhere old wrote mark_place there (x ∷ xs) refl (inl behind.0)

  mark-reached : Spares old there (length (x ∷ xs)) → (wrote.size < mark_place + 512) ⊎ (mark_place + 512 ≤ old.size)
  mark-reached (inl before) = elim (cases_lt old.size (mark_place + 512)) [
    | inl short ↦ inl (omega (arith, short, before))
    | inr long ↦ inr long
  ]
  mark-reached (inr behind) = inr (let first = behind.0 in let last = behind.1 in omega (arith, first, last))

  -- a write inside the file leaves its size durable
  durable-inside : wrote_to ≤ old.size → old.is_size_durable ≡ true → wrote.is_size_durable ≡ true
  durable-inside within durable = let yes = le-leb wrote_to old.size within in rw (durable, yes) refl

  sized-inside : wrote_to ≤ old.size → (old.is_size_durable ≡ true) ⊎ (old.size ≤ mark_place)
      → (wrote.is_size_durable ≡ true) ⊎ (wrote.size ≤ mark_place)
  sized-inside within (inl durable) = inl (durable-inside within durable)
  sized-inside within (inr short) = inr (omega (arith, within, short))

  mark-sized : Spares old there (length (x ∷ xs)) → (old.is_size_durable ≡ true) ⊎ (old.size ≤ mark_place)
      → (wrote.is_size_durable ≡ true) ⊎ (wrote.size ≤ mark_place)
  mark-sized (inl before) sized = elim (cases_lt old.size wrote_to) [
    | inl longer ↦ inr (omega (arith, longer, before))
    | inr within ↦ sized-inside within sized
  ]
  mark-sized (inr behind) sized = sized-inside behind.1 sized

  kept-some : (layout : Layout) → KeepsLayout layout old → Spares old there (length (x ∷ xs))
      → SparesBlock layout old there (length (x ∷ xs)) → KeepsLayout layout wrote
  kept-some layout kept spares blocks = record {
    found = layout-same old wrote (mark-shown spares) (omega arith) (mark-reached spares) ∙ kept.found;
    durable = kept.durable ∙ sym (mark-shown spares);
    still = λ suited.
        let stands = mark-stands layout old.block suited in
        mark-untouched old.block (mark_place / old.block) there (length (x ∷ xs)) (old.pending (mark_place / old.block))
        stands.front (blocks suited) ∙ kept.still suited;
    sized = mark-sized spares kept.sized;
  }

-- a write that leaves the mark and its block alone
pub kept-write : (layout : Layout) (old : FileState) (there : ℕ) (xs : List ℕ) → KeepsLayout layout old
    → Spares old there (length xs)
    → SparesBlock layout old there (length xs) → KeepsLayout layout (file_after_write old there xs)
kept-write layout old there [] kept spares blocks = kept
kept-write layout old there (x ∷ xs) kept spares blocks = kept-some old there x xs layout kept spares blocks

-- a sync makes durable what is shown
pub kept-synced : (layout : Layout) (old new : FileState) → layout_in old ≡ layout → new ≡ file_after_sync old
    → KeepsLayout layout new
kept-synced layout old new found is =
    subst (KeepsLayout layout) (sym is)
    (record { found = layout-synced old ∙ found; durable = refl; still = λ _. refl; sized = inl refl })

-- a failed one leaves it as it was
layout-doubted : (file : FileState) → layout_in (file_in_doubt file) ≡ layout_in file
unfolding layout_in
layout-doubted file = refl

pub kept-doubted : (layout : Layout) (old new : FileState) → KeepsLayout layout old → new ≡ file_in_doubt old
    → KeepsLayout layout new
kept-doubted layout old new kept is =
    subst (KeepsLayout layout) (sym is)
    (record { found = layout-doubted old ∙ kept.found; durable = kept.durable; still = kept.still; sized = kept.sized })

-- whatever a power loss leaves, the mark is as it is shown
pub mark-left : (layout : Layout) (file : FileState) (image : ℕ → ℕ) → KeepsLayout layout file
    → suits layout file.block ≡ true → IsFileImage file image
    → values_from image mark_place 512 ≡ values_from file.seen mark_place 512
mark-left layout file image kept suited left =
    let stands = mark-stands layout file.block suited in
    let long = stands.long in
    values-same image file.durable mark_place 512
    (λ k lt. subst (λ (p : ℕ). image (p + k) ≡ file.durable (p + k)) (sym stands.front)
    (left.kept (mark_place / file.block) k (kept.still suited) (omega (arith, lt, long))))
    ∙ kept.durable

-- ---- a disk in a file

-- where sectors of a disk end
pub sector-inside : (layout : Layout) (sectors at : ℕ) (file : FileState) → IsFoundAs layout sectors file → at < sectors
    → place layout at + 512 ≤ file.size
sector-inside Packed sectors at file is lt = let count = is.count in omega (arith, count, lt)
sector-inside Spaced sectors at file is lt =
    let count = is.count in
    let room = spaced-room file is.keeps.found in
    omega (arith, count, lt, room)

-- A sector that is not at the place of the mark leaves it alone. No other one is there: of a packed disk it is sector
-- 8224.
sector-spares : (layout : Layout) (sectors at count : ℕ) (file : FileState) → IsFoundAs layout sectors file
    → at < sectors → place layout at ≢ mark_place → count ≤ 512
    → Spares file (place layout at) count
sector-spares Packed sectors at count file is lt other fits = elim (cases_lt at 8224) [
  | inl before ↦ inl (omega (arith, before, fits))
  | inr from ↦ elim (cases_eq at 8224) [
    | inl same ↦ absurd (other (omega (arith, same)))
    | inr apart ↦ inr (
      omega (arith, from, apart),
      let room = sector-inside Packed sectors at file is lt in
          omega (arith, room, fits),
    )
  ]
]
sector-spares Spaced sectors at count file is lt other fits = let all = is.count in inl (omega (arith, all, lt, fits))

sector-spares-block : (layout : Layout) (sectors at count : ℕ) (file : FileState) → IsFoundAs layout sectors file
    → at < sectors → place layout at ≢ mark_place → count ≤ 512
    → SparesBlock layout file (place layout at) count
sector-spares-block Packed sectors at count file is lt other fits suited = elim (cases_lt at 8224) [
  | inl before ↦ inl (omega (arith, before, fits))
  | inr from ↦ elim (cases_eq at 8224) [
    | inl same ↦ absurd (other (omega (arith, same)))
    | inr apart ↦ inr (let small = is_same file.block 512 suited in omega (arith, from, apart, small))
  ]
]
sector-spares-block Spaced sectors at count file is lt other fits suited = let all = is.count in
    inl (omega (arith, all, lt, fits))

found-by-write : (layout : Layout) (sectors : ℕ) (old : FileState) (at : ℕ) (xs : List ℕ) → IsFoundAs layout sectors old
    → at < sectors → place layout at ≢ mark_place
    → length xs ≤ 512 → IsFoundAs layout sectors (file_after_write old (place layout at) xs)
found-by-write layout sectors old at [] is lt other fits = is
found-by-write layout sectors old at (x ∷ xs) is lt other fits =
    let room = sector-inside layout sectors at old is lt in
    let same : max old.size (place layout at + length (x ∷ xs)) ≡ old.size = omega (arith, room, fits) in
    record {
      whole = ap (λ (n : ℕ). n % 512) same ∙ is.whole;
      count = ap (sectors_in layout) same ∙ is.count;
      is_size_durable = durable-inside old (place layout at) x xs (omega (arith, room, fits)) is.is_size_durable;
      keeps = kept-write layout old (place layout at) (x ∷ xs) is.keeps
          (sector-spares layout sectors at (length (x ∷ xs)) old is lt other fits)
          (sector-spares-block layout sectors at (length (x ∷ xs)) old is lt other fits);
    }

-- a sector was written, or a write of one failed
pub found-written : {T E : Type 0} (layout : Layout) (sectors : ℕ) (old new : FileState) (at : ℕ) (octets : List ℕ)
    (result : Result T E) → IsFoundAs layout sectors old
    → IsSure old → at < sectors → place layout at ≢ mark_place → length octets ≡ 512
    → WritesAll old new (place layout at) octets result → IsFoundAs layout sectors new
found-written layout sectors old new at octets (Ok x) is sure lt other size writes =
    subst (IsFoundAs layout sectors) (sym (writes.ok sure))
    (found-by-write layout sectors old at octets is lt other (omega (arith, size)))
found-written layout sectors old new at octets (Err e) is sure lt other size writes =
    let some = writes.err sure in
    let fits = some.1 in
    subst (IsFoundAs layout sectors) (sym some.3)
    (found-by-write layout sectors old at some.0 is lt other (omega (arith, fits, size)))

pub written-sure : {T E : Type 0} (old new : FileState) (at : ℕ) (octets : List ℕ) (result : Result T E) → IsSure old
    → WritesAll old new at octets result → IsSure new
written-sure old new at octets (Ok x) sure writes = ap (λ (f : FileState). f.is_sure) (writes.ok sure)
    ∙ write-sure old at octets ∙ sure
written-sure old new at octets (Err e) sure writes =
    let some = writes.err sure in ap (λ (f : FileState). f.is_sure) some.3 ∙ write-sure old at some.0 ∙ sure

pub found-synced : (layout : Layout) (sectors : ℕ) (old new : FileState) → IsFoundAs layout sectors old
    → new ≡ file_after_sync old → IsFoundAs layout sectors new
found-synced layout sectors old new found is = record {
  whole = ap (λ (f : FileState). f.size % 512) is ∙ found.whole;
  count = ap (λ (f : FileState). sectors_in layout f.size) is ∙ found.count;
  is_size_durable = ap (λ (f : FileState). f.is_size_durable) is;
  keeps = kept-synced layout old new found.keeps.found is;
}

pub found-doubted : (layout : Layout) (sectors : ℕ) (old new : FileState) → IsFoundAs layout sectors old
    → new ≡ file_in_doubt old → IsFoundAs layout sectors new
found-doubted layout sectors old new found is = record {
  whole = ap (λ (f : FileState). f.size % 512) is ∙ found.whole;
  count = ap (λ (f : FileState). sectors_in layout f.size) is ∙ found.count;
  is_size_durable = ap (λ (f : FileState). f.is_size_durable) is ∙ found.is_size_durable;
  keeps = kept-doubted layout old new found.keeps is;
}

-- ---- what a power loss and an opening leave

-- what a file shows is one of its images
pub shown-image : (file : FileState) → IsSoundFile file → IsFileImage file file.seen
shown-image file sound = record { kept = sound.shown; octets = sound.seen }

-- a copy of a file of which a power loss left nothing new
pub found-copied : (layout : Layout) (sectors : ℕ) (old new copy : FileState) → IsFoundAs layout sectors old
    → suits layout old.block ≡ true → HasNothingNew old new → IsSoundFile new
    → IsCopy new copy → IsFoundAs layout sectors copy
found-copied layout sectors old new copy found suited nothing sound copies = record {
  whole = ap (λ (n : ℕ). n % 512) size ∙ found.whole;
  count = ap (sectors_in layout) size ∙ found.count;
  is_size_durable = copies.is_size_durable;
  keeps = record {
    found = layout-same old copy mark (omega (arith, size)) reached ∙ found.keeps.found;
    durable = ap (λ (f : ℕ → ℕ). values_from f mark_place 512) copies.durable;
    still = λ _. copies.pending (mark_place / copy.block);
    sized = inl copies.is_size_durable;
  };
} where
  size : copy.size ≡ old.size
  size = copies.size ∙ (nothing.size found.is_size_durable).0

  mark : values_from copy.seen mark_place 512 ≡ values_from old.seen mark_place 512
  mark = values-same copy.seen new.seen mark_place 512 (λ k _. copies.shown (mark_place + k))
      ∙ mark-left layout old new.seen found.keeps suited (nothing.images new.seen (shown-image new sound))

  reached : (copy.size < mark_place + 512) ⊎ (mark_place + 512 ≤ old.size)
  reached = elim (cases_lt old.size (mark_place + 512)) [
    | inl short ↦ inl (omega (arith, short, size))
    | inr long ↦ inr long
  ]

-- and once a disk was opened in it
pub found-opened : (layout again : Layout) (sectors : ℕ) (old new : FileState) (disk : Disk)
    → IsFoundAs layout sectors old → suits layout old.block ≡ true
    → HasNothingNew old new → IsSoundFile new → IsOpened new 0 again disk → (again ≡ layout) × (disk.sectors ≡ sectors)
found-opened layout again sectors old new disk found suited nothing sound opened =
    let is = found-copied layout sectors old new opened.copy found suited nothing sound opened.copies in
    let same : again ≡ layout = opened.found ∙ is.keeps.found in
    let count : sectors_in again opened.copy.size ≡ sectors =
    ap (λ (l : Layout). sectors_in l opened.copy.size) same ∙ is.count in
    let all = opened.sectors in
    (same, omega (arith, count, all))

-- a settled file that was made ready for a disk
extent-size : (layout : Layout) (settled : FileState) (least sectors : ℕ) → layout ≡ layout_in settled
    → sectors ≡ max (sectors_in layout settled.size) least
    → (layout ≡ Spaced → sectors ≡ 1028) → settled.size % 512 ≡ 0
    → ((file_lengthened settled (place layout least)).size % 512 ≡ 0)
    × (sectors_in layout (file_lengthened settled (place layout least)).size ≡ sectors)
extent-size Packed settled least sectors found count spaced whole =
    let size = size-lengthened settled (place Packed least) in
    (omega (arith, size, whole), omega (arith, size, count))
extent-size Spaced settled least sectors found count spaced whole =
    let size = size-lengthened settled (place Spaced least) in
    let all = spaced refl in
    (omega (arith, size, whole), sym all)

pub found-extent : (settled new : FileState) (least sectors : ℕ) (layout : Layout)
    → IsExtent settled new least layout sectors → (layout ≡ Spaced → sectors ≡ 1028)
    → settled.size % 512 ≡ 0 → IsFoundAs layout sectors new
found-extent settled new least sectors layout extent spaced whole =
    let zeros : List ℕ = replicate (place layout least - settled.size) 0 in
    let written = file_after_write settled settled.size zeros in
    let sizes = extent-size layout settled least sectors extent.found extent.count spaced whole in
    record {
      whole = ap (λ (f : FileState). f.size % 512) extent.file ∙ sizes.0;
      count = ap (λ (f : FileState). sectors_in layout f.size) extent.file ∙ sizes.1;
      is_size_durable = ap (λ (f : FileState). f.is_size_durable) extent.file;
      keeps = kept-synced layout written new (sym (found-longer layout settled (place layout least) whole extent.found
          ∙ layout-synced written)) extent.file;
    }

-- it shows what a sync makes durable, as it did
pub extent-sure : (settled new : FileState) (least sectors : ℕ) (layout : Layout)
    → IsExtent settled new least layout sectors → IsSure settled → IsSure new
extent-sure settled new least sectors layout extent sure =
    ap (λ (f : FileState). f.is_sure) extent.file
    ∙ write-sure settled settled.size (replicate (place layout least - settled.size) 0) ∙ sure

-- a file that was cleared
pub found-cleared : (old new : FileState) (layout : Layout) → IsCleared old new layout → IsFoundAs layout 1028 new
found-cleared old new layout cleared = record {
  whole = cleared.whole;
  count = cleared.count;
  is_size_durable = cleared.is_size_durable;
  keeps = record {
    found = found-mark layout new cleared.has;
    durable = ap (λ (f : ℕ → ℕ). values_from f mark_place 512) cleared.durable;
    still = λ _. cleared.clean (mark_place / new.block);
    sized = inl cleared.is_size_durable;
  };
}

-- ---- the disk's calls

module _ {F : Type 0} (file : F → FileState) where
  -- the file of a disk by its parts
  abbrev pub IsFoundBy : Layout → ℕ → F → Bool → Type 0
  IsFoundBy layout sectors left stopped = Behaves (file left)
      → IsFoundAs layout sectors (file left) × (stopped ≡ false → IsSure (file left))

  -- nothing was done to the file
  pub found-still : (layout new_layout : Layout) (sectors new_sectors : ℕ) (left new_left : F)
      (stopped new_stopped : Bool) → new_layout ≡ layout → new_sectors ≡ sectors
      → new_left ≡ left → (new_stopped ≡ false → stopped ≡ false) → IsFoundBy layout sectors left stopped
      → IsFoundBy new_layout new_sectors new_left new_stopped
  found-still layout new_layout sectors new_sectors left new_left stopped new_stopped same_layout same_sectors same
      later found =
      rw (same_layout, same_sectors, same) (λ behaves. let is = found behaves in
      (is.0, λ goes_on. is.1 (later goes_on)))

  -- a call went on to the file and left it so
  pub found-next : (layout new_layout : Layout) (sectors new_sectors : ℕ) (left lent back new_left : F)
      (stopped new_stopped : Bool) → new_layout ≡ layout → new_sectors ≡ sectors
      → lent ≡ left → new_left ≡ back → stopped ≡ false → (file back).behaves ≡ (file lent).behaves
      → (Behaves (file lent) → IsSure (file lent) → IsFoundAs layout sectors (file lent)
      → IsFoundAs layout sectors (file back) × (new_stopped ≡ false → IsSure (file back)))
      → IsFoundBy layout sectors left stopped → IsFoundBy new_layout new_sectors new_left new_stopped
  found-next layout new_layout sectors new_sectors left lent back new_left stopped new_stopped same_layout same_sectors
      went came goes_on steady does found =
      rw (same_layout, same_sectors, came) (λ behaves.
      let before : Behaves (file lent) = sym steady ∙ behaves in
      let is = found (subst (λ (f : F). Behaves (file f)) went before) in
      does before (subst (λ (f : F). IsSure (file f)) (sym went) (is.1 goes_on))
      (subst (λ (f : F). IsFoundAs layout sectors (file f)) (sym went) is.0))
