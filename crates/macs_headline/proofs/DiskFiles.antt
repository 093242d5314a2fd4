-- Disks in files, as histories have them.
use Rattle.std.proofs.Common.{◌≡◌, ◌≤◌, ◌<◌, ◌+◌, ◌*◌, ◌-◌, ◌^◌, ◌⊎◌, inl, inr, ℕ, true, false, get_or, replicate, refl}
use Rattle.std.proofs.Common.{ap}
use Rattle.std.proofs.Common.{◌∙◌, arith, le_refl, subst, sym}
use Rattle.std.proofs.lemmas.Bool.{and_parts}
use Rattle.std.proofs.lemmas.List.{get_or-replicate}
use Rattle.macs_disk.specs.Disk.{Disk, IsHonest, MayLeave, now}
use Rattle.macs_disk.specs.FileDisks.{IsBlank, IsFoundAs, IsLeftAsShown, IsOpened, disk_in_file, file_lengthened}
use Rattle.macs_disk.specs.FileDisks.{image_in_file, is_ready, keeps_disk, state_in_file}
use Rattle.macs_disk.specs.FileEvidence.{keeps, values-same}
use Rattle.macs_disk.specs.Files.{Behaves, FileState, HasNothingNew, IsCopy, IsFileImage, IsSoundFile, file_after_sync}
use Rattle.macs_disk.specs.Files.{file_after_write, file_in_doubt, values_from}
use Rattle.macs_disk.specs.Layouts.{place, suits}
use Rattle.macs_disk.specs.States.{DiskState, Image, IsImage, settled_state, zero_sector}
use Rattle.macs_disk.specs.declared.layout.Layout.{Layout}
use Rattle.macs_disk.specs.declared.layout.Layout.TheVariants.{Packed, Spaced}
use Rattle.macs_disk.specs.declared.file.FileDisk.{FileDisk}
use Rattle.macs_disk.proofs.FileSectors.{file-image}
use Rattle.macs_disk.proofs.FileWrites.{put-at, put-before, write-seen}
use Rattle.macs_disk.proofs.FoundAgain.{found-opened}
use Rattle.macs_headline.specs.Binding.{IsNewDisk}
use Rattle.macs_headline.specs.Endings.{LosesPower}
use Rattle.macs_headline.proofs.Built.{closed-gate}

pub blank-file-is-new : (old new : FileState) (layout : Layout) (disk : Disk) → IsBlank old new layout disk
    → suits layout old.block ≡ true → IsNewDisk disk
blank-file-is-new old new layout disk blank suited = record {
  honest = blank.honest suited;
  large = let all = blank.sectors in omega (arith, all);
  closed = λ image left. (
    closed-gate image 0 0 (zero image left 1 (omega arith)),
    closed-gate image 1 0 (zero image left 515 (omega arith)),
  );
} where
  zero : (image : Image) → MayLeave disk image → (i : ℕ) → i < 1028 → image i ≡ zero_sector
  zero image left i within = left.kept i (blank.clean i) ∙ blank.durable i ∙ blank.zeros i within

-- no sectors are at the front
no-place : (layout : Layout) → place layout 0 ≡ 0
no-place Packed = refl
no-place Spaced = refl

-- a copy that is made no longer
as-copied : (layout : Layout) (file copy : FileState) → IsCopy file copy
    → state_in_file layout (file_lengthened copy (place layout 0)) ≡ settled_state (image_in_file layout copy.seen)
unfolding state_in_file
as-copied layout file copy copies =
    let none : place layout 0 - copy.size ≡ 0 = (let start = no-place layout in omega (arith, start)) in
    ap (λ (n : ℕ). state_in_file layout (file_after_sync (file_after_write copy copy.size (replicate n 0)))) none

-- all sectors of one that is opened are durable
pub opened-still : (file : FileState) (least : ℕ) (layout : Layout) (disk : Disk) (i : ℕ)
    → IsOpened file least layout disk
    → ((now disk).durable i ≡ (now disk).seen i) × ((now disk).pending i ≡ false)
unfolding state_in_file
opened-still file least layout disk i opened = (
  ap (λ (s : DiskState). s.durable i) opened.state ∙ sym (ap (λ (s : DiskState). s.seen i) opened.state),
  ap (λ (s : DiskState). s.pending i) opened.state,
)

-- what the disk shows of one that is opened, by what its file showed
seen-opened : (file : FileState) (least : ℕ) (layout : Layout) (disk : Disk) (i : ℕ) → IsOpened file least layout disk
    → (copy : FileState) → now disk ≡ state_in_file layout (file_lengthened copy (place layout least))
    → (now disk).seen i
    ≡ values_from (file_after_write copy copy.size (replicate (place layout least - copy.size) 0)).seen
    (place layout i) 512
unfolding state_in_file
seen-opened file least layout disk i opened copy is = ap (λ (s : DiskState). s.seen i) is

all-zeros : (at : ℕ) → values_from (λ _. 0) at 512 ≡ zero_sector
unfolding values_from zero_sector
all-zeros at = refl

-- what is read of a file that is made longer: in front of its end as it was, and zeros from there on
read-front : (file : FileState) (at count : ℕ) → at + 512 ≤ file.size
    → values_from (file_after_write file file.size (replicate count 0)).seen at 512 ≡ values_from file.seen at 512
read-front file at count before =
    values-same (file_after_write file file.size (replicate count 0)).seen file.seen at 512
    (λ k lt. write-seen file file.size (replicate count 0) (at + k)
    ∙ put-before file.seen file.size (at + k) (replicate count 0) (omega (arith, before, lt)))

read-longer : (file : FileState) (at count : ℕ) → file.size ≤ at → at + 512 ≤ file.size + count
    → values_from (file_after_write file file.size (replicate count 0)).seen at 512 ≡ zero_sector
read-longer file at count from within =
    values-same (file_after_write file file.size (replicate count 0)).seen (λ _. 0) at 512 zero ∙ all-zeros at where
      zero : (k : ℕ) → k < 512 → (file_after_write file file.size (replicate count 0)).seen (at + k) ≡ 0
      zero k lt = write-seen file file.size (replicate count 0) (at + k)
          ∙ put-at file.seen file.size (at + k) (replicate count 0) (omega (arith, from))
          ∙ get_or-replicate count (at + k - file.size) 0 (file.seen (at + k)) (omega (arith, from, within, lt))

pub lengthened : (file : FileState) (least : ℕ) (layout : Layout) (disk : Disk) (i : ℕ)
    → IsOpened file least layout disk
    → (place layout i + 512 ≤ file.size → (now disk).seen i ≡ values_from file.seen (place layout i) 512)
    × (file.size ≤ place layout i → place layout i + 512 ≤ place layout least → (now disk).seen i ≡ zero_sector)
lengthened file least layout disk i opened = (front, longer) where
  copy : FileState
  copy = opened.copy

  size : copy.size ≡ file.size
  size = opened.copies.size

  seen : (now disk).seen i
      ≡ values_from (file_after_write copy copy.size (replicate (place layout least - copy.size) 0)).seen
      (place layout i) 512
  seen = seen-opened file least layout disk i opened copy opened.state

  front : place layout i + 512 ≤ file.size → (now disk).seen i ≡ values_from file.seen (place layout i) 512
  front before = seen
      ∙ read-front copy (place layout i) (place layout least - copy.size) (omega (arith, size, before))
      ∙ values-same copy.seen file.seen (place layout i) 512 (λ k _. opened.copies.shown (place layout i + k))

  longer : file.size ≤ place layout i → place layout i + 512 ≤ place layout least → (now disk).seen i ≡ zero_sector
  longer from within = seen
      ∙ read-longer copy (place layout i) (place layout least - copy.size) (omega (arith, size, from))
      (omega (arith, size, from, within))

-- the file of an honest disk is on a device whose blocks suit its layout
pub left-suited : {F : Type 0} (file : F → FileState) (it : FileDisk F) → IsLeftAsShown file it → Behaves (file it.file)
    → IsHonest (disk_in_file file it)
    → suits it.layout (file it.file).block ≡ true
left-suited file it left behaves honest = same (left behaves) where
  suited : suits it.layout (file it.shown.value).block ≡ true
  suited = (keeps it.layout (file it.shown.value)
      (and_parts (keeps_disk it.layout (file it.shown.value))
      (is_ready it.layout it.sectors (file (get_or it.past.items 0 it.shown).value)) honest).0).suited

  same : (file it.file ≡ file it.shown.value) ⊎ (file it.file ≡ file_in_doubt (file it.shown.value))
      → suits it.layout (file it.file).block ≡ true
  same (inl is) = ap (λ (f : FileState). suits it.layout f.block) is ∙ suited
  same (inr is) = ap (λ (f : FileState). suits it.layout f.block) is ∙ suited

-- what a copy shows is an image of the file that was copied
copy-image : (file copy : FileState) → IsSoundFile file → IsCopy file copy → IsFileImage file copy.seen
copy-image file copy sound copies = record {
  kept = λ n k clean lt. copies.shown (file.block * n + k) ∙ sound.shown n k clean lt;
  octets = λ p. subst (λ (v : ℕ). v < 2 ^ 8) (sym (copies.shown p)) (sound.seen p);
}

opened-as : (left file : FileState) (layout : Layout) (old new : Disk) → suits layout left.block ≡ true → IsHonest old
    → ((image : Image) → IsImage (state_in_file layout left) image → MayLeave old image)
    → HasNothingNew left file → IsSoundFile file → new.sectors ≡ old.sectors → IsOpened file 0 layout new
    → LosesPower old old.clock new
opened-as left file layout old new suited honest may nothing sound sectors opened =
    let octets = opened.copy.seen in
    record {
      image = image_in_file layout octets;
      left = (
        old.clock,
        le_refl old.clock,
        le_refl old.clock,
        may (image_in_file layout octets)
            (file-image layout left octets suited
            (nothing.images octets (copy-image file opened.copy sound opened.copies))),
      );
      alike =
          record { sectors = sectors; honest = opened.honest (ap (suits layout) nothing.block ∙ suited) ∙ sym honest };
      settled = opened.state ∙ as-copied layout file opened.copy opened.copies;
    }

pub opened-again : (left file : FileState) (layout again : Layout) (old new : Disk) → IsFoundAs layout old.sectors left
    → suits layout left.block ≡ true → IsHonest old
    → ((image : Image) → IsImage (state_in_file layout left) image → MayLeave old image)
    → HasNothingNew left file → IsSoundFile file → IsOpened file 0 again new
    → (again ≡ layout) × LosesPower old old.clock new
opened-again left file layout again old new found suited honest may nothing sound opened =
    let is = found-opened layout again old.sectors left file new found suited nothing sound opened in (
      is.0,
      opened-as left file layout old new suited honest may nothing sound is.1
          (subst (λ (l : Layout). IsOpened file 0 l new) is.0 opened),
    )

-- a file that was let go of
pub let-go : (left file : FileState) → file.block ≡ left.block → file.size ≡ left.size
    → file.is_size_durable ≡ left.is_size_durable
    → ((p : ℕ) → file.durable p ≡ left.durable p) → ((n : ℕ) → file.pending n ≡ left.pending n)
    → HasNothingNew left file
let-go left file block size durable_size durable pending =
    record { block = block; size = λ was. (size, durable_size ∙ was); images = each } where
      each : (octets : ℕ → ℕ) → IsFileImage file octets → IsFileImage left octets
      each octets is = record {
        kept = λ n k clean within.
            subst (λ (b : ℕ). octets (b * n + k) ≡ file.durable (b * n + k)) block
            (is.kept n k (pending n ∙ clean) (subst (λ (b : ℕ). k < b) (sym block) within))
            ∙ durable (left.block * n + k);
        octets = is.octets;
      }
