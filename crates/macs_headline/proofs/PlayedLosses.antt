-- Power losses that are played, and disks that are new.
use Rattle.std.proofs.Common.{◌≡◌, ◌≤◌, ◌+◌, arith, ℕ}
use Rattle.std.proofs.Common.{sym, ◌∙◌, ap, subst, le_refl}
use Rattle.macs_disk.specs.Disk.{Disk, MayLeave, disk_after_loss, now}
use Rattle.macs_disk.specs.Fuses.{fused_disk}
use Rattle.macs_disk.specs.Memory.{Memory, blank_memory, image_left, memory_after_loss}
use Rattle.macs_disk.specs.States.{DiskState, IsImage}
use Rattle.macs_headline.specs.Binding.{IsNewDisk}
use Rattle.macs_headline.specs.Endings.{LosesPower}
use Rattle.macs_headline.proofs.Built.{blank-is-new}
use Rattle.macs_headline.proofs.Chains.{fuse-now}
use Rattle.macs_headline.proofs.Losses.{loses-power}

-- in memory
pub crashed-loses : (old new : Memory) → new ≡ memory_after_loss old → MayLeave old.disk (now new.disk).seen
    → LosesPower old.disk old.disk.clock new.disk
crashed-loses old new is may =
    let after : new.disk ≡ disk_after_loss old.disk (image_left old) = ap (λ (m : Memory). m.disk) is in
    let left : MayLeave old.disk (image_left old) = subst (λ (d : Disk). MayLeave old.disk (now d).seen) after may in
    let clock = old.disk.clock in
    subst (LosesPower old.disk clock) (sym after)
    (loses-power old.disk clock (image_left old) (clock, le_refl clock, le_refl clock, left))

-- behind a fuse, of which another takes the place
pub fuse-loses : (disk lost : Disk) (at missed added later : ℕ) → at ≤ disk.clock → later ≤ lost.clock
    → LosesPower disk disk.clock lost
    → LosesPower (fused_disk disk at missed added) (disk.clock + missed) (fused_disk lost later 0 0)
fuse-loses disk lost at missed added later before behind loses =
    let fused = fused_disk disk at missed added in
    let from = loses.left.1 in
    let to = loses.left.2 in
    let last : loses.left.0 ≡ disk.clock = omega (arith, from, to) in
    let left : IsImage (now disk) loses.image =
    subst (λ (k : ℕ). IsImage (disk.past k) loses.image) last loses.left.3 in
    record {
      image = loses.image;
      left = (
        fused.clock,
        le_refl fused.clock,
        le_refl fused.clock,
        subst (λ (s : DiskState). IsImage s loses.image) (sym (fuse-now disk at missed added before)) left,
      );
      alike = record { sectors = loses.alike.sectors; honest = loses.alike.honest };
      settled = fuse-now lost later 0 0 behind ∙ loses.settled;
    }

-- ---- disks that are new

pub blank-new : (m : Memory) → m ≡ blank_memory 1028 → IsNewDisk m.disk
blank-new m is = subst (λ (m : Memory). IsNewDisk m.disk) (sym is) (blank-is-new 1028 (omega arith))

-- one behind a fuse
pub fused-new : (disk : Disk) (at missed added : ℕ) → at ≤ disk.clock → IsNewDisk disk
    → IsNewDisk (fused_disk disk at missed added)
fused-new disk at missed added before is = record {
  honest = is.honest;
  large = is.large;
  closed = λ image left.
      is.closed image (subst (λ (s : DiskState). IsImage s image) (fuse-now disk at missed added before) left);
}
