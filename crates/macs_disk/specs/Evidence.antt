-- What the disks of this crate prove for the trait: that they are sound, and not worn before their clock is full. This
-- is here and not among the proofs, since a ghost item can only cite the specs of its own crate.
use Rattle.std.proofs.Common.{◌≡◌, ◌≤◌, ◌+◌, ◌-◌, ◌^◌, ◌==◌, inl, inr, ℕ, min, max, Bool, true, false, List, refl, ap}
use Rattle.std.proofs.Common.{arith, subst, sym}
use Rattle.std.proofs.lemmas.Bool.{cases_eq}
use Rattle.std.proofs.lemmas.Bool.Decides.{nat_tests}
use Rattle.macs_disk.specs.States.{IsSound, settled_state}
use Rattle.macs_disk.specs.Disk.{Disk, now}
use Rattle.macs_disk.specs.Fuses.{FuseValue, disk_of_fuse, fused_disk}
use Rattle.macs_disk.specs.CallLists.{IsSoundMemory, state_at, sectors_in}
use Rattle.macs_disk.specs.declared.call_list.Entry.{Entry}

-- ---- a disk with a fuse

-- a disk with a fuse is now in the state of the inner disk
pub fused-now : (disk : Disk) (at missed added : ℕ) → at ≤ disk.clock → now (fused_disk disk at missed added) ≡ now disk
fused-now disk at missed added le =
    let same : min (disk.clock + missed) (max at (disk.clock + missed - missed)) ≡ disk.clock = omega (arith, le) in
    ap disk.past same

-- and it is as sound
pub fused-sound : (disk : Disk) (at missed added : ℕ) → at ≤ disk.clock → IsSound (now disk)
    → IsSound (now (fused_disk disk at missed added))
fused-sound disk at missed added le sound = subst IsSound (sym (fused-now disk at missed added le)) sound

-- a disk with a fuse is not worn before one of the two counts is full
pub fused-wear : (disk : Disk) (at missed added : ℕ) → (disk.worn ≡ true → 2 ^ 64 - 1 ≤ disk.clock)
    → (fused_disk disk at missed added).worn ≡ true
    → 2 ^ 64 - 1 ≤ (fused_disk disk at missed added).clock
fused-wear disk at missed added inner is = elim (cases_eq missed (2 ^ 64 - 1)) [
  | inl full ↦ omega (arith, full)
  | inr other ↦ inner_worn disk.worn refl other
] where
  inner_worn : (b : Bool) → disk.worn ≡ b → (missed ≡ 2 ^ 64 - 1 → ⊥) → 2 ^ 64 - 1 ≤ disk.clock + missed
  inner_worn true worn other = let h = inner worn in omega (arith, h)
  inner_worn false worn other = absurd (
      let no : (missed == 2 ^ 64 - 1) ≡ false = grind (arith, nat_tests) in
      let fresh : (fused_disk disk at missed added).worn ≡ false = rw (worn, no) refl in
      cc)

-- the value of a fuse is sound
pub fuse-sound : {D : Type 0} (disk : D → Disk) (fuse : FuseValue D) → IsSound (now (disk fuse.inner))
    → IsSound (now (disk_of_fuse disk fuse))
fuse-sound disk fuse = fused-sound (disk fuse.inner) (min (disk fuse.when).clock (disk fuse.inner).clock) fuse.missed
    fuse.added (omega arith)

pub fuse-wear : {D : Type 0} (disk : D → Disk) (fuse : FuseValue D)
    → ((disk fuse.inner).worn ≡ true → 2 ^ 64 - 1 ≤ (disk fuse.inner).clock)
    → (disk_of_fuse disk fuse).worn ≡ true → 2 ^ 64 - 1 ≤ (disk_of_fuse disk fuse).clock
fuse-wear disk fuse =
    fused-wear (disk fuse.inner) (min (disk fuse.when).clock (disk fuse.inner).clock) fuse.missed fuse.added

-- ---- a disk in memory

-- a clock is full
pub full-clock : (clock : ℕ) → (clock == 2 ^ 64 - 1) ≡ true → 2 ^ 64 - 1 ≤ clock
full-clock clock is = elim (cases_eq clock (2 ^ 64 - 1)) [
  | inl same ↦ omega (arith, same)
  | inr other ↦ absurd (let no : (clock == 2 ^ 64 - 1) ≡ false = grind (arith, nat_tests) in cc)
]

-- what an in-memory disk keeps gives a sound state
pub kept-sound : (first seen durable : List (List ℕ)) (pending : List Bool) (calls : List Entry) (clock : ℕ)
    → IsSoundMemory first seen durable pending calls clock
    → IsSound (state_at (settled_state (sectors_in first)) calls clock)
kept-sound first seen durable pending calls clock kept =
    rw kept.is_now (record {
      fit = record { kept = kept.clean; whole = λ i _. kept.whole_seen i };
      seen = kept.whole_seen;
      durable = kept.whole_durable;
    })

-- ---- a disk in a file

-- a disk that does not claim honesty has no obligations of an honest one
pub no-claim : {P : Type 0} → false ≡ true → P
no-claim honest = absurd cc
