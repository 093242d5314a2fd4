-- What a power loss may leave of a state, after a write and after a sync.
use Rattle.std.proofs.Common.{◌≡◌, ◌≢◌, ◌==◌, ℕ, refl, sym, ◌∙◌, subst, arith, true, false, List}
use Rattle.std.proofs.lemmas.Bool.{eq-eqb}
use Rattle.std.proofs.lemmas.Bool.Decides.{nat_tests}
use Rattle.macs_disk.specs.States.{IsSector, Image, DiskState, IsImage, put_sector, state_after_write}
use Rattle.macs_disk.specs.States.{state_after_sync}

-- f, but x at one place
pub put-same : {X : Type 0} (f : ℕ → X) (at i : ℕ) (x : X) → i ≡ at → put_sector f at x i ≡ x
put-same f at i x is = let yes : (i == at) ≡ true = eq-eqb i at is in rw yes

pub put-other : {X : Type 0} (f : ℕ → X) (at i : ℕ) (x : X) → i ≢ at → put_sector f at x i ≡ f i
put-other f at i x is = let no : (i == at) ≡ false = grind (arith, nat_tests) in rw no

-- states that agree at each sector are one
pub State-ext : (a b : DiskState) → ((i : ℕ) → a.seen i ≡ b.seen i) → ((i : ℕ) → a.durable i ≡ b.durable i)
    → ((i : ℕ) → a.pending i ≡ b.pending i) → a ≡ b
State-ext a b seen durable pending =
    λ j. record { seen = λ i. seen i j; durable = λ i. durable i j; pending = λ i. pending i j }

-- what a power loss may leave after a sync it could leave before
pub synced-image : (s : DiskState) (image : Image) → IsImage s s.seen → IsImage (state_after_sync s) image
    → IsImage s image
synced-image s image fit left = record {
  kept = λ i clean. left.kept i refl ∙ fit.kept i clean;
  whole = λ i is. subst IsSector (sym (left.kept i refl)) (fit.whole i is);
}

-- a write leaves each other sector that was durable as it was
pub written-elsewhere : (s : DiskState) (at : ℕ) (octets : List ℕ) (image : Image)
    → IsImage (state_after_write s at octets) image → (i : ℕ) → i ≢ at → s.pending i ≡ false → image i ≡ s.durable i
written-elsewhere s at octets image left i other clean =
    left.kept i (put-other s.pending at i true other ∙ clean)
