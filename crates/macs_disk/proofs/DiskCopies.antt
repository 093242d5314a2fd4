-- A copy of the sectors of a disk in a file.
use Rattle.std.proofs.Common.{◌≡◌, ◌≢◌, ◌∙◌, ◌<◌, ◌+◌, ◌==◌, ℕ, Bool, true, false, if◌then◌else◌, List, ap, arith}
use Rattle.std.proofs.Common.{refl, subst, sym}
use Rattle.std.specs.Cmp.{unsigned_Decides}
use Rattle.macs_disk.specs.Files.{Behaves, FileState}
use Rattle.macs_disk.specs.States.{DiskState, state_after_write}

-- what is known of a file after a call that left it alone
pub carried : (Q : FileState → Type 0) (old new : FileState) → new ≡ old → Behaves old
    → (Behaves new → Q new) → Q old
carried Q old new same behaves known =
    subst Q same (known (subst Behaves (sym same) behaves))

-- one sector more is written
pub one-written : (old new : DiskState) (at : ℕ) (octets : List ℕ) (want : ℕ → List ℕ)
    → new ≡ state_after_write old at octets → octets ≡ want at
    → ((k : ℕ) → k < at → old.seen k ≡ want k) → (k : ℕ) → k < at + 1 → new.seen k ≡ want k
one-written old new at octets want is here before k below = ap (λ (s : DiskState). s.seen k) is ∙ go (k == at) refl
  where
    go : (same : Bool) → (k == at) ≡ same → (if same then octets else old.seen k) ≡ want k
    go true equal = let e : k ≡ at = (unsigned_Decides k at).0 equal in here ∙ ap want (sym e)
    go false other =
        let differs : k ≢ at = λ e. let yes = (unsigned_Decides k at).1 e in cc in
        before k (omega (arith, below, differs))
