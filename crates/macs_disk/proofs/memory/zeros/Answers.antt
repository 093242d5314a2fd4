use Rattle.std.proofs.Common.{◌≡◌, ◌+◌, ◌∙◌, ◌++◌, [], ◌∷◌, ℕ, List, replicate, refl, sym}
use Rattle.std.proofs.lemmas.List.{replicate-append-replicate}
use Rattle.macs_disk.specs.States.{zero_sector}
use Rattle.macs_disk.proofs.memory.zeros.Goals as goal

zeros : zero_sector ≡ replicate 512 0
unfolding zero_sector
zeros = refl

replicate-push : (xs : List (List ℕ)) (n : ℕ) (x y : List ℕ) → y ≡ x → xs ≡ replicate n y
    → xs ++ x ∷ [] ≡ replicate (n + 1) y
replicate-push xs n x y same is = rw (sym same, is) (replicate-append-replicate n 1 y)

pub loop-i-preserved : goal.loop-i-preserved
loop-i-preserved g c = c.in_ok-push.ensures.items ∙ replicate-push _ _ _ _ zeros c.loop-i.invariant
