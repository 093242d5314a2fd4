-- Spent keys that come once each, a record of them at a time: those of each are new after those before, and fit.
use Rattle.std.proofs.Common.{◌≡◌, ◌∙◌, ◌≤◌, ◌+◌, ◌*◌, ℕ, true, false, not, ◌&&◌, nat_le, List, [], ◌∷◌, ◌++◌, length}
use Rattle.std.proofs.Common.{take, drop, bytes_eq, refl, ap, sym, subst, arith, length-append}
use Rattle.std.specs.List.{list_all}
use Rattle.std.proofs.Math.Seq.{take-add}
use Rattle.std.proofs.lemmas.Bool.{and_from, and_parts, le-leb, not-true, or_from, or_parts}
use Rattle.std.proofs.lemmas.List.{length-take, take-append-drop}
use Rattle.macs_config.specs.Config.{are_distinct, is_among, max_spent}
use Rattle.macs_config.specs.Snapshot.{are_new}
use Rattle.macs_config.proofs.Channels.{bytes_eq-sym}
use Rattle.macs_config.proofs.Spent.{among-append}
use Rattle.macs_store.specs.Snapshot.{fingerprints_at}

none-among : (items : List (List ℕ)) → list_all (λ (item : List ℕ). not (is_among [] item)) items ≡ true
none-among [] = refl
none-among (x ∷ xs) = none-among xs

all-apart : (x : List ℕ) (items rest : List (List ℕ)) → is_among rest x ≡ false
    → list_all (λ (item : List ℕ). not (is_among items item)) rest ≡ true
    → list_all (λ (item : List ℕ). not (is_among (x ∷ items) item)) rest ≡ true
all-apart x items [] free all = refl
all-apart x items (y ∷ rest) free all =
    let apart = or_parts (bytes_eq y x) (is_among rest x) free in
    let parts = and_parts (not (is_among items y)) (list_all (λ (item : List ℕ). not (is_among items item)) rest) all in
    and_from (not (is_among (x ∷ items) y)) (list_all (λ (item : List ℕ). not (is_among (x ∷ items) item)) rest)
    (ap not
    (or_from (bytes_eq x y) (is_among items y) (bytes_eq-sym x y ∙ apart.0) (not-true (is_among items y) parts.0)))
    (all-apart x items rest apart.1 parts.1)

-- of those that come once each, the first ones do so, and the others are new after them
distinct-parts : (items rest : List (List ℕ)) → are_distinct (items ++ rest) ≡ true
    → (are_distinct items ≡ true) × (are_new items rest ≡ true)
distinct-parts [] rest once = (
  refl,
  and_from (are_distinct rest) (list_all (λ (item : List ℕ). not (is_among [] item)) rest) once (none-among rest),
)
distinct-parts (x ∷ items) rest once =
    let first = and_parts (not (is_among (items ++ rest) x)) (are_distinct (items ++ rest)) once in
    let apart = or_parts (is_among items x) (is_among rest x)
    (sym (among-append items rest x) ∙ not-true (is_among (items ++ rest) x) first.0) in
    let later = distinct-parts items rest first.1 in
    let new = and_parts (are_distinct rest) (list_all (λ (item : List ℕ). not (is_among items item)) rest) later.1 in (
      and_from (not (is_among items x)) (are_distinct items) (ap not apart.0) later.0,
      and_from (are_distinct rest) (list_all (λ (item : List ℕ). not (is_among (x ∷ items) item)) rest) new.0
          (all-apart x items rest apart.1 new.1),
    )

module _ (spent : List (List ℕ)) (i : ℕ) where
  -- the fingerprints of one record more
  pub next-fingerprints : take (15 * i) spent ++ fingerprints_at spent i ≡ take (15 * (i + 1)) spent
  next-fingerprints =
      let more : 15 * i + 15 ≡ 15 * (i + 1) = omega arith in
      sym (take-add (15 * i) 15 spent) ∙ ap (λ (n : ℕ). take n spent) more

  -- they may follow
  pub fingerprints-follow : are_distinct spent ≡ true → length spent ≤ 512
      → (are_new (take (15 * i) spent) (fingerprints_at spent i)
      && nat_le (length (take (15 * i) spent) + length (fingerprints_at spent i)) max_spent) ≡ true
  fingerprints-follow once few =
      let front = (distinct-parts (take (15 * (i + 1)) spent) (drop (15 * (i + 1)) spent)
      (subst (λ (xs : List (List ℕ)). are_distinct xs ≡ true) (sym (take-append-drop (15 * (i + 1)) spent)) once)).0 in
      let parted = subst (λ (xs : List (List ℕ)). are_distinct xs ≡ true) (sym next-fingerprints) front in
      let size = sym (length-append (take (15 * i) spent) (fingerprints_at spent i))
      ∙ ap (λ (xs : List (List ℕ)). length xs) next-fingerprints in
      let within = length-take (15 * (i + 1)) spent in
      and_from (are_new (take (15 * i) spent) (fingerprints_at spent i))
      (nat_le (length (take (15 * i) spent) + length (fingerprints_at spent i)) max_spent)
      (distinct-parts (take (15 * i) spent) (fingerprints_at spent i) parted).1
      (le-leb (length (take (15 * i) spent) + length (fingerprints_at spent i)) max_spent
      (omega (arith, size, within, few)))
