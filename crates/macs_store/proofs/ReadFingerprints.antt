-- The fingerprints of a record, read one after another.
use Rattle.std.proofs.Common.{◌≡◌, ◌∙◌, ◌↔◌, ◌≤◌, ◌<◌, ◌+◌, ◌*◌, ℕ, Bool, true, false, List, [], ◌∷◌, ◌++◌, length}
use Rattle.std.proofs.Common.{take, drop, Option, Some, None, is_some, IsTrue, inl, inr, ap, sym, subst, arith}
use Rattle.std.proofs.Common.{length-append}
use Rattle.std.specs.List.{slice_get}
use Rattle.std.proofs.Math.ListN.{drop_of_length-le}
use Rattle.std.proofs.lemmas.List.{get_or-drop, length-drop, length-take, take_all, take_more}
use Rattle.std.proofs.lemmas.Option.{get_or_from_slice_get, slice_get_cases, slice_get_within}
use Rattle.macs_store.specs.Snapshot.{fingerprints_at}

-- where there is none the list has ended
ended : (xs : List (List ℕ)) (i : ℕ) → slice_get xs i ≡ None → length xs ≤ i
ended xs i is = elim (slice_get_cases xs i).1 [
  | inl there ↦ absurd (let some = there.2 in cc)
  | inr past ↦ past.0
]

not-true : false ≡ true → ⊥
not-true is = cc

-- so many from a place on are read, as far as there are any: at least one
pub record AreRead (spent : List (List ℕ)) (start n : ℕ) (fingerprints : List (List ℕ)) : Type 0 where
  pub so_far : fingerprints ≡ take n (drop start spent)
  pub some : 1 ≤ length fingerprints

module _ (spent : List (List ℕ)) where
  -- there is none at the first place
  pub none-read : (place : ℕ) → slice_get spent (15 * place) ≡ None → fingerprints_at spent place ≡ []
  none-read place is = ap (λ (xs : List (List ℕ)). take 15 xs) (drop_of_length-le spent (ended spent (15 * place) is))

  some-read : (place : ℕ) (x : List ℕ) → slice_get spent (15 * place) ≡ Some x
      → 1 ≤ length (fingerprints_at spent place)
  some-read place x is =
      let within = slice_get_within spent (15 * place) x is in
      let size = length-drop (15 * place) spent in
      let count = length-take 15 (drop (15 * place) spent) in
      omega (arith, within, size, count)

  -- there is one at the first place, or there is none
  pub any-read : (place : ℕ) (first : Option (List ℕ)) → first ≡ slice_get spent (15 * place)
      → (is_some first ≡ true → 1 ≤ length (fingerprints_at spent place))
      × (is_some first ≡ false → fingerprints_at spent place ≡ [])
  any-read place None is = ((λ there. absurd (not-true there)), (λ gone. none-read place (sym is)))
  any-read place (Some x) is = ((λ there. some-read place x (sym is)), (λ gone. absurd (not-true (sym gone))))

  one_longer : (start n : ℕ) (x : List ℕ) → slice_get spent (start + n) ≡ Some x
      → take (n + 1) (drop start spent) ≡ take n (drop start spent) ++ x ∷ []
  one_longer start n x is =
      let within = slice_get_within spent (start + n) x is in
      let size = length-drop start spent in
      take_more (drop start spent) n x (omega (arith, within, size))
      ∙ ap (λ (y : List ℕ). take n (drop start spent) ++ y ∷ [])
      (get_or-drop start spent n x ∙ get_or_from_slice_get spent (start + n) x x is)

  -- the first one
  pub first-read : (start : ℕ) (x : List ℕ) (fingerprints : List (List ℕ)) → slice_get spent start ≡ Some x
      → fingerprints ≡ x ∷ []
      → AreRead spent start 1 fingerprints
  first-read start x fingerprints is new =
      let here : start + 0 ≡ start = omega arith in
      record {
        so_far = new ∙ sym (one_longer start 0 x (ap (slice_get spent) here ∙ is));
        some = subst (λ (xs : List (List ℕ)). 1 ≤ length xs) (sym new) (omega arith);
      }

  module _ (start n : ℕ) (old : List (List ℕ)) (are : AreRead spent start n old) where
    -- one more
    pub one-more-read : (x : List ℕ) (new : List (List ℕ)) (done : Bool) → slice_get spent (start + n) ≡ Some x → n < 15
        → (IsTrue done ↔ (length old < 15)) → (done ≡ true → new ≡ old ++ x ∷ []) → AreRead spent start (n + 1) new
    one-more-read x new done is within room pushed =
        let size = ap (λ (xs : List (List ℕ)). length xs) are.so_far ∙ length-take n (drop start spent) in
        let made = pushed (room.1 (omega (arith, size, within))) in
        let longer = ap (λ (xs : List (List ℕ)). length xs) made ∙ length-append old (x ∷ []) in
        let some = are.some in
        record {
          so_far = made ∙ ap (λ (xs : List (List ℕ)). xs ++ x ∷ []) are.so_far ∙ sym (one_longer start n x is);
          some = omega (arith, longer, some);
        }

    -- none more
    pub no-more-read : slice_get spent (start + n) ≡ None → AreRead spent start (n + 1) old
    no-more-read is =
        let past = ended spent (start + n) is in
        let size = length-drop start spent in
        record {
          so_far = are.so_far ∙ take_all n (drop start spent) (omega (arith, past, size))
              ∙ sym (take_all (n + 1) (drop start spent) (omega (arith, past, size)));
          some = are.some;
        }
