-- Places that are left when the first that gives way is lost.
use Rattle.std.proofs.Common.{◌≡◌, ◌∙◌, ◌+◌, zero, suc, ℕ, Bool, true, false, not, cond, List, [], ◌∷◌, ◌++◌}
use Rattle.std.proofs.Common.{arith, refl, sym, ap}
use Rattle.std.specs.List.{filter, list_any, position_or_len, remove}
use Rattle.std.specs.Prelude.{◌||◌}

module _ {X : Type 0} (t : X → Bool) where
  -- those that do not pass a test
  abbrev pub others : List X → List X
  others xs = filter (λ x. not (t x)) xs

  first-passes : (x : X) (rest : List X) (b : Bool) → t x ≡ b → cond (not b) (1 + position_or_len t rest) 0 ≡ 0
      → others rest ≡ others (x ∷ rest)
  first-passes x rest true e is = sym (ap (λ (b : Bool). cond (not b) (x ∷ others rest) (others rest)) e)
  first-passes x rest false e is = absurd (let wrong : 1 + position_or_len t rest ≡ 0 = is in omega arith)

  later-passes : (rest : List X) (k : ℕ) (b : Bool) → cond (not b) (1 + position_or_len t rest) 0 ≡ suc k
      → position_or_len t rest ≡ k
  later-passes rest k true is = absurd (let wrong : 0 ≡ suc k = is in omega arith)
  later-passes rest k false is = let same : 1 + position_or_len t rest ≡ suc k = is in omega arith

  -- where the first that passes is taken out, the others stay
  pub at-others : (xs : List X) (k : ℕ) → position_or_len t xs ≡ k → others (remove xs k) ≡ others xs
  at-others [] zero is = refl
  at-others [] (suc k) is = refl
  at-others (x ∷ rest) zero is = first-passes x rest (t x) refl is
  at-others (x ∷ rest) (suc k) is =
      ap (λ (l : List X). cond (not (t x)) (x ∷ l) l) (at-others rest k (later-passes rest k (t x) is))

  first-fails : (b rest : Bool) → (b || rest) ≡ false → b ≡ false
  first-fails true rest is = is
  first-fails false rest is = refl

  later-fail : (b rest : Bool) → (b || rest) ≡ false → rest ≡ false
  later-fail true rest is = absurd (let wrong : true ≡ false = is in cc)
  later-fail false rest is = is

  -- those before the first that passes, and those behind it, stay in their order
  pub at-first : (front : List X) (x : X) (rest : List X) → list_any t front ≡ false → t x ≡ true
      → remove (front ++ x ∷ rest) (position_or_len t (front ++ x ∷ rest)) ≡ front ++ rest
  at-first [] x rest none is =
      ap (λ (b : Bool). remove (x ∷ rest) (cond (not b) (1 + position_or_len t rest) 0)) is
  at-first (y ∷ front) x rest none is =
      let later = later-fail (t y) (list_any t front) none in
      let more : 1 + position_or_len t (front ++ x ∷ rest) ≡ suc (position_or_len t (front ++ x ∷ rest)) =
      omega arith in
      ap (λ (b : Bool). remove (y ∷ front ++ x ∷ rest) (cond (not b) (1 + position_or_len t (front ++ x ∷ rest)) 0))
      (first-fails (t y) (list_any t front) none)
      ∙ ap (λ (n : ℕ). remove (y ∷ front ++ x ∷ rest) n) more
      ∙ ap (λ (l : List X). y ∷ l) (at-first front x rest later is)

  -- where none passes, all stay
  pub at-none : (xs : List X) → list_any t xs ≡ false → remove xs (position_or_len t xs) ≡ xs
  at-none [] none = refl
  at-none (y ∷ rest) none =
      let later = later-fail (t y) (list_any t rest) none in
      let more : 1 + position_or_len t rest ≡ suc (position_or_len t rest) = omega arith in
      ap (λ (b : Bool). remove (y ∷ rest) (cond (not b) (1 + position_or_len t rest) 0))
      (first-fails (t y) (list_any t rest) none)
      ∙ ap (λ (n : ℕ). remove (y ∷ rest) n) more
      ∙ ap (λ (l : List X). y ∷ l) (at-none rest later)

  pub spared : (xs : List X) (b : Bool) → others (cond b xs (remove xs (position_or_len t xs))) ≡ others xs
  spared xs true = refl
  spared xs false = at-others xs (position_or_len t xs) refl
