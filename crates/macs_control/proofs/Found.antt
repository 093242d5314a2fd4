-- Where something stands in a list.
use Rattle.std.proofs.Common.{◌≡◌, ◌∙◌, ◌+◌, ◌<◌, ◌≤◌, zero, suc, ℕ, Bool, true, false, not, cond, List, [], ◌∷◌, ◌++◌}
use Rattle.std.proofs.Common.{arith, refl, sym, ap, length, take, drop, set, get_or, Option, Some, None}
use Rattle.std.proofs.lemmas.List.{append-nil, append_assoc, drop_at, drop_more, get_or-set_same, length-set}
use Rattle.std.proofs.lemmas.List.{length-take-le, take-append-drop, length_push, set_at, take_at}
use Rattle.std.proofs.lemmas.Bool.Decides.{nat_tests}
use Rattle.std.specs.List.{list_any, position_or_len, remove}
use Rattle.std.specs.Prelude.{◌||◌, nat_lt, position, slice_get}

-- what stands right behind the front is the first of the rest
pub cut : {X : Type 0} (front rest : List X) (x : X) → Some x ≡ slice_get (front ++ rest) (length front)
    → (behind : List X) × (rest ≡ x ∷ behind)
cut [] [] x is = absurd (let wrong : Some x ≡ None = is in cc)
cut [] (y ∷ ys) x is = let found : Some x ≡ Some y = is in let same : x ≡ y = cc in (ys, ap (λ v. v ∷ ys) (sym same))
cut (y ∷ ys) rest x is = cut ys rest x is

pub record Parts {X : Type 0} (p : X → Bool) (xs : List X) (at : ℕ) : Type 0 where
  pub front : List X
  pub x : X
  pub rest : List X
  pub whole : xs ≡ front ++ x ∷ rest
  pub place : length front ≡ at
  pub before : list_any p front ≡ false
  pub passes : p x ≡ true

module _ {X : Type 0} (p : X → Bool) where
  first-here : (x : X) (xs : List X) (b : Bool) → p x ≡ b → cond (not b) (1 + position_or_len p xs) 0 ≡ 0
      → p x ≡ true
  first-here x xs true e is = e
  first-here x xs false e is = absurd (let wrong : 1 + position_or_len p xs ≡ 0 = is in omega arith)

  later : (x : X) (xs : List X) (b : Bool) (n : ℕ) → p x ≡ b → cond (not b) (1 + position_or_len p xs) 0 ≡ suc n
      → (p x ≡ false) × (position_or_len p xs ≡ n)
  later x xs true n e is = absurd (let wrong : 0 ≡ suc n = is in omega arith)
  later x xs false n e is = (e, let same : 1 + position_or_len p xs ≡ suc n = is in omega arith)

  parts : (xs : List X) (n : ℕ) → position_or_len p xs ≡ n → n < length xs → Parts p xs n
  parts [] n is within = absurd (let wrong : n < 0 = within in omega arith)
  parts (x ∷ xs) zero is within = record {
    front = [];
    x = x;
    rest = xs;
    whole = refl;
    place = refl;
    before = refl;
    passes = first-here x xs (p x) refl is;
  }
  parts (x ∷ xs) (suc n) is within =
      let l = later x xs (p x) n refl is in
      let less : n < length xs = let more : suc n < suc (length xs) = within in omega arith in
      let r = parts xs n l.1 less in record {
        front = x ∷ r.front;
        x = r.x;
        rest = r.rest;
        whole = ap (λ (v : List X). x ∷ v) r.whole;
        place = ap suc r.place;
        before = ap (λ (b : Bool). b || list_any p r.front) l.0 ∙ r.before;
        passes = r.passes;
      }

  place-of : (n at : ℕ) (xs : List X) (b : Bool) → cond b (Some n) None ≡ Some at → (n ≡ at) × (b ≡ true)
  place-of n at xs true is = let same : Some n ≡ Some at = is in (cc, refl)
  place-of n at xs false is = absurd (let wrong : None ≡ Some at = is in cc)

  -- the first that passes
  pub found : (xs : List X) (at : ℕ) → Some at ≡ position p xs → Parts p xs at
  found xs at is =
      let h = place-of (position_or_len p xs) at xs (nat_lt (position_or_len p xs) (length xs)) (sym is) in
      let within : position_or_len p xs < length xs = let t = h.1 in grind (arith, nat_tests) in
      parts xs at h.0 (let e = h.0 in omega arith)

  absent : (xs : List X) → length xs ≤ position_or_len p xs → list_any p xs ≡ false
  absent [] le = refl
  absent (x ∷ xs) le = elim (p x) as (λ (b : Bool). suc (length xs) ≤ cond (not b) (1 + position_or_len p xs) 0
      → (b || list_any p xs) ≡ false) [
        | true ↦ λ h. absurd (omega arith)
        | false ↦ λ h. absent xs (omega arith)
      ] le

  none-of : (n : ℕ) (b : Bool) → cond b (Some n) None ≡ None → b ≡ false
  none-of n true is = absurd (let wrong : Some n ≡ None = is in cc)
  none-of n false is = refl

  -- none passes
  pub not-found : (xs : List X) → None ≡ position p xs → list_any p xs ≡ false
  not-found xs is =
      let h = none-of (position_or_len p xs) (nat_lt (position_or_len p xs) (length xs)) (sym is) in
      absent xs (grind (arith, nat_tests))

-- ---- around a place

pub record Around {X : Type 0} (xs front rest : List X) (n : ℕ) (x : X) : Type 0 where
  pub behind : List X
  pub is_first : rest ≡ x ∷ behind
  pub taken : take n xs ≡ front
  pub dropped : drop (n + 1) xs ≡ behind

pub around : {X : Type 0} (xs front rest : List X) (n : ℕ) (x : X) → xs ≡ front ++ rest → length front ≡ n
    → Some x ≡ slice_get xs n → Around xs front rest n x
around {X} xs front rest n x whole size is =
    let there : Some x ≡ slice_get (front ++ rest) (length front) =
    is ∙ ap (λ (l : List X). slice_get l n) whole ∙ ap (λ (k : ℕ). slice_get (front ++ rest) k) (sym size) in
    let split = cut front rest x there in
    let joined : xs ≡ (front ++ x ∷ []) ++ split.0 =
    whole ∙ ap (λ (l : List X). front ++ l) split.1 ∙ sym (append_assoc front (x ∷ []) split.0) in
    let more : length (front ++ x ∷ []) ≡ n + 1 = let pushed = length_push front x in omega arith in record {
      behind = split.0;
      is_first = split.1;
      taken = ap (λ (l : List X). take n l) whole ∙ take_at front rest n size;
      dropped = ap (λ (l : List X). drop (n + 1) l) joined ∙ drop_at (front ++ x ∷ []) split.0 (n + 1) more;
    }

-- what is read at a place
pub read-at : {X : Type 0} (xs : List X) (n : ℕ) (x : X) → n < length xs → x ≡ get_or xs n x → Some x ≡ slice_get xs n
read-at [] n x within is = absurd (let wrong : n < 0 = within in omega arith)
read-at (y ∷ ys) zero x within is = ap (λ v. Some v) is
read-at (y ∷ ys) (suc n) x within is =
    read-at ys n x (let more : suc n < suc (length ys) = within in omega arith) is

-- taken out
pub removed : {X : Type 0} (xs : List X) (n : ℕ) → remove xs n ≡ take n xs ++ drop (n + 1) xs
removed {X} xs n = ap (λ (k : ℕ). take n xs ++ drop k xs) (let e : suc n ≡ n + 1 = omega arith in e)

-- cut at a place
pub cut-at : {X : Type 0} (xs : List X) (n : ℕ) (x : X) → n < length xs → x ≡ get_or xs n x
    → xs ≡ take n xs ++ x ∷ drop (n + 1) xs
cut-at {X} xs n x within is = sym (take-append-drop n xs)
    ∙ ap (λ (l : List X). take n xs ++ l) (drop_more xs n x within)
    ∙ ap (λ (y : X). take n xs ++ y ∷ drop (n + 1) xs) (sym is)

-- written, or written and taken out
pub written : {X : Type 0} (xs front : List X) (x : X) (rest : List X) (n : ℕ) (y : X) → xs ≡ front ++ x ∷ rest
    → length front ≡ n → set xs n y ≡ front ++ y ∷ [] ++ rest
written {X} xs front x rest n y whole size = ap (λ (l : List X). set l n y) whole ∙ set_at front x rest y n size
    ∙ sym (append_assoc front (y ∷ []) rest)

pub written-removed : {X : Type 0} (xs front : List X) (x : X) (rest : List X) (n : ℕ) (y : X) → xs ≡ front ++ x ∷ rest
    → length front ≡ n → remove (set xs n y) n ≡ front ++ [] ++ rest
written-removed {X} xs front x rest n y whole size =
    let more : length (front ++ y ∷ []) ≡ n + 1 = let pushed = length_push front y in omega arith in
    let mid = written xs front x rest n y whole size in
    ap (λ (l : List X). remove l n) mid
    ∙ removed (front ++ y ∷ [] ++ rest) n
    ∙ ap (λ (l : List X). l ++ drop (n + 1) (front ++ y ∷ [] ++ rest))
    (ap (λ (l : List X). take n l) (append_assoc front (y ∷ []) rest) ∙ take_at front (y ∷ rest) n size)
    ∙ ap (λ (l : List X). front ++ l) (drop_at (front ++ y ∷ []) rest (n + 1) more)
    ∙ ap (λ (l : List X). l ++ rest) (sym (append-nil front))

-- none of these is found
pub is-none : {X : Type 0} (found : Option X) → ((x : X) → found ≡ Some x → ⊥) → None ≡ found
is-none None not = refl
is-none (Some x) not = absurd (not x refl)

-- ---- written at a place

module _ {X : Type 0} (xs : List X) (n : ℕ) (x y : X) (within : n < length xs) (is : x ≡ get_or xs n x) where
  size : length (take n xs) ≡ n
  size = length-take-le n xs (omega arith)

  -- and left there
  pub left-there : set xs n y ≡ take n xs ++ y ∷ [] ++ drop (n + 1) xs
  left-there = written xs (take n xs) x (drop (n + 1) xs) n y (cut-at xs n x within is) size

  -- and taken out
  pub taken-out : remove (set xs n y) n ≡ take n xs ++ [] ++ drop (n + 1) xs
  taken-out = written-removed xs (take n xs) x (drop (n + 1) xs) n y (cut-at xs n x within is) size

  pub read-there : Some y ≡ slice_get (set xs n y) n
  read-there =
      let long : n < length (set xs n y) = let same = length-set xs n y in omega arith in
      read-at (set xs n y) n y long (sym (get_or-set_same xs n y y within))

  -- and moved to the end
  pub moved-last : (moved : X) → Some moved ≡ slice_get (set xs n y) n → (new : List X)
      → new ≡ remove (set xs n y) n ++ moved ∷ [] → new ≡ take n xs ++ drop (n + 1) xs ++ y ∷ []
  moved-last moved there new put =
      let both : Some moved ≡ Some y = there ∙ sym read-there in
      let same : moved ≡ y = cc in
      put ∙ ap (λ (z : X). remove (set xs n y) n ++ z ∷ []) same
      ∙ ap (λ (l : List X). l ++ y ∷ []) taken-out
      ∙ ap (λ (l : List X). l ++ drop (n + 1) xs ++ y ∷ []) (append-nil (take n xs))
