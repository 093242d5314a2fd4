-- SCIs that ascend: each is put after those before it, and is none of them.
use Rattle.std.proofs.Common.{◌≡◌, ◌∙◌, ◌≤◌, ◌<◌, ◌+◌, ℕ, zero, suc, Bool, true, false, cond, List, [], ◌∷◌, length}
use Rattle.std.proofs.Common.{take, get_or, bytes_eq, refl, ap, sym, arith, add-one, nat_cmp, is_lt, is_eq, Ordering}
use Rattle.std.proofs.Common.{Less, Equal, Greater}
use Rattle.std.specs.Cmp.Lexicographic.{slice_cmp}
use Rattle.std.proofs.lemmas.Bool.{and_parts, or_from}
use Rattle.std.proofs.lemmas.List.{length-take-le}
use Rattle.std.proofs.lemmas.Map.Text.{is_eq-slice_cmp}
use Rattle.macs_config.specs.Config.{comes_before, is_among, is_ascending, put_among}
use Rattle.macs_config.proofs.Channels.{before-trans, bytes_eq-itself}

rest_ascends : (x : List ℕ) (xs : List (List ℕ)) → is_ascending (x ∷ xs) ≡ true → is_ascending xs ≡ true
rest_ascends x [] ascend = refl
rest_ascends x (y ∷ ys) ascend = (and_parts (comes_before x y) (is_ascending (y ∷ ys)) ascend).1

leads_all : (x : List ℕ) (xs : List (List ℕ)) (i : ℕ) (d : List ℕ) → is_ascending (x ∷ xs) ≡ true → i < length xs
    → comes_before x (get_or xs i d) ≡ true
leads_all x [] i d ascend within = absurd (omega arith)
leads_all x (y ∷ ys) zero d ascend within = (and_parts (comes_before x y) (is_ascending (y ∷ ys)) ascend).0
leads_all x (y ∷ ys) (suc i) d ascend within =
    let parts = and_parts (comes_before x y) (is_ascending (y ∷ ys)) ascend in
    before-trans x y (get_or ys i d) parts.0 (leads_all y ys i d parts.1 (omega arith))

less_differs : (order : Ordering) → is_lt order ≡ true → is_eq order ≡ false
less_differs Less is = refl
less_differs Equal is = cc
less_differs Greater is = refl

before_differs : (a b : List ℕ) → comes_before a b ≡ true → bytes_eq a b ≡ false
before_differs a b before = sym (is_eq-slice_cmp a b) ∙ less_differs (slice_cmp nat_cmp a b) before

not_back_by : (a b : List ℕ) (back : Bool) → comes_before b a ≡ back → comes_before a b ≡ true → back ≡ false
not_back_by a b true is before =
    let differ = before_differs a a (before-trans a b a before is) in
    let same = bytes_eq-itself a in
    cc
not_back_by a b false is before = refl

-- the next one is put after those before it
put_next : (scis : List (List ℕ)) (i : ℕ) (d : List ℕ) → is_ascending scis ≡ true → i < length scis
    → put_among (get_or scis i d) (take i scis) ≡ take (suc i) scis
put_next [] i d ascend within = absurd (omega arith)
put_next (x ∷ xs) zero d ascend within = refl
put_next (x ∷ xs) (suc i) d ascend within =
    let next = get_or xs i d in
    let behind : comes_before next x ≡ false =
    not_back_by x next (comes_before next x) refl (leads_all x xs i d ascend (omega arith)) in
    ap (λ (b : Bool). cond b (next ∷ x ∷ take i xs) (x ∷ put_among next (take i xs))) behind
    ∙ ap (λ (others : List (List ℕ)). x ∷ others) (put_next xs i d (rest_ascends x xs ascend) (omega arith))

-- and is none of those
next_free : (scis : List (List ℕ)) (i : ℕ) (d : List ℕ) → is_ascending scis ≡ true → i < length scis
    → is_among (take i scis) (get_or scis i d) ≡ false
next_free [] i d ascend within = absurd (omega arith)
next_free (x ∷ xs) zero d ascend within = refl
next_free (x ∷ xs) (suc i) d ascend within =
    or_from (bytes_eq x (get_or xs i d)) (is_among (take i xs) (get_or xs i d))
    (before_differs x (get_or xs i d) (leads_all x xs i d ascend (omega arith)))
    (next_free xs i d (rest_ascends x xs ascend) (omega arith))

-- one of those that ascend, at its place
pub record IsNext (scis : List (List ℕ)) (i : ℕ) (sci : List ℕ) : Type 0 where
  pub ascend : is_ascending scis ≡ true
  pub within : i < length scis
  pub there : sci ≡ get_or scis i sci

module _ (scis : List (List ℕ)) (i : ℕ) (sci : List ℕ) (is : IsNext scis i sci) where
  pub put-next : put_among sci (take i scis) ≡ take (i + 1) scis
  put-next =
      ap (λ (x : List ℕ). put_among x (take i scis)) is.there ∙ put_next scis i sci is.ascend is.within
      ∙ ap (λ (n : ℕ). take n scis) (sym (add-one i))

  pub next-free : is_among (take i scis) sci ≡ false
  next-free = ap (is_among (take i scis)) is.there ∙ next_free scis i sci is.ascend is.within

  pub next-fits : (most : ℕ) → length scis ≤ most → length (take i scis) < most
  next-fits most few =
      let within = is.within in
      let size = length-take-le i scis (omega arith) in
      omega arith
