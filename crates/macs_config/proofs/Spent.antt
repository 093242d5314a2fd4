-- Fingerprints that are spent once each.
use Rattle.std.proofs.Common.{◌≡◌, ◌∙◌, Bool, true, false, not, ◌&&◌, ◌||◌, ℕ, List, [], ◌∷◌, ◌++◌, bytes_eq, refl, ap}
use Rattle.std.proofs.lemmas.Bool.{and_from, and_parts, not-true, or_from, or_parts, or_left, or_right}
use Rattle.std.proofs.lemmas.List.Folds.{list_any-append}
use Rattle.std.specs.Cmp.Lexicographic.{nat_list_eq_equiv}
use Rattle.std.specs.List.{list_all}
use Rattle.macs_config.specs.Config.{are_distinct, is_among}
use Rattle.macs_config.specs.Snapshot.{are_new}

-- ---- among two lists

pub among-append : (items more : List (List ℕ)) (item : List ℕ)
    → is_among (items ++ more) item ≡ (is_among items item || is_among more item)
among-append items more item = list_any-append (λ other. bytes_eq other item) items more

pub among-before : (items more : List (List ℕ)) (item : List ℕ) → is_among items item ≡ true
    → is_among (items ++ more) item ≡ true
among-before items more item is = among-append items more item ∙ or_left (is_among items item) (is_among more item) is

pub among-behind : (items more : List (List ℕ)) (item : List ℕ) → is_among more item ≡ true
    → is_among (items ++ more) item ≡ true
among-behind items more item is = among-append items more item ∙ or_right (is_among items item) (is_among more item) is

-- ---- once each

apart_from : (item : List ℕ) (items : List (List ℕ)) (rest : List (List ℕ))
    → list_all (λ (other : List ℕ). not (is_among (item ∷ items) other)) rest ≡ true → is_among rest item ≡ false
apart_from item items [] new = refl
apart_from item items (first ∷ rest) new =
    let parts = and_parts (not (is_among (item ∷ items) first))
    (list_all (λ (other : List ℕ). not (is_among (item ∷ items) other)) rest) new in
    let apart =
    or_parts (bytes_eq item first) (is_among items first) (not-true (is_among (item ∷ items) first) parts.0) in
    or_from (bytes_eq first item) (is_among rest item) (nat_list_eq_equiv.symm first item ∙ apart.0)
    (apart_from item items rest parts.1)

fewer : (item : List ℕ) (items : List (List ℕ)) (rest : List (List ℕ))
    → list_all (λ (other : List ℕ). not (is_among (item ∷ items) other)) rest ≡ true
    → list_all (λ (other : List ℕ). not (is_among items other)) rest ≡ true
fewer item items [] new = refl
fewer item items (first ∷ rest) new =
    let parts = and_parts (not (is_among (item ∷ items) first))
    (list_all (λ (other : List ℕ). not (is_among (item ∷ items) other)) rest) new in
    let apart =
    or_parts (bytes_eq item first) (is_among items first) (not-true (is_among (item ∷ items) first) parts.0) in
    and_from (not (is_among items first)) (list_all (λ (other : List ℕ). not (is_among items other)) rest)
    (ap not apart.1) (fewer item items rest parts.1)

joined : (items rest : List (List ℕ)) → are_distinct items ≡ true → are_distinct rest ≡ true
    → list_all (λ (other : List ℕ). not (is_among items other)) rest ≡ true → are_distinct (items ++ rest) ≡ true
joined [] rest once also new = also
joined (item ∷ items) rest once also new =
    let parts = and_parts (not (is_among items item)) (are_distinct items) once in
    and_from (not (is_among (items ++ rest) item)) (are_distinct (items ++ rest))
    (ap not (among-append items rest item ∙ or_from (is_among items item) (is_among rest item)
    (not-true (is_among items item) parts.0) (apart_from item items rest new)))
    (joined items rest parts.1 also (fewer item items rest new))

-- new ones after them
pub distinct-append : (items rest : List (List ℕ)) → are_distinct items ≡ true → are_new items rest ≡ true
    → are_distinct (items ++ rest) ≡ true
distinct-append items rest once new =
    let parts = and_parts (are_distinct rest) (list_all (λ (other : List ℕ). not (is_among items other)) rest) new in
    joined items rest once parts.0 parts.1

and_true : (a : Bool) → a ≡ true → (true && (a && true)) ≡ true
and_true true is = refl
and_true false is = is

-- one new one after them
pub distinct-push : (items : List (List ℕ)) (item : List ℕ) → are_distinct items ≡ true → is_among items item ≡ false
    → are_distinct (items ++ item ∷ []) ≡ true
distinct-push items item once new =
    distinct-append items (item ∷ []) once (and_true (not (is_among items item)) (ap not new))
