-- How many needs are left: one less where a ceiling is raised as far as it is to be, none where no association has one.
use Rattle.std.proofs.Common.{◌≡◌, ◌≤◌, ◌<◌, ◌+◌, ◌||◌, ◌⊎◌, inl, inr, ℕ, zero, suc, Bool, true, false, List, [], ◌∷◌}
use Rattle.std.proofs.Common.{bytes_eq, Option, Some, None, IsSome, refl, sym, ◌∙◌, ap, subst, arith}
use Rattle.std.specs.List.{list_any}
use Rattle.std.proofs.lemmas.Bool.{cases_lt}
use Rattle.macs_config.specs.Tables.{put, put_at}
use Rattle.macs_config.proofs.Channels.{same_octets}
use Rattle.macs_config.proofs.Tables.{put_all, put_at_all, put_rx-here}
use Rattle.macs_rxsc.specs.Needs.{Need, first_need, need_of, first_need_of, raised_ceiling}
use Rattle.macs_rxsc.specs.Receive.{Numbers, RxSide, has_channel}
use Rattle.macs_rxsc.proofs.Needed.{is-need, need-ends, need_at, needs_among, own-place}

abbrev pub count : List (Option Need) → ℕ
count [] = 0
count (None ∷ needs) = count needs
count (Some need ∷ needs) = count needs + 1

-- a need ends, or stays as it is; this one ends
record Follows (need : Need) (old new : Option Need) : Type 0 where
  ends : old ≡ Some need → new ≡ None
  either : (new ≡ old) ⊎ (new ≡ None)

abbrev AllFollow : Need → List (Option Need) → List (Option Need) → Type 0
AllFollow need [] [] = Unit {0}
AllFollow need (x ∷ xs) (y ∷ ys) = Follows need x y × AllFollow need xs ys
AllFollow need xs ys = ⊥

some_none : (need : Need) → Some need ≡ None → ⊥
some_none need is = cc

no_new : (need other : Need) → Follows need None (Some other) → ⊥
no_new need other follows = elim follows.either [
  | inl is ↦ some_none other is
  | inr is ↦ some_none other is
]

count_le : (need : Need) (xs ys : List (Option Need)) → AllFollow need xs ys → count ys ≤ count xs
count_le need [] [] all = omega arith
count_le need [] (y ∷ ys) all = absurd all
count_le need (x ∷ xs) [] all = absurd all
count_le need (None ∷ xs) (None ∷ ys) all = count_le need xs ys all.1
count_le need (None ∷ xs) (Some m ∷ ys) all = absurd (no_new need m all.0)
count_le need (Some n ∷ xs) (None ∷ ys) all = let rest = count_le need xs ys all.1 in omega (arith, rest)
count_le need (Some n ∷ xs) (Some m ∷ ys) all = let rest = count_le need xs ys all.1 in omega (arith, rest)

count_lt : (need : Need) (xs ys : List (Option Need)) → AllFollow need xs ys → first_need xs ≡ Some need
    → count ys < count xs
count_lt need [] [] all is = absurd cc
count_lt need [] (y ∷ ys) all is = absurd all
count_lt need (x ∷ xs) [] all is = absurd all
count_lt need (None ∷ xs) (None ∷ ys) all is = count_lt need xs ys all.1 is
count_lt need (None ∷ xs) (Some m ∷ ys) all is = absurd (no_new need m all.0)
count_lt need (Some n ∷ xs) (None ∷ ys) all is = let rest = count_le need xs ys all.1 in omega (arith, rest)
count_lt need (Some n ∷ xs) (Some m ∷ ys) all is = absurd (some_none m (all.0.ends is))

module _ (numbers : List ℕ → ℕ → Option Numbers) (c : List ℕ → ℕ → Option ℕ) (block : ℕ) (need : Need)
    (is : need_of block need.sci need.an (numbers need.sci need.an) (c need.sci need.an) ≡ Some need) where
  -- with the ceiling raised that is needed
  abbrev pub served : List ℕ → ℕ → Option ℕ
  served = put_at c need.sci (put (c need.sci) need.an (Some (raised_ceiling block need.pn)))

  ended : need_of block need.sci need.an (numbers need.sci need.an) (Some (raised_ceiling block need.pn)) ≡ None
  ended =
      need-ends block need.sci need.an (numbers need.sci need.an) need (c need.sci need.an)
      (is-need block need.sci need.an (numbers need.sci need.an) (c need.sci need.an) need is)

  follows : (sci : List ℕ) (an : ℕ)
      → Follows need (need_at numbers c block sci an) (need_at numbers served block sci an)
  follows sci an = record {
    ends = λ has.
        let place = own-place numbers c block sci an need has in
        (λ i. need_at numbers served block (place.0 i) (place.1 i))
        ∙ ap (need_of block need.sci need.an (numbers need.sci need.an))
        (put_rx-here c need.sci need.an (Some (raised_ceiling block need.pn))) ∙ ended;
    either =
        put_at_all
        (λ (row : ℕ → Option ℕ). (need_of block sci an (numbers sci an) (row an) ≡ need_at numbers c block sci an)
        ⊎ (need_of block sci an (numbers sci an) (row an) ≡ None)) c need.sci
        (put (c need.sci) need.an (Some (raised_ceiling block need.pn))) sci
        (λ same. put_all (λ (o : Option ℕ). (need_of block sci an (numbers sci an) o ≡ need_at numbers c block sci an)
        ⊎ (need_of block sci an (numbers sci an) o ≡ None)) (c need.sci) need.an
        (Some (raised_ceiling block need.pn)) an
        (λ same_an. inr ((λ i. need_of block (same i) (same_an i) (numbers (same i) (same_an i))
        (Some (raised_ceiling block need.pn))) ∙ ended))
        (λ other. inl (λ i. need_of block sci an (numbers sci an) (c (sym same i) an))))
        (λ other. inl refl);
  }

  all_follow : (scis : List (List ℕ))
      → AllFollow need (needs_among numbers c block scis) (needs_among numbers served block scis)
  all_follow [] = tt
  all_follow (sci ∷ scis) = (follows sci 0, (follows sci 1, (follows sci 2, (follows sci 3, all_follow scis))))

  -- one need less
  pub fewer : (scis : List (List ℕ)) → first_need (needs_among numbers c block scis) ≡ Some need
      → count (needs_among numbers served block scis) < count (needs_among numbers c block scis)
  fewer scis first =
      count_lt need (needs_among numbers c block scis) (needs_among numbers served block scis) (all_follow scis) first

-- ---- no need

none_first : (o : Option Need) (needs : List (Option Need)) → first_need (o ∷ needs) ≡ None
    → (o ≡ None) × (first_need needs ≡ None)
none_first None needs is = (refl, is)
none_first (Some need) needs is = absurd (some_none need is)

at_four : (P : ℕ → Type 0) (an : ℕ) → an < 4 → P 0 → P 1 → P 2 → P 3 → P an
at_four P zero below p q r s = p
at_four P (suc zero) below p q r s = q
at_four P (suc (suc zero)) below p q r s = r
at_four P (suc (suc (suc zero))) below p q r s = s
at_four P (suc (suc (suc (suc n)))) below p q r s = absurd (omega (arith, below))

module _ (side : RxSide) (c : List ℕ → ℕ → Option ℕ) (block : ℕ) where
  abbrev Without : List (List ℕ) → Type 0
  Without scis = first_need (needs_among side.numbers c block scis) ≡ None

  -- a channel without need
  none_in : (scis : List (List ℕ)) (other : List ℕ) → Without (other ∷ scis)
      → ((an : ℕ) → an < 4 → need_at side.numbers c block other an ≡ None) × Without scis
  none_in scis other is =
      let at = λ (an : ℕ). need_at side.numbers c block other an in
      let rest = needs_among side.numbers c block scis in
      let first = none_first (at 0) (at 1 ∷ at 2 ∷ at 3 ∷ rest) is in
      let second = none_first (at 1) (at 2 ∷ at 3 ∷ rest) first.1 in
      let third = none_first (at 2) (at 3 ∷ rest) second.1 in
      let fourth = none_first (at 3) rest third.1 in
      (λ an below. at_four (λ (n : ℕ). at n ≡ None) an below first.0 second.0 third.0 fourth.0, fourth.1)

  by_same : (scis : List (List ℕ)) (sci other : List ℕ) (an : ℕ) → an < 4 → Without (other ∷ scis)
      → (b : Bool) → bytes_eq other sci ≡ b → (b || list_any (λ one. bytes_eq one sci) scis) ≡ true
      → (Without scis → list_any (λ one. bytes_eq one sci) scis ≡ true → need_at side.numbers c block sci an ≡ None)
      → need_at side.numbers c block sci an ≡ None
  by_same scis sci other an below is true same has later =
      subst (λ (t : List ℕ). need_at side.numbers c block t an ≡ None) (same_octets other sci same)
      ((none_in scis other is).0 an below)
  by_same scis sci other an below is false same has later = later (none_in scis other is).1 has

  none_among : (scis : List (List ℕ)) (sci : List ℕ) (an : ℕ) → an < 4 → Without scis
      → list_any (λ one. bytes_eq one sci) scis ≡ true
      → need_at side.numbers c block sci an ≡ None
  none_among [] sci an below is has = absurd cc
  none_among (other ∷ scis) sci an below is has =
      by_same scis sci other an below is (bytes_eq other sci) refl has (none_among scis sci an below)

  no_numbers : (n : Option Numbers) → (IsSome n → ⊥) → n ≡ None
  no_numbers None never = refl
  no_numbers (Some n) never = absurd (never refl)

  module _ (channels : (sci : List ℕ) (an : ℕ) → IsSome (side.numbers sci an) → has_channel side sci ≡ true)
      (few : (sci : List ℕ) (an : ℕ) → 4 ≤ an → side.numbers sci an ≡ None) where
    outside : (sci : List ℕ) (an : ℕ) → side.numbers sci an ≡ None → need_at side.numbers c block sci an ≡ None
    outside sci an is = ap (λ (n : Option Numbers). need_of block sci an n (c sci an)) is

    by_channel : (sci : List ℕ) (an : ℕ) → an < 4 → Without side.channels → (b : Bool) → has_channel side sci ≡ b
        → need_at side.numbers c block sci an ≡ None
    by_channel sci an below is true has = none_among side.channels sci an below is has
    by_channel sci an below is false has =
        outside sci an (no_numbers (side.numbers sci an) (λ stands. let both = channels sci an stands in cc))

    -- where no association has the first need, none has one
    pub no-needs : first_need_of side c block ≡ None → (sci : List ℕ) (an : ℕ)
        → need_at side.numbers c block sci an ≡ None
    no-needs is sci an = elim (cases_lt an 4) [
      | inl below ↦ by_channel sci an below is (has_channel side sci) refl
      | inr over ↦ outside sci an (few sci an over)
    ]
