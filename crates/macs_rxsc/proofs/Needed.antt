-- What a need says of its association: its numbers, its ceiling, and how far that is to be raised.
use Rattle.std.proofs.Common.{◌≡◌, ◌<◌, ◌-◌, ◌/◌, ◌&&◌, ◌||◌, ℕ, Bool, true, false, cond, List, [], ◌∷◌, map, flat_map}
use Rattle.std.proofs.Common.{Option, Some, None, refl, sym, ◌∙◌, ap, arith}
use Rattle.std.specs.Prelude.{nat_le, nat_lt}
use Rattle.std.proofs.Math.Bool.{and-false}
use Rattle.std.proofs.lemmas.Bool.{and_parts, le-ltb, ltb-true}
use Rattle.macs_rxsc.specs.Needs.{Need, first_need, is_needed, need_of, need_by_seen, raised_ceiling}
use Rattle.macs_rxsc.specs.Receive.{Numbers}

module _ (block : ℕ) (sci : List ℕ) (an : ℕ) where
  named_by : (next ceiling seen : ℕ) (b : Bool) → is_needed block next ceiling seen ≡ b → (need : Need)
      → cond b (Some (record { sci = sci; an = an; pn = seen })) None ≡ Some need
      → (need ≡ record { sci = sci; an = an; pn = seen }) × (is_needed block next ceiling seen ≡ true)
  named_by next ceiling seen true test need is =
      let same : ◌≡◌ {A = Need} need (record { sci = sci; an = an; pn = seen }) = cc in (same, test)
  named_by next ceiling seen false test need is = absurd cc

  named : (numbers : Numbers) (ceiling : ℕ) (seen : Option ℕ) (need : Need)
      → need_by_seen block sci an numbers ceiling seen ≡ Some need
      → (n : ℕ) × (seen ≡ Some n) × (need ≡ record { sci = sci; an = an; pn = n })
      × (is_needed block numbers.next ceiling n ≡ true)
  named numbers ceiling None need is = absurd cc
  named numbers ceiling (Some seen) need is =
      let parts = named_by numbers.next ceiling seen (is_needed block numbers.next ceiling seen) refl need is in
      (seen, refl, parts.0, parts.1)

  -- what a need says of an association
  pub record IsNeed (numbers : Option Numbers) (ceiling : Option ℕ) (need : Need) : Type 0 where
    pub held : Numbers
    pub top : ℕ
    pub seen : ℕ
    pub has : numbers ≡ Some held
    pub has_ceiling : ceiling ≡ Some top
    pub has_seen : held.seen ≡ Some seen
    pub is : need ≡ record { sci = sci; an = an; pn = seen }
    pub test : is_needed block held.next top seen ≡ true

  pub is-need : (numbers : Option Numbers) (ceiling : Option ℕ) (need : Need)
      → need_of block sci an numbers ceiling ≡ Some need
      → IsNeed numbers ceiling need
  is-need None None need is = absurd cc
  is-need None (Some c) need is = absurd cc
  is-need (Some n) None need is = absurd cc
  is-need (Some n) (Some c) need is =
      let parts = named n c n.seen need is in
      record {
        held = n;
        top = c;
        seen = parts.0;
        has = refl;
        has_ceiling = refl;
        has_seen = parts.1;
        is = parts.2;
        test = parts.3;
      }

  pub below-raised : (next ceiling seen : ℕ) → is_needed block next ceiling seen ≡ true
      → ceiling < raised_ceiling block seen
  below-raised next ceiling seen test =
      ltb-true ceiling (raised_ceiling block seen)
      (and_parts (nat_le ceiling seen || nat_le (ceiling - next) (block / 2))
      (nat_lt ceiling (raised_ceiling block seen)) test).1

  -- a ceiling that was raised as far as is needed is not needed
  no_more : (numbers : Numbers) (seen : ℕ)
      → need_by_seen block sci an numbers (raised_ceiling block seen) (Some seen) ≡ None
  no_more numbers seen =
      let top = raised_ceiling block seen in
      let over : nat_lt top top ≡ false = le-ltb top top (omega arith) in
      let test : is_needed block numbers.next top seen ≡ false =
      ap (λ (b : Bool). (nat_le top seen || nat_le (top - numbers.next) (block / 2)) && b) over
      ∙ and-false (nat_le top seen || nat_le (top - numbers.next) (block / 2)) in
      ap (λ (b : Bool). cond b (Some (record { sci = sci; an = an; pn = seen })) None) test

  pub need-ends : (numbers : Option Numbers) (need : Need) (ceiling : Option ℕ) → IsNeed numbers ceiling need
      → need_of block sci an numbers (Some (raised_ceiling block need.pn)) ≡ None
  need-ends numbers need ceiling is =
      let same : need.pn ≡ is.seen = ap (λ (n : Need). n.pn) is.is in
      (λ i. need_of block sci an (is.has i) (Some (raised_ceiling block (same i))))
      ∙ (λ i. need_by_seen block sci an is.held (raised_ceiling block is.seen) (is.has_seen i))
      ∙ no_more is.held is.seen

unneeded_by : (need : Need) (b : Bool) → cond b (Some need) None ≡ None → b ≡ false
unneeded_by need true is = absurd cc
unneeded_by need false is = refl

-- an association on which a number was seen, and that has no need
pub unneeded : (block : ℕ) (sci : List ℕ) (an : ℕ) (numbers : Numbers) (ceiling seen : ℕ)
    → need_by_seen block sci an numbers ceiling (Some seen) ≡ None
    → is_needed block numbers.next ceiling seen ≡ false
unneeded block sci an numbers ceiling seen is =
    unneeded_by (record { sci = sci; an = an; pn = seen }) (is_needed block numbers.next ceiling seen) is

-- ---- the first need

first_step : (P : Need → Type 0) (o : Option Need) (needs : List (Option Need)) (need : Need) → (o ≡ Some need → P need)
    → (first_need needs ≡ Some need → P need) → first_need (o ∷ needs) ≡ Some need → P need
first_step P None needs need here later is = later is
first_step P (Some n) needs need here later is = here is

module _ (numbers : List ℕ → ℕ → Option Numbers) (c : List ℕ → ℕ → Option ℕ) (block : ℕ) where
  abbrev pub need_at : List ℕ → ℕ → Option Need
  need_at sci an = need_of block sci an (numbers sci an) (c sci an)

  -- every need by SCI and association number
  abbrev pub needs_among : List (List ℕ) → List (Option Need)
  needs_among scis =
      flat_map (λ sci. map (λ an. need_of block sci an (numbers sci an) (c sci an)) (0 ∷ 1 ∷ 2 ∷ 3 ∷ [])) scis

  pub own-place : (sci : List ℕ) (an : ℕ) (need : Need) → need_at sci an ≡ Some need → (sci ≡ need.sci) × (an ≡ need.an)
  own-place sci an need is =
      let told = is-need block sci an (numbers sci an) (c sci an) need is in
      (sym (ap (λ (n : Need). n.sci) told.is), sym (ap (λ (n : Need). n.an) told.is))

  at_place : (sci : List ℕ) (an : ℕ) (need : Need) → need_at sci an ≡ Some need → need_at need.sci need.an ≡ Some need
  at_place sci an need is =
      let place = own-place sci an need is in
      sym (λ i. need_at (place.0 i) (place.1 i)) ∙ is

  -- the first need is that of its association
  pub first-place : (scis : List (List ℕ)) (need : Need) → first_need (needs_among scis) ≡ Some need
      → need_at need.sci need.an ≡ Some need
  first-place [] need is = absurd cc
  first-place (sci ∷ scis) need is =
      let P = λ (n : Need). need_at n.sci n.an ≡ Some n in
      let at = λ (an : ℕ). at_place sci an need in
      first_step P _ _ need (at 0) (first_step P _ _ need (at 1)
      (first_step P _ _ need (at 2) (first_step P _ _ need (at 3) (first-place scis need)))) is
