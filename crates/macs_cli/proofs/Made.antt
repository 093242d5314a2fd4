-- The members of an object, made one after another.
use Rattle.std.proofs.Common.{◌≡◌, ◌∙◌, ℕ, List, [], ◌∷◌, ◌++◌, Option, Some, map, option_map, refl, ap, ap₂, sym}
use Rattle.std.specs.Borrow.{Bor}
use Rattle.json.specs.Json.{Json, Members, member, no_members}
use Rattle.json.specs.Tree.{HasNumbers, MembersHaveNumbers}
use Rattle.json.specs.Value.{members_view, value_view}
use Rattle.json.specs.declared.value.Value.{Value}
use Rattle.macs_cli.specs.Cutting.{words}
use Rattle.macs_cli.specs.Objects.{members, named, parts}
use Rattle.macs_cli.specs.Parts.{Part, name_of, part, value_of}

-- members after others
abbrev pub joined : Members → Members → Members
joined no_members others = others
joined (member name value more) others = member name value (joined more others)

pub joined-none : (all : Members) → joined all no_members ≡ all
joined-none no_members = refl
joined-none (member name value more) = ap (member name value) (joined-none more)

-- one more that was made
pub made-more : {A : Type 0} → (made : List (Bor (List ℕ) × Value A)) (name : Bor (List ℕ)) (value : Value A)
    (others : Members)
    → joined (members_view (made ++ (name, value) ∷ [])) others
    ≡ joined (members_view made) (member name.now (value_view value) others)
made-more [] name value others = refl
made-more (first ∷ made) name value others =
    ap (member first.0.now (value_view first.1)) (made-more made name value others)

pub writable-more : {A : Type 0} → (made : List (Bor (List ℕ) × Value A)) (name : Bor (List ℕ)) (value : Value A)
    → MembersHaveNumbers (members_view made) → HasNumbers (value_view value)
    → MembersHaveNumbers (members_view (made ++ (name, value) ∷ []))
writable-more [] name value all has = (has, tt)
writable-more (first ∷ made) name value all has = (all.0, writable-more made name value all.1 has)

-- the first of both
pub members-step : (places rest own more word others : List ℕ) → words places ≡ own ∷ words more
    → words rest ≡ word ∷ words others
    → members (parts places) (words rest)
    ≡ named (name_of (part own)) (value_of (part own) word) (members (parts more) (words others))
members-step places rest own more word others first second =
    ap₂ (λ (p w : List (List ℕ)). members (map part p) w) first second

-- no word is left for a place
pub members-short : (places rest own more : List ℕ) → words places ≡ own ∷ words more → words rest ≡ []
    → members (parts places) (words rest) ≡ no_members
members-short places rest own more first none = ap₂ (λ (p w : List (List ℕ)). members (map part p) w) first none

-- no place is left
pub members-end : (places rest : List ℕ) → words places ≡ [] → members (parts places) (words rest) ≡ no_members
members-end places rest none = ap (λ (p : List (List ℕ)). members (map part p) (words rest)) none

-- ---- what is made so far, and what is to come

-- one more, of a name
pub step-made : {A : Type 0} → (made : List (Bor (List ℕ) × Value A)) (name : Bor (List ℕ)) (value : Value A)
    (all : Members) (places rest own more word others : List ℕ) (its : Part) (found : Option (Bor (List ℕ)))
    → joined (members_view made) (members (parts places) (words rest)) ≡ all → words places ≡ own ∷ words more
    → words rest ≡ word ∷ words others → its ≡ part own → option_map (λ n. n.now) found ≡ name_of its
    → found ≡ Some name → value_view value ≡ value_of its word
    → joined (members_view (made ++ (name, value) ∷ [])) (members (parts more) (words others)) ≡ all
step-made made name value all places rest own more word others its found so first second is named_so there says =
    let here : name_of (part own) ≡ Some name.now =
    sym (ap name_of is) ∙ sym named_so ∙ ap (option_map (λ (n : Bor (List ℕ)). n.now)) there in
    let valued : value_of (part own) word ≡ value_view value = sym (says ∙ ap (λ (p : Part). value_of p word) is) in
    let step : members (parts places) (words rest)
    ≡ member name.now (value_view value) (members (parts more) (words others)) =
    members-step places rest own more word others first second
    ∙ ap₂ (λ (n : Option (List ℕ)) (v : Json). named n v (members (parts more) (words others))) here valued in
    made-more made name value (members (parts more) (words others)) ∙ sym (ap (joined (members_view made)) step) ∙ so

-- the words end before the places do
pub short-made : (made all : Members) (places rest own more : List ℕ)
    → joined made (members (parts places) (words rest)) ≡ all → words places ≡ own ∷ words more → words rest ≡ []
    → made ≡ all
short-made made all places rest own more so first none =
    sym (joined-none made) ∙ sym (ap (joined made) (members-short places rest own more first none)) ∙ so

-- the places end
pub ended-made : (made all : Members) (places rest : List ℕ)
    → joined made (members (parts places) (words rest)) ≡ all → words places ≡ [] → made ≡ all
ended-made made all places rest so none =
    sym (joined-none made) ∙ sym (ap (joined made) (members-end places rest none)) ∙ so
