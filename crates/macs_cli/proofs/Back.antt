-- Objects that read back: they have no object in them, and their numbers are numbers.
use Rattle.std.proofs.Common.{◌≡◌, ◌≤◌, ◌++◌, ℕ, suc, max, Bool, true, false, List, [], ◌∷◌, Option, Some, None}
use Rattle.std.proofs.Common.{append_assoc, arith, flat_map, if◌then◌else◌, refl, ap, ap₂}
use Rattle.json.specs.Json.{Json, Members, document, null}
use Rattle.json.specs.Json as json
use Rattle.json.specs.Tree.{HasNumbers, MembersHaveNumbers, depth, members_depth}
use Rattle.json.specs.Word.{after_number}
use Rattle.json.proofs.Printed.Trees.{document-print}
use Rattle.macs_cli.specs.Cutting.{words}
use Rattle.macs_cli.specs.Objects.{ReadsBack, kind_of, members, members_of, named, object_of, object_text, parts}
use Rattle.macs_cli.specs.Parts.{Part, word, text, number, switch, is_end, is_none, is_number, name_of, some_value}
use Rattle.macs_cli.specs.Parts.{value_of}

-- ---- how deep they are

some-shallow : (its : Part) (said : List ℕ) → depth (some_value its said) ≡ 0
some-shallow (word own) said = refl
some-shallow (text name) said = refl
some-shallow (number name) said = go (is_number said)
  where
    go : (is : Bool) → depth (if is then json.number said else json.string said) ≡ 0
    go true = refl
    go false = refl
some-shallow (switch name) said = refl

value-shallow : (its : Part) (said : List ℕ) → depth (value_of its said) ≡ 0
value-shallow its said = go (is_none said)
  where
    go : (is : Bool) → depth (if is then null else some_value its said) ≡ 0
    go true = refl
    go false = some-shallow its said

named-shallow : (name : Option (List ℕ)) (value : Json) (others : Members) → depth value ≡ 0
    → members_depth others ≡ 0 → members_depth (named name value others) ≡ 0
named-shallow None value others first rest = rest
named-shallow (Some name) value others first rest = ap₂ max first rest

members-shallow : (its : List Part) (said : List (List ℕ)) → members_depth (members its said) ≡ 0
members-shallow [] said = refl
members-shallow (first ∷ more) [] = refl
members-shallow (first ∷ more) (one_word ∷ others) =
    named-shallow (name_of first) (value_of first one_word) (members more others) (value-shallow first one_word)
    (members-shallow more others)

line-shallow : (kind : Option (List ℕ)) (line : List ℕ) → members_depth (members_of kind line) ≡ 0
line-shallow None line = refl
line-shallow (Some kind) line = ap (max 0) (members-shallow (parts kind) (words line))

pub shallow : (line : List ℕ) → depth (object_of line) ≤ 128
shallow line = let flat = line-shallow (kind_of (words line)) line in omega (arith, ap suc flat)

-- ---- their numbers

at-end : (rest : Option (List ℕ)) → is_end rest ≡ true → rest ≡ Some []
at-end None is = cc
at-end (Some []) is = refl
at-end (Some (octet ∷ others)) is = cc

some-numbers : (its : Part) (said : List ℕ) → HasNumbers (some_value its said)
some-numbers (word own) said = tt
some-numbers (text name) said = tt
some-numbers (number name) said = go (is_number said) refl
  where
    go : (is : Bool) → is_number said ≡ is → HasNumbers (if is then json.number said else json.string said)
    go true e = at-end (after_number said) e
    go false e = tt
some-numbers (switch name) said = tt

value-numbers : (its : Part) (said : List ℕ) → HasNumbers (value_of its said)
value-numbers its said = go (is_none said)
  where
    go : (is : Bool) → HasNumbers (if is then null else some_value its said)
    go true = tt
    go false = some-numbers its said

named-numbers : (name : Option (List ℕ)) (value : Json) (others : Members) → HasNumbers value
    → MembersHaveNumbers others → MembersHaveNumbers (named name value others)
named-numbers None value others first rest = rest
named-numbers (Some name) value others first rest = (first, rest)

members-numbers : (its : List Part) (said : List (List ℕ)) → MembersHaveNumbers (members its said)
members-numbers [] said = tt
members-numbers (first ∷ more) [] = tt
members-numbers (first ∷ more) (one_word ∷ others) =
    named-numbers (name_of first) (value_of first one_word) (members more others) (value-numbers first one_word)
    (members-numbers more others)

line-numbers : (kind : Option (List ℕ)) (line : List ℕ) → MembersHaveNumbers (members_of kind line)
line-numbers None line = (tt, (tt, tt))
line-numbers (Some kind) line = (tt, members-numbers (parts kind) (words line))

-- ---- their texts

-- the text of a line reads back as its object
pub back : (line : List ℕ) → document (object_text line) ≡ Some (object_of line)
back line = document-print (object_of line) (line-numbers (kind_of (words line)) line) (shallow line)

-- so does each of some lines
pub all-back : (all : List (List ℕ)) → ReadsBack all (flat_map (λ line. object_text line ++ 10 ∷ []) all)
all-back [] = refl
all-back (line ∷ others) = (
  object_text line,
  flat_map (λ (l : List ℕ). object_text l ++ 10 ∷ []) others,
  append_assoc (object_text line) (10 ∷ []) (flat_map (λ (l : List ℕ). object_text l ++ 10 ∷ []) others),
  back line,
  all-back others,
)
