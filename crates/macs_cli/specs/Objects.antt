-- The JSON object for a line of a report.
use Rattle.std.specs.Prelude.{ℕ, ◌≡◌, ◌&&◌, ◌++◌, Bool, true, false, List, [], ◌∷◌, codes, flat_map, map, find, Option}
use Rattle.std.specs.Prelude.{Some, None}
use Rattle.std.specs.Prelude.{if◌then◌else◌}
use Rattle.json.specs.Json.{Json, Members, boolean, document, member, no_members, object, string}
use Rattle.json.specs.Print.{print}
use Rattle.json.specs.Tree.{json_tokens}
use Rattle.macs_cli.specs.Cutting.{lines, words}
use Rattle.macs_cli.specs.Parts.{Part, fits, name_of, part, value_of}
use Rattle.macs_cli.specs.declared.report_json.kinds.TheConstants.{KINDS}

-- words fit a kind of line: as many words as places, each fitting its place
abbrev pub fit : List Part → List (List ℕ) → Bool
fit [] [] = true
fit [] (word ∷ others) = false
fit (first ∷ more) [] = false
fit (first ∷ more) (word ∷ others) = fits first word && fit more others

-- the places of a kind of line
abbrev pub parts : List ℕ → List Part
parts kind = map part (words kind)

-- the first of these kinds that a line belongs to, by its words
abbrev pub kind_among : List (List ℕ) → List (List ℕ) → Option (List ℕ)
kind_among kinds said = find (λ kind. fit (parts kind) said) kinds

-- the kind of a line
abbrev pub kind_of : List (List ℕ) → Option (List ℕ)
kind_of said = kind_among (map (λ kind. kind.now) KINDS.now) said

-- members, preceded by one with this name if there is one
abbrev pub named : Option (List ℕ) → Json → Members → Members
named None value others = others
named (Some name) value others = member name value others

-- the members for words in these places
abbrev pub members : List Part → List (List ℕ) → Members
members [] said = no_members
members (first ∷ more) [] = no_members
members (first ∷ more) (word ∷ others) = named (name_of first) (value_of first word) (members more others)

-- the first word
abbrev pub first_of : List (List ℕ) → List ℕ
first_of [] = []
first_of (word ∷ others) = word

-- a line of some kind has its first word as `line`, then a member for each name of its kind; a line of none is itself
-- the `line`, and is marked as unknown
abbrev pub members_of : Option (List ℕ) → List ℕ → Members
members_of None line = member (codes "line") (string line) (member (codes "known") (boolean false) no_members)
members_of (Some kind) line =
    member (codes "line") (string (first_of (words line))) (members (parts kind) (words line))

-- the object for a line
abbrev pub object_of : List ℕ → Json
object_of line = object (members_of (kind_of (words line)) line)

-- its text
abbrev pub object_text : List ℕ → List ℕ
object_text line = print (json_tokens (object_of line))

-- the text of a report: an object for each line, each followed by a line feed (10)
abbrev pub json_text : List ℕ → List ℕ
json_text report = flat_map (λ line. object_text line ++ 10 ∷ []) (lines report)

-- a report, as JSON if requested
abbrev pub in_form : Bool → List ℕ → List ℕ
in_form is_json report = if is_json then json_text report else report

-- each of these lines has its own line in a text, which reads back as its object
abbrev pub ReadsBack : List (List ℕ) → List ℕ → Type 0
ReadsBack [] all = all ≡ []
ReadsBack (line ∷ others) all = (text : List ℕ) × (rest : List ℕ) × (all ≡ text ++ 10 ∷ rest)
    × (document text ≡ Some (object_of line)) × ReadsBack others rest
