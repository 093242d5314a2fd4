-- The places of a kind of line, the words that fit there, and their values.
use Rattle.std.specs.Prelude.{ℕ, ◌==◌, ◌||◌, Bool, true, false, List, [], ◌∷◌, if◌then◌else◌, codes, Option, Some, None}
use Rattle.std.specs.List.{after_first, before_first}
use Rattle.std.specs.Str.{bytes_eq}
use Rattle.json.specs.Json.{Json, null, boolean}
use Rattle.json.specs.Json as json
use Rattle.json.specs.Word.{after_number}
use Rattle.macs_cli.specs.declared.report_json.parts.Part as declared
use Rattle.macs_cli.specs.declared.report_json.parts.Part.TheVariants as variants

-- the content of a place: this exact word, or, under a name, any word that is a text, a number or a switch
pub data Part : Type 0 where
  word : List ℕ → Part
  text : List ℕ → Part
  number : List ℕ → Part
  switch : List ℕ → Part

-- the program's type for the same
abbrev pub view_of : declared.Part → Part
view_of (variants.Word own) = word own.now
view_of (variants.Text name) = text name.now
view_of (variants.Number name) = number name.now
view_of (variants.Switch name) = switch name.now

-- a name with a type; with no type it is a literal word
abbrev pub typed : List ℕ → List ℕ → List ℕ → Part
typed own name type =
    if bytes_eq type (codes "text") then text name
    else (if bytes_eq type (codes "number") then number name
    else (if bytes_eq type (codes "switch") then switch name else word own))

-- the place described by a word of a kind: its name before the first colon (58), its type after it
abbrev pub part : List ℕ → Part
part own = typed own (before_first (λ octet. octet == 58) own) (after_first (λ octet. octet == 58) own)

-- the name of the member for a word there, if it is one
abbrev pub name_of : Part → Option (List ℕ)
name_of (word own) = None
name_of (text name) = Some name
name_of (number name) = Some name
name_of (switch name) = Some name

-- nothing is left
abbrev pub is_end : Option (List ℕ) → Bool
is_end None = false
is_end (Some []) = true
is_end (Some (octet ∷ rest)) = false

-- a whole word is a JSON number
abbrev pub is_number : List ℕ → Bool
is_number said = is_end (after_number said)

-- a word stands for a missing value
abbrev pub is_none : List ℕ → Bool
is_none said = bytes_eq said (codes "none")

-- a word fits a place
abbrev pub fits : Part → List ℕ → Bool
fits (word own) said = bytes_eq said own
fits (text name) said = true
fits (number name) said = is_none said || is_number said
fits (switch name) said = is_none said || (bytes_eq said (codes "on") || bytes_eq said (codes "off"))

-- the value of a word in a place that is not `none`
abbrev pub some_value : Part → List ℕ → Json
some_value (word own) said = json.string said
some_value (text name) said = json.string said
some_value (number name) said = if is_number said then json.number said else json.string said
some_value (switch name) said = boolean (bytes_eq said (codes "on"))

-- the value of a word in a place: `none` is null, `on` true, `off` false, a number itself, and any other word a string
abbrev pub value_of : Part → List ℕ → Json
value_of its said = if is_none said then null else some_value its said
