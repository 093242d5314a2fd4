-- The link in a file, or the file's first fault.
use Rattle.std.specs.Prelude.{◌+◌, ◌==◌, ◌||◌, ◌&&◌, not, ℕ, nat_lt, codes, if◌then◌else◌, Bool, false, List, [], ◌∷◌}
use Rattle.std.specs.Prelude.{Option, Some, None, Result, Ok, Err}
use Rattle.std.specs.Str.{bytes_eq}
use Rattle.toml.specs.Data.{Items, Members, item, no_items, table}
use Rattle.macs_aes.specs.Keys.{octets_of_key}
use Rattle.macs_config.specs.Config.{are_distinct}
use Rattle.macs_commands.specs.Tables.{an_in, are_tables, count, items_at, key_at, sci_in, table_at}
use Rattle.macs_commands.specs.declared.links.link.KeyPair.{KeyPair}
use Rattle.macs_commands.specs.declared.links.link.Link.{Link}
use Rattle.macs_commands.specs.declared.links.plan_fault.Place.{Place}
use Rattle.macs_commands.specs.declared.links.plan_fault.Place.TheVariants as place
use Rattle.macs_commands.specs.declared.links.plan_fault.PlanFault.{PlanFault}
use Rattle.macs_commands.specs.declared.links.plan_fault.PlanFault.TheVariants as fault
use Rattle.macs_commands.specs.declared.links.plan_fault.ValueName.{ValueName}
use Rattle.macs_commands.specs.declared.links.plan_fault.ValueName.TheVariants as name

-- ---- faults

infixl 10 ◌>>=◌
-- the first of two readings, followed by the second
abbrev pub ◌>>=◌ : {X Y : Type 0} → Result X PlanFault → (X → Result Y PlanFault) → Result Y PlanFault
Ok x >>= f = f x
Err cause >>= f = Err cause

-- the value, or the place where it should have been
abbrev pub required : {X : Type 0} → Place → ValueName → Option X → Result X PlanFault
required place name (Some x) = Ok x
required place name None = Err (fault.Value place name)

-- the value of a table that has no more than this many keys
abbrev pub only : {X : Type 0} → Place → ℕ → Members → X → Result X PlanFault
only place keys members x = if nat_lt keys (count members) then Err (fault.Extra place) else Ok x

-- ---- the tables

-- the SCI of an end
abbrev pub end_sci : Place → Members → Result (List ℕ) PlanFault
end_sci place members = do
  sci ← required place name.Sci (sci_in members)
  only place 1 members sci

-- the pair of keys of table `at`, counting from 1
abbrev pub key_pair : ℕ → Members → Result KeyPair PlanFault
key_pair at members = do
  an ← required (place.Key at) name.An (an_in members)
  left ← required (place.Key at) name.Left (key_at (codes "left") members)
  right ← required (place.Key at) name.Right (key_at (codes "right") members)
  only (place.Key at) 3 members (record { an = an; left = left; right = right })

-- a pair, and those after it
abbrev pub followed : Result KeyPair PlanFault → Result (List KeyPair) PlanFault → Result (List KeyPair) PlanFault
followed (Err cause) rest = Err cause
followed (Ok pair) (Err cause) = Err cause
followed (Ok pair) (Ok pairs) = Ok (pair ∷ pairs)

-- the pairs of these tables, the first of which is number `at`
abbrev pub key_pairs : ℕ → Items → Result (List KeyPair) PlanFault
key_pairs at no_items = Ok []
key_pairs at (item (table members) items) = followed (key_pair at members) (key_pairs (at + 1) items)
key_pairs at (item other items) = Err fault.Shape

-- ---- refused links

-- the octets of the keys of these pairs
abbrev pub keys_of : List KeyPair → List (List ℕ)
keys_of [] = []
keys_of (pair ∷ pairs) = octets_of_key pair.left ∷ octets_of_key pair.right ∷ keys_of pairs

-- a pair has the association number of the previous one
abbrev pub reuses_an : List KeyPair → Bool
reuses_an [] = false
reuses_an (pair ∷ []) = false
reuses_an (pair ∷ next ∷ pairs) = (next.an == pair.an) || reuses_an (next ∷ pairs)

-- the link of these ends: the last pair is the newest
abbrev pub newest_link : List ℕ → List ℕ → Option KeyPair → List KeyPair → Result Link PlanFault
newest_link left right earlier [] = Err fault.Shape
newest_link left right earlier (pair ∷ []) = Ok (record { left = left; right = right; newest = pair; before = earlier })
newest_link left right earlier (pair ∷ next ∷ pairs) = newest_link left right (Some pair) (next ∷ pairs)

-- the link, unless both ends have the same SCI, a key occurs twice, or a number is in use
abbrev pub sound_link : List ℕ → List ℕ → List KeyPair → Result Link PlanFault
sound_link left right pairs =
    if bytes_eq left right then Err fault.SameSci
    else if not (are_distinct (keys_of pairs)) then Err fault.SameKey
    else if reuses_an pairs then Err fault.AnInUse
    else newest_link left right None pairs

-- ---- the file

-- the link in these tables
abbrev pub tables_link : Members → Members → Items → Result Link PlanFault
tables_link left right items = do
  left_sci ← end_sci place.Left left
  right_sci ← end_sci place.Right right
  pairs ← key_pairs 1 items
  sound_link left_sci right_sci pairs

-- there is at least one table of keys, and each item is a table
abbrev pub has_tables : Items → Bool
has_tables no_items = false
has_tables (item first items) = are_tables (item first items)

-- the link in a file with three keys
abbrev pub shaped_link : ℕ → Members → Members → Items → Result Link PlanFault
shaped_link keys left right items = if (keys == 3) && has_tables items then tables_link left right items
    else Err fault.Shape

-- the link in a file: its keys are `left`, `right` and `key`, and no others
abbrev pub file_link : Members → Result Link PlanFault
file_link members = elim (table_at (codes "left") members) [
  | None ↦ Err fault.Shape
  | Some left ↦ elim (table_at (codes "right") members) [
    | None ↦ Err fault.Shape
    | Some right ↦ elim (items_at (codes "key") members) [
      | None ↦ Err fault.Shape
      | Some items ↦ shaped_link (count members) left right items
    ]
  ]
]
