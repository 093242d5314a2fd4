-- The keys of a table, and the value at a key: a number, a flag, a text, a table, an array, a mode, an association
-- number, an SCI or a SAK.
use Rattle.std.specs.Prelude.{◌-◌, ◌^◌, ℕ, nat_le, pos, suc, codes, if◌then◌else◌, Bool, true, false, List, Option}
use Rattle.std.specs.Prelude.{Some, None}
use Rattle.std.specs.Prelude.{option_and_then}
use Rattle.toml.specs.Data.{Data, Items, Members, as_array, as_bool, as_str, as_table, get_member, integer, item}
use Rattle.toml.specs.Data.{member}
use Rattle.toml.specs.Data.{no_items, no_members, table}
use Rattle.macs_aes.specs.declared.keys.Key.{Key}
use Rattle.macs_config.specs.declared.command.SciMode.{SciMode}
use Rattle.macs_config.specs.declared.command.Validate.{Validate}
use Rattle.macs_commands.specs.Digits.{key_of, octets_of}
use Rattle.macs_commands.specs.Words.{sci_mode_spelled, validate_spelled}

-- ---- kinds of values

-- a number from 0 to `most`
abbrev pub number_to : ℕ → Data → Option ℕ
number_to most (integer (pos n)) = if nat_le n most then Some n else None
number_to most other = None

-- ---- tables

-- how many keys a table has
abbrev pub count : Members → ℕ
count no_members = 0
count (member key value members) = suc (count members)

-- each of these values is a table
abbrev pub are_tables : Items → Bool
are_tables no_items = true
are_tables (item (table _) items) = are_tables items
are_tables (item other items) = false

-- ---- values at a key

-- the number at a key, if it is at most `most`
abbrev pub number_at : List ℕ → ℕ → Members → Option ℕ
number_at key most members = option_and_then (number_to most) (get_member key members)

-- the flag at a key
abbrev pub flag_at : List ℕ → Members → Option Bool
flag_at key members = option_and_then as_bool (get_member key members)

-- the text at a key
abbrev pub text_at : List ℕ → Members → Option (List ℕ)
text_at key members = option_and_then as_str (get_member key members)

-- the table at a key
abbrev pub table_at : List ℕ → Members → Option Members
table_at key members = option_and_then as_table (get_member key members)

-- the array at a key
abbrev pub items_at : List ℕ → Members → Option Items
items_at key members = option_and_then as_array (get_member key members)

-- the SAK at a key: 32 or 64 hex digits
abbrev pub key_at : List ℕ → Members → Option Key
key_at key members = option_and_then key_of (text_at key members)

-- this many octets at a key
abbrev pub octets_at : List ℕ → ℕ → Members → Option (List ℕ)
octets_at key count members = option_and_then (octets_of count) (text_at key members)

-- ---- the keys of the commands

-- an association number, 0 to 3
abbrev pub an_in : Members → Option ℕ
an_in members = number_at (codes "an") 3 members

-- an SCI: 16 hex digits
abbrev pub sci_in : Members → Option (List ℕ)
sci_in members = octets_at (codes "sci") 8 members

-- a SAK: 32 or 64 hex digits
abbrev pub key_in : Members → Option Key
key_in members = key_at (codes "key") members

-- a first packet number, 0 to 2^32 - 1; 0 is refused when the command is applied
abbrev pub start_in : Members → Option ℕ
start_in members = number_at (codes "start") (2 ^ 32 - 1) members

-- a confidentiality offset, 0 to 255 octets; invalid ones are refused when the command is applied
abbrev pub offset_in : Members → Option ℕ
offset_in members = number_at (codes "offset") 255 members

-- the size of a replay window, 0 to 2^32 - 1
abbrev pub window_in : Members → Option ℕ
window_in members = number_at (codes "window") (2 ^ 32 - 1) members

-- whether replay protection is on
abbrev pub on_in : Members → Option Bool
on_in members = flag_at (codes "on") members

-- whether User Data are encrypted
abbrev pub confidential_in : Members → Option Bool
confidential_in members = flag_at (codes "confidential") members

-- a mode of validation
abbrev pub validate_in : Members → Option Validate
validate_in members = option_and_then validate_spelled (text_at (codes "mode") members)

-- a mode of naming the channel
abbrev pub sci_mode_in : Members → Option SciMode
sci_mode_in members = option_and_then sci_mode_spelled (text_at (codes "mode") members)
