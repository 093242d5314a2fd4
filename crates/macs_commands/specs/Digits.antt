-- Octets and keys by their hexadecimal digits, of either case.
use Rattle.std.specs.Prelude.{ℕ, List, Option, Some, None}
use Rattle.std.specs.Option.{option_map}
use Rattle.std.specs.Result.{result_ok}
use Rattle.hex.specs.Hex.{decode_sized}
use Rattle.macs_aes.specs.declared.keys.Key.{Key}
use Rattle.macs_aes.specs.declared.keys.Key.TheVariants.{Long, Short}

-- this many octets, from a text of twice as many digits
abbrev pub octets_of : ℕ → List ℕ → Option (List ℕ)
octets_of count text = result_ok (decode_sized text count)

-- a key, from a text of 32 digits or of 64
abbrev pub key_of : List ℕ → Option Key
key_of text = elim (octets_of 16 text) [
  | Some short ↦ Some (Short short)
  | None ↦ option_map Long (octets_of 32 text)
]
