-- What `key` prints, and how it fails.
use Rattle.std.specs.Prelude.{◌≡◌, if◌then◌else◌, ⊤, ℕ, Bool, List, Option, length}
use Rattle.std.specs.Io.KnownBytes.{Appends}
use Rattle.hex.specs.Hex.{encode_lower}
use Rattle.macs_texts.specs.Lines.{line}
use Rattle.macs_cli.specs.declared.failure.Failure.{Failure}
use Rattle.macs_cli.specs.declared.failure.Failure.TheVariants as failures

-- the length of a key in octets: for GCM-AES-256, or for GCM-AES-128
abbrev pub key_octets : Bool → ℕ
key_octets is_long = if is_long then 32 else 16

-- the key with these octets is printed: two lower-case hex digits for each octet, and a line feed
pub record PrintsKey (is_long : Bool) (octets : List ℕ) (before after : Option (List ℕ)) : Type 0 where
  pub count : length octets ≡ key_octets is_long
  pub printed : Appends before after (line (encode_lower octets))

-- a key of some octets is printed
abbrev pub GivesKey : Bool → Option (List ℕ) → Option (List ℕ) → Type 0
GivesKey is_long before after = (octets : List ℕ) × PrintsKey is_long octets before after

-- the failures of `key`: the random source, and standard output
abbrev pub IsOfKey : Failure → Type 0
IsOfKey failures.Random = ⊤
IsOfKey failures.Output = ⊤
IsOfKey other = ⊥
