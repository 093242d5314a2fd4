-- The input of `open`, four lines: a key, an SCI, a confidentiality offset and a protected frame.
use Rattle.std.specs.Prelude.{◌≡◌, ◌⊎◌, ℕ, ◌≤◌, List, [], ◌∷◌, length, codes, Ok}
use Rattle.hex.specs.Hex.{decode_of}
use Rattle.macs_aes.specs.Keys.{octets_of_key}
use Rattle.macs_fields.specs.declared.fields.Offset.{Offset}
use Rattle.macs_fields.specs.declared.fields.Offset.TheVariants.{Zero, Thirty, Fifty}
use Rattle.macs_cli.specs.Lines.{line_at, lines}
use Rattle.macs_cli.specs.declared.open_input.OpenInput.{OpenInput}
use Rattle.macs_cli.specs.declared.open_input.InputFault.{InputFault}
use Rattle.macs_cli.specs.declared.open_input.InputFault.TheVariants as fault

-- the octets in hex, digits of either case
abbrev pub SpellsOctets : List ℕ → List ℕ → Type 0
SpellsOctets line octets = decode_of line ≡ Ok octets

-- `count` octets are spelled
abbrev pub SpellsSized : List ℕ → ℕ → List ℕ → Type 0
SpellsSized line count octets = (length octets ≡ count) × SpellsOctets line octets

-- the line is a key of 16 or of 32 octets in hex
abbrev pub SpellsKey : List ℕ → List ℕ → Type 0
SpellsKey line key = ((length key ≡ 16) ⊎ (length key ≡ 32)) × SpellsOctets line key

-- the line is an SCI of 8 octets in hex
abbrev pub SpellsSci : List ℕ → List ℕ → Type 0
SpellsSci line sci = (length sci ≡ 8) × SpellsOctets line sci

-- how a confidentiality offset is spelled: octets in decimal
abbrev pub offset_text : Offset → List ℕ
offset_text Zero = codes "0"
offset_text Thirty = codes "30"
offset_text Fifty = codes "50"

-- the line is a confidentiality offset in octets: 0, 30 or 50
abbrev pub SpellsOffset : List ℕ → Offset → Type 0
SpellsOffset line offset = line ≡ offset_text offset

-- four lines of at most 20,000 octets
abbrev pub IsFourLines : List ℕ → Type 0
IsFourLines input = (length input ≤ 20000) × (length (lines input) ≡ 4)

-- the four lines of the input are the key, the SCI, the offset and the frame of the request
pub record Spells (input : List ℕ) (request : OpenInput) : Type 0 where
  pub four : IsFourLines input
  pub key : SpellsKey (line_at input 0) (octets_of_key request.key)
  pub sci : SpellsSci (line_at input 1) request.sci
  pub offset : SpellsOffset (line_at input 2) request.offset
  pub frame : SpellsOctets (line_at input 3) request.frame.items

-- ---- faults

-- when each fault of an input applies
abbrev pub InputFaultHolds : List ℕ → InputFault → Type 0
InputFaultHolds input fault.Input = ¬ IsFourLines input
InputFaultHolds input fault.Key = (key : List ℕ) → ¬ SpellsKey (line_at input 0) key
InputFaultHolds input fault.Sci = (sci : List ℕ) → ¬ SpellsSci (line_at input 1) sci
InputFaultHolds input fault.Offset = (offset : Offset) → ¬ SpellsOffset (line_at input 2) offset
InputFaultHolds input fault.Frame = (frame : List ℕ) → ¬ SpellsOctets (line_at input 3) frame

-- in the order in which they are checked
abbrev pub input_faults : List InputFault
input_faults = fault.Input ∷ fault.Key ∷ fault.Sci ∷ fault.Offset ∷ fault.Frame ∷ []
