-- The values of `format`: what an endpoint is formatted with.
use Rattle.std.specs.Prelude.{◌≡◌, ℕ, List, [], ◌∷◌, Option, Some, None, codes}
use Rattle.macs_config.specs.Identity.{Identity, IsBlock}
use Rattle.macs_disk.specs.declared.layout.Layout.{Layout}
use Rattle.macs_disk.specs.declared.layout.Layout.TheVariants.{Packed, Spaced}
use Rattle.macs_cli.specs.OpenInput.{SpellsSci}
use Rattle.macs_cli.specs.declared.values.ValueFault.{ValueFault}
use Rattle.macs_cli.specs.declared.values.ValueFault.TheVariants as fault

-- the SCI is spelled in hex, and the blocks are in their range
pub record SpellsIdentity (sci : List ℕ) (tx_block rx_block : ℕ) (identity : Identity) : Type 0 where
  pub sci_is : SpellsSci sci identity.sci
  pub tx_is : identity.tx_block ≡ tx_block
  pub rx_is : identity.rx_block ≡ rx_block
  pub tx_fits : IsBlock tx_block
  pub rx_fits : IsBlock rx_block

-- the layout for the named block size of the device: 512 if none is named
abbrev pub SpellsLayout : Option (List ℕ) → Layout → Type 0
SpellsLayout None layout = layout ≡ Packed
SpellsLayout (Some text) Packed = text ≡ codes "512"
SpellsLayout (Some text) Spaced = text ≡ codes "4096"

-- when each fault of the values applies
abbrev pub ValueFaultHolds : List ℕ → ℕ → ℕ → Option (List ℕ) → ValueFault → Type 0
ValueFaultHolds sci tx_block rx_block block fault.Sci = (octets : List ℕ) → ¬ SpellsSci sci octets
ValueFaultHolds sci tx_block rx_block block fault.TxBlock = ¬ IsBlock tx_block
ValueFaultHolds sci tx_block rx_block block fault.RxBlock = ¬ IsBlock rx_block
ValueFaultHolds sci tx_block rx_block block fault.DeviceBlock = (layout : Layout) → ¬ SpellsLayout block layout

-- in the order in which they are checked
abbrev pub value_faults : List ValueFault
value_faults = fault.Sci ∷ fault.TxBlock ∷ fault.RxBlock ∷ fault.DeviceBlock ∷ []
