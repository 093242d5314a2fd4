-- The addresses of the wires that `relay` joins.
use Rattle.std.specs.Prelude.{ℕ, List, [], ◌∷◌}
use Rattle.std.specs.Net.Grammar.{IsSocketText}
use Rattle.std.specs.declared.net.SocketAddr.{SocketAddr}
use Rattle.macs_cli.specs.declared.words.action.WireEnds.{WireEnds}
use Rattle.macs_cli.specs.declared.addresses.AddressFault.{AddressFault}
use Rattle.macs_cli.specs.declared.addresses.AddressFault.TheVariants.{Own1, Peer1, Own2, Peer2}
use Rattle.macs_cli.specs.declared.addresses.WireAddresses.{WireAddresses}

-- the ends of a wire are spelled as IPv4 address and port, such as 127.0.0.1:4000, or IPv6, such as [::1]:4000
pub record SpellsEnds (ends : WireEnds) (wire : WireAddresses) : Type 0 where
  pub own_is : IsSocketText ends.own.now wire.own
  pub peer_is : IsSocketText ends.peer.now wire.peer

-- the ends of both wires are spelled
abbrev pub SpellsBoth : WireEnds → WireEnds → Type 0
SpellsBoth controlled common = (first : WireAddresses) × (second : WireAddresses) × SpellsEnds controlled first
    × SpellsEnds common second

-- the text is not an address
abbrev pub SpellsNone : List ℕ → Type 0
SpellsNone text = (address : SocketAddr) → ¬ IsSocketText text address

-- when each fault applies
abbrev pub AddressFaultHolds : WireEnds → WireEnds → AddressFault → Type 0
AddressFaultHolds controlled common Own1 = SpellsNone controlled.own.now
AddressFaultHolds controlled common Peer1 = SpellsNone controlled.peer.now
AddressFaultHolds controlled common Own2 = SpellsNone common.own.now
AddressFaultHolds controlled common Peer2 = SpellsNone common.peer.now

-- in the order in which they are checked
abbrev pub address_faults : List AddressFault
address_faults = Own1 ∷ Peer1 ∷ Own2 ∷ Peer2 ∷ []
