-- Addresses that are read wire by wire, as those of both wires.
use Rattle.std.proofs.Common.{◌≡◌, ◌⊎◌, ◌↔◌, Result, Ok, Err, inl, inr, refl, subst}
use Rattle.std.specs.Net.Grammar.{IsSocketText}
use Rattle.std.specs.declared.net.SocketAddr.{SocketAddr}
use Rattle.macs_fields.specs.First.{IsFirst}
use Rattle.macs_fields.proofs.FirstRefusal.{exactly_first, exactly_none}
use Rattle.macs_cli.specs.declared.words.action.WireEnds.{WireEnds}
use Rattle.macs_cli.specs.Addresses.{AddressFaultHolds, SpellsEnds, SpellsNone, address_faults}
use Rattle.macs_cli.specs.declared.addresses.AddressFault.{AddressFault}
use Rattle.macs_cli.specs.declared.addresses.AddressFault.TheVariants.{Own1, Peer1, Own2, Peer2}
use Rattle.macs_cli.specs.declared.addresses.Addresses.{Addresses}
use Rattle.macs_cli.specs.declared.addresses.WireAddresses.{WireAddresses}

-- a fault of the ends of a wire
abbrev pub IsOfEnds : WireEnds → AddressFault → AddressFault → AddressFault → Type 0
IsOfEnds ends own_fault peer_fault fault = (SpellsNone ends.own.now × (fault ≡ own_fault))
    ⊎ ((own : SocketAddr) × IsSocketText ends.own.now own × SpellsNone ends.peer.now × (fault ≡ peer_fault))

module _ (controlled common : WireEnds) where
  first-fault : (fault : AddressFault) → IsOfEnds controlled Own1 Peer1 fault
      → IsFirst (AddressFaultHolds controlled common) address_faults fault
  first-fault fault (inl (none, is)) = inl (none, is)
  first-fault fault (inr (own, own_is, none, is)) = inr ((λ no. no own own_is), inl (none, is))

  second-fault : (first : WireAddresses) (fault : AddressFault) → SpellsEnds controlled first
      → IsOfEnds common Own2 Peer2 fault
      → IsFirst (AddressFaultHolds controlled common) address_faults fault
  second-fault first fault spelled (inl (none, is)) =
      inr ((λ no. no first.own spelled.own_is), inr ((λ no. no first.peer spelled.peer_is), inl (none, is)))
  second-fault first fault spelled (inr (own, own_is, none, is)) =
      inr (
        (λ no. no first.own spelled.own_is),
        inr ((λ no. no first.peer spelled.peer_is), inr ((λ no. no own own_is), inl (none, is))),
      )

  -- the first wire is refused
  pub first-refused : (result : Result Addresses AddressFault) (fault given : AddressFault) → result ≡ Err fault
      → fault ≡ given → IsOfEnds controlled Own1 Peer1 given
      → (other : AddressFault)
      → (result ≡ Err other) ↔ IsFirst (AddressFaultHolds controlled common) address_faults other
  first-refused result fault given is same of =
      exactly_first (AddressFaultHolds controlled common) address_faults result given
      (subst (λ (f : AddressFault). result ≡ Err f) same is) (first-fault given of)

  -- the second one is
  pub second-refused : (first : WireAddresses) (result : Result Addresses AddressFault) (fault given : AddressFault)
      → SpellsEnds controlled first
      → result ≡ Err fault → fault ≡ given → IsOfEnds common Own2 Peer2 given
      → (other : AddressFault)
      → (result ≡ Err other) ↔ IsFirst (AddressFaultHolds controlled common) address_faults other
  second-refused first result fault given spelled is same of =
      exactly_first (AddressFaultHolds controlled common) address_faults result given
      (subst (λ (f : AddressFault). result ≡ Err f) same is)
      (second-fault first given spelled of)

  -- neither is
  pub none-refused : (first second : WireAddresses) (addresses : Addresses) → SpellsEnds controlled first
      → SpellsEnds common second
      → (other : AddressFault)
      → (Ok addresses ≡ Err other) ↔ IsFirst (AddressFaultHolds controlled common) address_faults other
  none-refused first second addresses one two =
      exactly_none (AddressFaultHolds controlled common) address_faults (Ok addresses) addresses refl (
        (λ no. no first.own one.own_is),
        (
          (λ no. no first.peer one.peer_is),
          ((λ no. no second.own two.own_is), ((λ no. no second.peer two.peer_is), tt)),
        ),
      )
