-- First faults.
use Rattle.std.proofs.Common.{◌≡◌, ◌↔◌, ℕ, Option, Result, Err, List, [], ◌∷◌, inl, inr, refl, subst, sym}
use Rattle.macs_config.specs.Identity.{Identity}
use Rattle.macs_disk.specs.declared.layout.Layout.{Layout}
use Rattle.macs_fields.specs.First.{IsFirst, NoneHolds}
use Rattle.macs_cli.specs.Values.{SpellsIdentity, SpellsLayout, ValueFaultHolds}
use Rattle.macs_cli.specs.declared.values.ValueFault.{ValueFault}
use Rattle.macs_cli.specs.declared.values.ValueFault.TheVariants as value

-- where nothing is the first that holds, none holds
pub nothing_first : {R : Type 0} (Holds : R → Type 0) (order : List R) → ((fault : R) → ¬ IsFirst Holds order fault)
    → NoneHolds Holds order
nothing_first Holds [] h = tt
nothing_first Holds (r ∷ rs) h =
    let out : ¬ Holds r = λ held. h r (inl (held, refl)) in
    (out, nothing_first Holds rs (λ fault first. h fault (inr (out, first))))

-- an error that is handed on in another result
pub handed_on : {R S T : Type 0} (Holds : R → Type 0) (order : List R) (before : Result S R)
    (after : Result T R) (error : R)
    → before ≡ Err error → after ≡ Err error → ((fault : R) → (before ≡ Err fault) ↔ IsFirst Holds order fault)
    → (fault : R) → (after ≡ Err fault) ↔ IsFirst Holds order fault
handed_on Holds order before after error was is exactly fault = (
  λ same. let e : before ≡ Err fault = cc in (exactly fault).0 e,
  λ first. let e = (exactly fault).1 first in cc,
)

-- the first that holds does hold
pub first-holds : {R : Type 0} (Holds : R → Type 0) (order : List R) (fault : R) → IsFirst Holds order fault
    → Holds fault
first-holds Holds [] fault first = absurd first
first-holds Holds (r ∷ rs) fault (inl (held, same)) = subst Holds (sym same) held
first-holds Holds (r ∷ rs) fault (inr (out, later)) = first-holds Holds rs fault later

-- what is taken has none of the faults of a value
pub value-taken : (sci : List ℕ) (tx_block rx_block : ℕ) (block : Option (List ℕ)) (identity : Identity)
    (layout : Layout)
    → SpellsIdentity sci tx_block rx_block identity → SpellsLayout block layout → (fault : ValueFault)
    → ¬ ValueFaultHolds sci tx_block rx_block block fault
value-taken sci tx_block rx_block block identity layout spelled lies value.Sci held = held identity.sci spelled.sci_is
value-taken sci tx_block rx_block block identity layout spelled lies value.TxBlock held = held spelled.tx_fits
value-taken sci tx_block rx_block block identity layout spelled lies value.RxBlock held = held spelled.rx_fits
value-taken sci tx_block rx_block block identity layout spelled lies value.DeviceBlock held = held layout lies
