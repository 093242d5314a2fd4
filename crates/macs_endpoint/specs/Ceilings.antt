-- What a call does to the ceilings of packet numbers.
use Rattle.std.specs.Prelude.{◌≡◌, ◌⊎◌, ◌<◌, ◌^◌, IfSome, IsSome, ℕ, List, [], ◌∷◌, Option, Some, None, Result, Ok, Err}
use Rattle.std.specs.Option.{option_map}
use Rattle.macs_config.specs.Numbers.{block_beyond}
use Rattle.macs_config.specs.declared.command.Command.{Command}
use Rattle.macs_txsc.specs.Transmit.{TxSide}
use Rattle.macs_txsc.specs.Transmit as tx
use Rattle.macs_rxsc.specs.Needs.{Need}
use Rattle.macs_rxsc.specs.Needs as rx
use Rattle.macs_rxsc.specs.Receive.{Numbers, RxSide}
use Rattle.macs_store.specs.Standing.{Ceilings, Standing, accept, standing_with_rx_raised, standing_with_tx_raised}
use Rattle.macs_endpoint.specs.State.{Advanced, Advances, Call, Commands, Ran, Refilled, Refills, Reply, Rested, Rests}
use Rattle.macs_endpoint.specs.State.{State, command_made, rx_side, tx_side}
use Rattle.macs_endpoint.specs.declared.fault.CommandFault.{CommandFault}
use Rattle.macs_endpoint.specs.declared.fault.CommandFault.TheVariants as ran
use Rattle.macs_endpoint.specs.declared.fault.RefillFault.{RefillFault}
use Rattle.macs_endpoint.specs.declared.fault.RefillFault.TheVariants as refill
use Rattle.macs_endpoint.specs.declared.fault.RestFault.{RestFault}
use Rattle.macs_endpoint.specs.declared.fault.RestFault.TheVariants as rest
use Rattle.macs_endpoint.specs.declared.fault.StepFault.{StepFault}
use Rattle.macs_endpoint.specs.declared.progress.Step.{Step as Progress}
use Rattle.macs_endpoint.specs.declared.progress.Step.TheVariants.{Reserved}

-- ---- reservations

-- which ceiling is raised: that of a transmit association, or that of a receive association for the number seen
pub data Raise : Type 0 where
  RaiseTx : (an : ℕ) → Raise
  RaiseRx : Need → Raise

-- the standing after a ceiling was raised
abbrev pub standing_with_raise : Standing → Raise → Standing
standing_with_raise s (RaiseTx an) = standing_with_tx_raised s an
standing_with_raise s (RaiseRx need) = standing_with_rx_raised s need.sci need.an need.pn

-- the association of a ceiling exists, and the ceiling is lower than its new value
abbrev pub Rises : Standing → Raise → Type 0
Rises s (RaiseTx an) = IsSome (s.ceilings.tx an) × IfSome (s.ceilings.tx an) (λ old. old < 2 ^ 32)
Rises s (RaiseRx need) =
    IsSome (s.ceilings.rx need.sci need.an)
    × IfSome (s.ceilings.rx need.sci need.an) (λ old. old < block_beyond need.pn s.identity.rx_block)

-- the need of the transmit side, or else that of the receive side
abbrev pub either_raise : Option ℕ → Option Need → Option Raise
either_raise (Some an) need = Some (RaiseTx an)
either_raise None (Some need) = Some (RaiseRx need)
either_raise None None = None

-- the ceiling to raise first: that of the encoding association, then those of receive associations by ascending SCI and
-- AN
abbrev pub first_raise : Standing → TxSide → RxSide → Option Raise
first_raise s tx_side rx_side = either_raise
    (tx.need_of tx_side s.ceilings.tx s.identity.tx_block)
    (rx.first_need_of rx_side s.ceilings.rx s.identity.rx_block)

-- these ceilings were raised one after the other, each the first that was needed at the time
abbrev pub Raises : TxSide → RxSide → Standing → List Raise → Standing → Type 0
Raises tx_side rx_side old [] new = new ≡ old
Raises tx_side rx_side old (raise ∷ raises) new =
    (first_raise old tx_side rx_side ≡ Some raise) × Raises tx_side rx_side (standing_with_raise old raise) raises new

-- some ceilings were raised, and this one must be raised next, if any
pub record IsRefilled (tx_side : TxSide) (rx_side : RxSide) (old new : Standing) (next : Option Raise) : Type 0 where
  pub raises : List Raise
  pub raised : Raises tx_side rx_side old raises new
  pub is_next : first_raise new tx_side rx_side ≡ next

-- ---- calls

-- the standing once the reservation under way, if any, is done
abbrev pub standing_with_reserved : Standing → Option Raise → Standing
standing_with_reserved s None = s
standing_with_reserved s (Some raise) = standing_with_raise s raise

-- the standing after a command that was made durable, if any
abbrev pub StandsAfter : Option Command → Standing → Standing → Type 0
StandsAfter None old new = new ≡ old
StandsAfter (Some command) old new = accept old command ≡ Ok new

-- the standing after a command with this answer: a reservation under way is finished first, unless the command is
-- refused before
abbrev pub StandsRan : Standing → Option Raise → Command → Result (Unit {0}) CommandFault → Standing → Type 0
StandsRan old reserving command (Ok done) new = accept (standing_with_reserved old reserving) command ≡ Ok new
StandsRan old reserving command (Err ran.GenerationsSpent) new = new ≡ standing_with_reserved old reserving
StandsRan old reserving command (Err ran.Disk) new = (new ≡ old) ⊎ (new ≡ standing_with_reserved old reserving)
StandsRan old reserving command (Err fault) new = new ≡ old

-- the standing after a refill with this answer: a reservation under way is finished first; then every need is served,
-- or one is left unserved; or nothing changed
abbrev pub StandsRefilled : TxSide → RxSide → Standing → Option Raise → Result (Unit {0}) RefillFault
    → Standing → Type 0
StandsRefilled tx_side rx_side old reserving (Ok done) new =
    IsRefilled tx_side rx_side (standing_with_reserved old reserving) new None
StandsRefilled tx_side rx_side old reserving (Err refill.GenerationsSpent) new =
    (raise : Raise) × IsRefilled tx_side rx_side (standing_with_reserved old reserving) new (Some raise)
StandsRefilled tx_side rx_side old reserving (Err refill.Disk) new =
    ((raise : Raise) × (reserving ≡ Some raise) × (new ≡ old))
    ⊎ ((raise : Raise) × IsRefilled tx_side rx_side (standing_with_reserved old reserving) new (Some raise))
StandsRefilled tx_side rx_side old reserving (Err fault) new = new ≡ old

-- the next packet numbers, as ceilings: below them numbers were used, and from them on none
abbrev pub next_ceilings : State → Ceilings
next_ceilings s = record {
  tx = s.next;
  rx = λ sci an. option_map (λ (n : Numbers). n.next) (s.numbers sci an);
}

-- The standing after a rest with this answer: a reservation under way is finished first; then each ceiling is the next
-- packet number, or stays
abbrev pub StandsRested : State → Standing → Option Raise → Result (Unit {0}) RestFault → Standing → Type 0
StandsRested s old reserving (Ok done) new = new ≡ record old { ceilings = next_ceilings s }
StandsRested s old reserving (Err rest.GenerationsSpent) new = new ≡ standing_with_reserved old reserving
StandsRested s old reserving (Err rest.Disk) new = (new ≡ old) ⊎ (new ≡ standing_with_reserved old reserving)
StandsRested s old reserving (Err fault) new = new ≡ old

-- the standing after a step with this answer: the reservation under way is done, or a command took effect, or nothing
-- changed
abbrev pub StandsAdvanced : Standing → Option Raise → Option Command → Result Progress StepFault → Standing → Type 0
StandsAdvanced old reserving made (Ok Reserved) new = (raise : Raise) × (reserving ≡ Some raise)
    × (new ≡ standing_with_raise old raise)
StandsAdvanced old reserving made result new = StandsAfter made old new

-- the standing, including its ceilings, after a call of an endpoint in this state with this reservation under way
abbrev pub CeilingsAfter : State → Standing → Option Raise → Call → Reply → Standing → Type 0
CeilingsAfter s old reserving (Commands command) (Ran result) new = StandsRan old reserving command result new
CeilingsAfter s old reserving Refills (Refilled result) new =
    StandsRefilled (tx_side s) (rx_side s) old reserving result new
CeilingsAfter s old reserving Rests (Rested result) new = StandsRested s old reserving result new
CeilingsAfter s old reserving Advances (Advanced result) new =
    StandsAdvanced old reserving (command_made s Advances (Advanced result)) result new
CeilingsAfter s old reserving call reply new = new ≡ old
