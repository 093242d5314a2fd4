-- A step that answers Idle: no work is under way, no command waits, and no ceiling is to be raised.
use Rattle.std.proofs.Common.{◌≡◌, ◌⊎◌, inl, inr, false, Option, Some, None, Ok, refl}
use Rattle.macs_disk.specs.Disk.{Disk}
use Rattle.macs_store.specs.Value.{IsIdle}
use Rattle.macs_store.specs.UnderWay.{Appending, UnderWay, Nothing, Compacting}
use Rattle.macs_endpoint.specs.Advancing.{BeginsWith, Due, ToKeep, ToRaise, next_due, due_among}
use Rattle.macs_endpoint.specs.Calls.{IsCall}
use Rattle.macs_endpoint.specs.Ceilings.{Raise}
use Rattle.macs_endpoint.specs.Needed.{raise_in}
use Rattle.macs_endpoint.specs.Queue.{first_waiting}
use Rattle.macs_endpoint.specs.State.{Advanced, Advances, no_logs}
use Rattle.macs_endpoint.specs.Value.{EndpointValue, is_stopped}
use Rattle.macs_endpoint.specs.declared.progress.Step.TheVariants.{Idle}
use Rattle.macs_endpoint.specs.declared.queue.Waiting.{Waiting}
use Rattle.macs_endpoint.specs.declared.turn.Turn.{Turn}
use Rattle.macs_endpoint.specs.declared.turn.Turn.TheVariants as turn

-- work is under way, or none is
pub under_way_or_not : (under_way : UnderWay) → (under_way ≡ Nothing) ⊎ (¬ (under_way ≡ Nothing))
under_way_or_not Nothing = inl refl
under_way_or_not (Compacting r) = inr (λ is. cc)
under_way_or_not (Appending r) = inr (λ is. cc)

-- where nothing is due none is needed
no_raise : (whose : Turn) (o : Option Raise) (w : Option Waiting) → due_among whose o w ≡ None → o ≡ None
no_raise whose None w is = refl
no_raise whose (Some raise) None is = absurd cc
no_raise turn.Reservation (Some raise) (Some first) is = absurd cc
no_raise turn.Command (Some raise) (Some first) is = absurd cc

module _ {D : Type 0} (disk_of : D → Disk) (old new : EndpointValue D)
    (call : IsCall disk_of old Advances (Advanced (Ok Idle)) new) where
  begins_none : (due : Option Due) → BeginsWith old due (Ok Idle) new → (due ≡ None) × (new ≡ old)
  begins_none None begins = (refl, begins)
  begins_none (Some (ToRaise raise)) begins = absurd begins
  begins_none (Some (ToKeep first)) begins = absurd begins

  running : is_stopped old ≡ false
  running = elim (call.behaves.step no_logs).1 [
    | inl stopped ↦ absurd stopped.1
    | inr runs ↦ runs.0
  ]

  -- what it says of the endpoint
  pub idle-step : (new ≡ old) × (raise_in old ≡ None) × IsIdle old.store
  idle-step = elim (under_way_or_not old.store.under_way) [
    | inl idle ↦
        let none = begins_none (next_due old) ((call.behaves.advances running).begins idle) in
        (none.1, no_raise old.turn (raise_in old) (first_waiting old.waiting) none.0, idle)
    | inr busy ↦ absurd ((call.behaves.advances running).goes_on busy)
  ]
