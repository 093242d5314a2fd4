-- What one step of the pending work does.
use Rattle.std.specs.Prelude.{◌≡◌, ◌≤◌, ◌+◌, ℕ, Option, Some, None, Result, Ok, Err}
use Rattle.macs_config.specs.declared.command.Command.{Command}
use Rattle.macs_disk.specs.Disk.{Disk}
use Rattle.macs_store.specs.Keeps.{IsSpent, most_calls}
use Rattle.macs_store.specs.Value.{IsIdle, calls_left}
use Rattle.macs_endpoint.specs.Ceilings.{Raise}
use Rattle.macs_endpoint.specs.Needed.{raise_in}
use Rattle.macs_endpoint.specs.Queue.{first_waiting}
use Rattle.macs_endpoint.specs.State.{Advanced, Advances, Call, Commands, Ran, Refilled, Refills, Reply, Rested, Rests}
use Rattle.macs_endpoint.specs.Value.{EndpointValue, disk_in}
use Rattle.macs_endpoint.specs.declared.fault.CommandFault.TheVariants as ran
use Rattle.macs_endpoint.specs.declared.fault.RefillFault.TheVariants as refill
use Rattle.macs_endpoint.specs.declared.fault.RestFault.TheVariants as rest
use Rattle.macs_endpoint.specs.declared.fault.StepFault.{StepFault}
use Rattle.macs_endpoint.specs.declared.fault.StepFault.TheVariants as step
use Rattle.macs_endpoint.specs.declared.progress.Step.{Step as Progress}
use Rattle.macs_endpoint.specs.declared.progress.Step.TheVariants.{Done, Idle, Reserved, Worked}
use Rattle.macs_endpoint.specs.declared.queue.Waiting.{Waiting}
use Rattle.macs_endpoint.specs.declared.turn.Turn.{Turn}
use Rattle.macs_endpoint.specs.declared.turn.Turn.TheVariants as turn

-- ---- turns

-- what is due: to raise a ceiling, or to keep the first pending command
pub data Due : Type 0 where
  ToRaise : Raise → Due
  ToKeep : Waiting → Due

-- which one begins if a ceiling is needed and a command is pending
abbrev pub due_by_turn : Turn → Raise → Waiting → Due
due_by_turn turn.Reservation raise first = ToRaise raise
due_by_turn turn.Command raise first = ToKeep first

-- which one begins, if any: if there is only one of the two, that one
abbrev pub due_among : Turn → Option Raise → Option Waiting → Option Due
due_among whose None None = None
due_among whose (Some raise) None = Some (ToRaise raise)
due_among whose None (Some first) = Some (ToKeep first)
due_among whose (Some raise) (Some first) = Some (due_by_turn whose raise first)

-- which one begins in an endpoint
abbrev pub next_due : {D : Type 0} → EndpointValue D → Option Due
next_due e = due_among e.turn (raise_in e) (first_waiting e.waiting)

-- whose turn it is after a step: a reservation that is done, or that the journal has no room for, passes the turn to a
-- command; a command that is done, refused or not, to a reservation
abbrev pub turn_after_step : Turn → Result Progress StepFault → Turn
turn_after_step whose (Ok Reserved) = turn.Command
turn_after_step whose (Ok (Done ticket result)) = turn.Reservation
turn_after_step whose (Err step.GenerationsSpent) = turn.Command
turn_after_step whose result = whose

-- whose turn it is after a refill or a rest that finished the reservation under way
abbrev pub turn_after_refill : Turn → Option Raise → Turn
turn_after_refill whose None = whose
turn_after_refill whose (Some raise) = turn.Command

-- whose turn it is after any call. A command that does not wait uses a turn just like one that waits.
abbrev pub turn_after : {D : Type 0} → EndpointValue D → Call → Reply → Turn
turn_after e (Commands command) (Ran (Err ran.Stopped)) = e.turn
turn_after e (Commands command) (Ran (Err ran.Busy)) = e.turn
turn_after e (Commands command) (Ran result) = turn.Reservation
turn_after e Refills (Refilled (Err refill.Stopped)) = e.turn
turn_after e Refills (Refilled (Err refill.Busy)) = e.turn
turn_after e Refills (Refilled result) = turn_after_refill e.turn e.reserving
turn_after e Rests (Rested (Err rest.Stopped)) = e.turn
turn_after e Rests (Rested (Err rest.Busy)) = e.turn
turn_after e Rests (Rested result) = turn_after_refill e.turn e.reserving
turn_after e Advances (Advanced result) = turn_after_step e.turn result
turn_after e call reply = e.turn

-- ---- a step

-- A step of an endpoint that is running and has no work under way: it is idle if nothing is due; otherwise
-- that begins, with its first device call or before it, or is refused. Whether that call succeeds or fails, a
-- command is under way then, and a reservation leaves none under way.
abbrev pub BeginsWith : {D : Type 0} → EndpointValue D → Option Due → Result Progress StepFault
    → EndpointValue D → Type 0
BeginsWith old None (Ok Idle) new = new ≡ old
BeginsWith old (Some (ToRaise raise)) (Ok Worked) new =
    (new.reserving ≡ Some raise) × (calls_left new.store ≤ most_calls old.store) × (new.under_way ≡ None)
BeginsWith old (Some (ToRaise raise)) (Err step.GenerationsSpent) new = IsSpent old.store
BeginsWith old (Some (ToRaise raise)) (Err step.Disk) new = new.under_way ≡ None
BeginsWith old (Some (ToKeep first)) (Ok Worked) new = (new.under_way ≡ Some first.command)
    × (calls_left new.store ≤ most_calls old.store)
BeginsWith old (Some (ToKeep first)) (Ok (Done ticket (Err (ran.Refused refusal)))) new = Unit {0}
BeginsWith old (Some (ToKeep first)) (Ok (Done ticket (Err ran.GenerationsSpent))) new = IsSpent old.store
BeginsWith old (Some (ToKeep first)) (Err step.Disk) new = new.under_way ≡ Some first.command
BeginsWith old due result new = ⊥

-- A step of an endpoint with work under way: the next device call of that work, which continues, with fewer calls left,
-- or is done with the last. If the call fails a command under way stays so.
abbrev pub GoesOn : {D : Type 0} → EndpointValue D → Result Progress StepFault → EndpointValue D → Type 0
GoesOn old (Ok Worked) new =
    (new.reserving ≡ old.reserving) × (new.under_way ≡ old.under_way) × (¬ IsIdle new.store)
    × (calls_left new.store + 1 ≤ calls_left old.store)
GoesOn old (Ok Reserved) new = ((raise : Raise) × (old.reserving ≡ Some raise)) × IsIdle new.store
    × (calls_left old.store ≡ 1)
GoesOn old (Ok (Done ticket (Ok done))) new = ((command : Command) × (old.under_way ≡ Some command)) × IsIdle new.store
    × (calls_left old.store ≡ 1)
GoesOn old (Err step.Disk) new = new.under_way ≡ old.under_way
GoesOn old result new = ⊥

-- how far the clock of the disk advances in a step with this answer, of an endpoint with work under way: by one if the
-- work continued or was done, otherwise by at most one
abbrev pub ClockAfter : ℕ → Result Progress StepFault → ℕ → Type 0
ClockAfter old (Ok Worked) new = new ≡ old + 1
ClockAfter old (Ok Reserved) new = new ≡ old + 1
ClockAfter old (Ok (Done ticket (Ok done))) new = new ≡ old + 1
ClockAfter old result new = new ≤ old + 1

-- what a step of a running endpoint does, or the first part of one, which begins work and makes no device call
pub record AdvancesAs {D : Type 0} (disk_of : D → Disk) (old : EndpointValue D) (result : Result Progress StepFault)
    (new : EndpointValue D) : Type 0 where
  pub begins : IsIdle old.store → BeginsWith old (next_due old) result new
  pub goes_on : (¬ IsIdle old.store) → GoesOn old result new
  pub one : (disk_in disk_of new).clock ≤ (disk_in disk_of old).clock + 1
  pub clock : (¬ IsIdle old.store) → ClockAfter (disk_in disk_of old).clock result (disk_in disk_of new).clock

-- a step that begins work makes its first device call at once
abbrev pub CallsAtOnce : {D : Type 0} → (D → Disk) → EndpointValue D → Result Progress StepFault → EndpointValue D
    → Type 0
CallsAtOnce disk_of old (Ok Worked) new = ((disk_in disk_of new).clock ≡ (disk_in disk_of old).clock + 1)
    × (IsIdle old.store → calls_left new.store + 1 ≤ most_calls old.store)
CallsAtOnce disk_of old result new = Unit {0}
