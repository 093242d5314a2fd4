-- A relay that a desk attends: what the desk orders before each turn, and what is reported to it about its commands.
use Rattle.std.specs.Prelude.{◌≡◌, ◌⊎◌, ◌↔◌, ◌<◌, ◌++◌, ℕ, zero, suc, Bool, true, false, IsTrue, List, [], ◌∷◌, map}
use Rattle.std.specs.Prelude.{IfOk, Option, Some, Result, Ok, Err}
use Rattle.macs_disk.specs.Disk.{Disk}
use Rattle.macs_endpoint.specs.Calls.{IsCall}
use Rattle.macs_endpoint.specs.Faults.{refill_fault_named}
use Rattle.macs_endpoint.specs.State.{Submits, Submitted}
use Rattle.macs_endpoint.specs.Value.{EndpointValue, IsSoundEndpoint}
use Rattle.macs_endpoint.specs.declared.fault.RefillFault.{RefillFault}
use Rattle.macs_endpoint.specs.declared.fault.StepFault.{StepFault}
use Rattle.macs_endpoint.specs.declared.fault.SubmitFault.{SubmitFault}
use Rattle.macs_endpoint.specs.declared.progress.Step.{Step as Progress}
use Rattle.macs_endpoint.specs.declared.progress.Step.TheVariants as step
use Rattle.macs_endpoint.specs.declared.queue.Waiting.{Waiting}
use Rattle.macs_edge.specs.Relaying.{LaneValue, Relay, TakesTurn, relay_of, summary_of}
use Rattle.macs_edge.specs.Resting.{IsQuiet}
use Rattle.macs_edge.specs.Wires.{WireState}
use Rattle.macs_edge.specs.declared.attending.CommandEnd.TheVariants as end
use Rattle.macs_edge.specs.declared.attending.DeskEvent.{DeskEvent}
use Rattle.macs_edge.specs.declared.attending.DeskEvent.TheVariants.{Answered, Rested, Took, Wanted}
use Rattle.macs_edge.specs.declared.attending.Order.{Order}
use Rattle.macs_edge.specs.declared.attending.Order.TheVariants.{Go, Submit, End}
use Rattle.macs_edge.specs.declared.relaying.RelaySummary.{RelaySummary}

-- ---- before a turn

-- a turn follows, unless the desk orders the end
abbrev pub goes_on : Order → Bool
goes_on Go = true
goes_on (Submit command) = true
goes_on End = false

-- The desk's order is carried out, and this is reported to it: a command is submitted, or nothing is done
abbrev pub Does : {D : Type 0} → (D → Disk) → Order → EndpointValue D → List DeskEvent → EndpointValue D → Type 0
Does disk_of (Submit command) old told new = (answer : Result ℕ SubmitFault) × (told ≡ Took answer ∷ [])
    × IsSoundEndpoint old × IsCall disk_of old (Submits command) (Submitted answer) new
Does disk_of order old told new = (told ≡ []) × (new ≡ old)

-- the desk is asked for an order, which is carried out
abbrev pub Obeys : {D : Type 0} → (D → Disk) → Bool → EndpointValue D → List DeskEvent → Bool → EndpointValue D → Type 0
Obeys disk_of was_quiet old events follows new = (order : Order) × (told : List DeskEvent) × (follows ≡ goes_on order)
    × Does disk_of order old told new × (events ≡ Wanted was_quiet order ∷ told)

-- ---- turns

-- what a step reports to the desk: the result of the command that it completes
abbrev pub answers_of : Option Progress → List DeskEvent
answers_of (Some (step.Done ticket result)) = Answered ticket (end.Done result) ∷ []
answers_of progress = []

-- a turn, with what is done before it and what it reports
abbrev pub TakesAttended : {D : Type 0} → (D → Disk) → Bool → Relay D → List DeskEvent → Option Progress → Relay D
    → Type 0
TakesAttended {D} disk_of was_quiet old events progress new = (before : List DeskEvent) × (endpoint : EndpointValue D)
    × Obeys disk_of was_quiet old.endpoint before true endpoint
    × TakesTurn disk_of (Ok progress) (record old { endpoint = endpoint }) new
    × (events ≡ before ++ answers_of progress)

-- the desk rests once after a quiet turn
abbrev pub rests_after : Bool → List DeskEvent
rests_after true = Rested ∷ []
rests_after false = []

-- this many of these, each with the rest after it, and whether the last one was quiet: before the first it was not
abbrev pub TakesAllAttended : {D : Type 0} → (D → Disk) → ℕ → Relay D → List DeskEvent → Bool → Relay D → Type 0
TakesAllAttended disk_of zero old events quiet new = (events ≡ []) × (quiet ≡ false) × (new ≡ old)
TakesAllAttended {D} disk_of (suc turns) old events quiet new = (between : Relay D) × (earlier : List DeskEvent)
    × (was_quiet : Bool)
    × (last : List DeskEvent) × (progress : Option Progress)
    × TakesAllAttended disk_of turns old earlier was_quiet between
    × TakesAttended disk_of was_quiet between last progress new
    × (IsTrue quiet ↔ IsQuiet progress between new) × (events ≡ earlier ++ last ++ rests_after quiet)

-- ---- the end

-- all turns were taken; or the desk ordered the end before the next one
abbrev pub EndsAt : ℕ → ℕ → Bool → List DeskEvent → List DeskEvent → Type 0
EndsAt turns taken quiet earlier events = ((taken ≡ turns) × (events ≡ earlier))
    ⊎ ((taken < turns) × (events ≡ earlier ++ Wanted quiet End ∷ []))

-- turns are taken up to the end; or the step of one of them is refused, and it is the last one
abbrev pub AttendsTurns : {D : Type 0} → (D → Disk) → ℕ → Relay D → List DeskEvent → Result (Unit {0}) StepFault
    → Relay D → Type 0
AttendsTurns disk_of turns old events (Ok done) new = (taken : ℕ) × (earlier : List DeskEvent) × (quiet : Bool)
    × TakesAllAttended disk_of taken old earlier quiet new × EndsAt turns taken quiet earlier events
AttendsTurns {D} disk_of turns old events (Err at) new = (taken : ℕ) × (between : Relay D)
    × (earlier : List DeskEvent) × (quiet : Bool)
    × (last : List DeskEvent) × (endpoint : EndpointValue D) × (taken < turns)
    × TakesAllAttended disk_of taken old earlier quiet between
    × Obeys disk_of quiet between.endpoint last true endpoint
    × TakesTurn disk_of (Err at) (record between { endpoint = endpoint }) new
    × (events ≡ earlier ++ last)

-- the pending commands are answered as failed, in order
abbrev pub failed_of : List Waiting → List DeskEvent
failed_of waiting = map (λ (w : Waiting). Answered w.ticket end.Failed) waiting

-- Turns are taken up to the end, and then the pending commands are answered as failed. A fault has the name of the last
-- step's
abbrev pub Attends : {D : Type 0} {T : Type 0} → (D → Disk) → ℕ → Relay D → List DeskEvent → Result T RefillFault
    → Relay D → Type 0
Attends disk_of turns old events (Ok summary) new =
    (during : List DeskEvent) × AttendsTurns disk_of turns old during (Ok tt) new
    × (events ≡ during ++ failed_of new.endpoint.waiting)
Attends disk_of turns old events (Err fault) new = (during : List DeskEvent) × (at : StepFault)
    × (fault ≡ refill_fault_named at)
    × AttendsTurns disk_of turns old during (Err at) new × (events ≡ during ++ failed_of new.endpoint.waiting)

-- an attended relay, what passed between it and its desk, and its result
abbrev pub IsAttended : {D : Type 0} → (D → Disk) → ℕ → Relay D → List DeskEvent → Result RelaySummary RefillFault
    → EndpointValue D → WireState → WireState → Type 0
IsAttended {D} disk_of turns old events result endpoint controlled common = (to_common : LaneValue)
    × (to_controlled : LaneValue)
    × Attends disk_of turns old events result (relay_of endpoint controlled common to_common to_controlled)
    × IfOk result (λ summary. summary ≡ summary_of to_common to_controlled)
