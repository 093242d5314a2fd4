-- Frames between two wires through an endpoint, both ways, turn by turn.
use Rattle.std.specs.Prelude.{◌≡◌, ◌⊎◌, ◌<◌, ◌+◌, ℕ, zero, suc, if◌then◌else◌, List, Option, Some, None, IfOk, Result}
use Rattle.std.specs.Prelude.{Ok, Err}
use Rattle.macs_disk.specs.Disk.{Disk}
use Rattle.macs_endpoint.specs.Calls.{IsCall, IsStep}
use Rattle.macs_endpoint.specs.Faults.{refill_fault_named}
use Rattle.macs_endpoint.specs.Halves.{Awaits}
use Rattle.macs_endpoint.specs.State.{Reply}
use Rattle.macs_endpoint.specs.Step.{IsStopped}
use Rattle.macs_endpoint.specs.Value.{EndpointValue, IsSoundEndpoint}
use Rattle.macs_endpoint.specs.declared.fault.RefillFault.{RefillFault}
use Rattle.macs_endpoint.specs.declared.fault.StepFault.{StepFault}
use Rattle.macs_endpoint.specs.declared.progress.Step.{Step as Progress}
use Rattle.macs_edge.specs.Settling.{Settles, Waits, call_on}
use Rattle.macs_edge.specs.Wires.{Receives, Sends, WireState, saturated}
use Rattle.macs_edge.specs.declared.relaying.Lane.{Lane}
use Rattle.macs_edge.specs.declared.relaying.RelaySummary.{RelaySummary}
use Rattle.macs_edge.specs.declared.relaying.Tally.{Tally}
use Rattle.macs_edge.specs.declared.settling.Side.{Side}
use Rattle.macs_edge.specs.declared.settling.Side.TheVariants.{Controlled, Common}
use Rattle.macs_edge.specs.declared.wire.Got.{Got}
use Rattle.macs_edge.specs.declared.wire.Got.TheVariants.{Nothing, Frame, TooLong}
use Rattle.macs_edge.specs.declared.wire.WireFault.{WireFault}

-- ---- counters

-- one more frame passed
abbrev pub one_passed : Tally → Tally
one_passed tally = record tally { passed = saturated (tally.passed + 1) }

-- one more frame was dropped
abbrev pub one_dropped : Tally → Tally
one_dropped tally = record tally { dropped = saturated (tally.dropped + 1) }

-- one more failed call of a wire
abbrev pub one_fault : Tally → Tally
one_fault tally = record tally { faults = saturated (tally.faults + 1) }

-- ---- one way

-- the waiting frame of one direction, and what became of those before it
pub record LaneValue : Type 0 where
  pub waiting : Option (List ℕ)
  pub tally : Tally

-- the contents of a lane: a frame if it is full
abbrev pub lane_value : Lane → LaneValue
lane_value lane = record { waiting = if lane.is_full then Some lane.frame.items else None; tally = lane.tally }

-- a lane that has taken no frame
abbrev pub empty_lane : LaneValue
empty_lane = record { waiting = None; tally = record { passed = 0; dropped = 0; faults = 0 } }

-- the effect of a wire's answer on an empty lane
abbrev pub filled : Result Got WireFault → List ℕ → LaneValue → LaneValue
filled (Ok Frame) frame lane = record lane { waiting = Some frame }
filled (Ok Nothing) frame lane = lane
filled (Ok TooLong) frame lane = record lane { tally = one_dropped lane.tally }
filled (Err fault) frame lane = record lane { tally = one_fault lane.tally }

-- the first frame of a wire is taken if the lane is empty; a wire is not asked if it is full
abbrev pub FillsWaiting : Option (List ℕ) → WireState → LaneValue → WireState → LaneValue → Type 0
FillsWaiting (Some frame) from lane from' lane' = (from' ≡ from) × (lane' ≡ lane)
FillsWaiting None from lane from' lane' =
    (answer : Result Got WireFault) × (frame : List ℕ) × Receives from answer frame from'
    × (lane' ≡ filled answer frame lane)

-- the same for the lane of a way
abbrev pub Fills : WireState → LaneValue → WireState → LaneValue → Type 0
Fills from lane from' lane' = FillsWaiting lane.waiting from lane from' lane'

-- how a wire's answer to a frame that passes is counted
abbrev pub forwarded : Result (Unit {0}) WireFault → Tally → Tally
forwarded (Ok done) tally = one_passed tally
forwarded (Err fault) tally = one_fault tally

-- a frame that passes is sent, once
abbrev pub Forwards : WireState → List ℕ → Tally → WireState → Tally → Type 0
Forwards to frame tally to' tally' =
    (answer : Result (Unit {0}) WireFault) × Sends to frame answer to' × (tally' ≡ forwarded answer tally)

-- an endpoint between the wire that frames come from and the one that they go to
pub record Way (D : Type 0) : Type 0 where
  pub endpoint : EndpointValue D
  pub from : WireState
  pub to : WireState
  pub lane : LaneValue

-- a way from its parts
abbrev pub way_of : {D : Type 0} → EndpointValue D → WireState → WireState → LaneValue → Way D
way_of endpoint from to lane = record { endpoint = endpoint; from = from; to = to; lane = lane }

-- What becomes of a frame that was submitted: it passes and is sent; it is left out; or it stays in the lane, since it
-- waits for packet numbers or the endpoint is stopped
abbrev pub Becomes : {D : Type 0} → Side → List ℕ → Reply → Way D → Way D → Type 0
Becomes side frame reply old new =
    ((passed : List ℕ) × Settles reply (Some passed) × (new.lane.waiting ≡ None)
    × Forwards old.to passed old.lane.tally new.to new.lane.tally)
    ⊎ (Settles reply None × (new.lane.waiting ≡ None) × (new.lane.tally ≡ one_dropped old.lane.tally)
    × (new.to ≡ old.to))
    ⊎ ((Waits reply ⊎ IsStopped (call_on side frame) reply) × (new.lane ≡ old.lane) × (new.to ≡ old.to))

-- the frame of a full lane is submitted
abbrev pub HandsWaiting : {D : Type 0} → (D → Disk) → Side → Option (List ℕ) → Way D → Way D → Type 0
HandsWaiting disk_of side None old new = new ≡ old
HandsWaiting disk_of side (Some frame) old new =
    (reply : Reply) × IsSoundEndpoint old.endpoint × IsCall disk_of old.endpoint (call_on side frame) reply new.endpoint
    × (new.from ≡ old.from) × Becomes side frame reply old new

-- the same for the lane of a way
abbrev pub HandsOver : {D : Type 0} → (D → Disk) → Side → Way D → Way D → Type 0
HandsOver disk_of side old new = HandsWaiting disk_of side old.lane.waiting old new

-- One way in one turn: an empty lane is filled, if the wire has a frame; then the frame of a full one is submitted
abbrev pub Carries : {D : Type 0} → (D → Disk) → Side → Way D → Way D → Type 0
Carries disk_of side old new = (from : WireState) × (lane : LaneValue)
    × Fills old.from old.lane from lane × HandsOver disk_of side (way_of old.endpoint from old.to lane) new

-- ---- both ways

-- an endpoint between two wires
pub record Relay (D : Type 0) : Type 0 where
  pub endpoint : EndpointValue D
  pub controlled : WireState
  pub common : WireState
  pub to_common : LaneValue
  pub to_controlled : LaneValue

-- the two ways from their parts
abbrev pub relay_of : {D : Type 0} → EndpointValue D → WireState → WireState → LaneValue → LaneValue → Relay D
relay_of endpoint controlled common to_common to_controlled =
    record {
      endpoint = endpoint;
      controlled = controlled;
      common = common;
      to_common = to_common;
      to_controlled =
          to_controlled;
    }

-- plain frames one way, and then frames from the common side the other way
abbrev pub CarriesBoth : {D : Type 0} → (D → Disk) → Relay D → Relay D → Type 0
CarriesBoth {D} disk_of old new = (endpoint : EndpointValue D) × (controlled : WireState) × (common : WireState)
    × Carries disk_of Controlled (way_of old.endpoint old.controlled old.common old.to_common)
    (way_of endpoint controlled common new.to_common)
    × Carries disk_of Common (way_of endpoint common controlled old.to_controlled)
    (way_of new.endpoint new.common new.controlled new.to_controlled)

-- the disk work of a turn: a step, or none while a device call of the work under way has no answer
abbrev pub Progresses : {D : Type 0} → (D → Disk) → EndpointValue D → Result (Option Progress) StepFault
    → EndpointValue D → Type 0
Progresses disk_of old (Ok (Some step)) new = IsStep disk_of old (Ok step) new
Progresses disk_of old (Ok None) new = Awaits disk_of old new
Progresses disk_of old (Err fault) new = IsStep disk_of old (Err fault) new

-- a turn, with the answer of its step, if it has one
abbrev pub TakesTurn : {D : Type 0} → (D → Disk) → Result (Option Progress) StepFault → Relay D → Relay D → Type 0
TakesTurn {D} disk_of answer old new = (endpoint : EndpointValue D)
    × CarriesBoth disk_of old (record new { endpoint = endpoint })
    × IsSoundEndpoint endpoint × Progresses disk_of endpoint answer new.endpoint

-- this many turns, of which no step is answered with a fault
abbrev pub TakesTurns : {D : Type 0} → (D → Disk) → ℕ → Relay D → Relay D → Type 0
TakesTurns disk_of zero old new = new ≡ old
TakesTurns {D} disk_of (suc turns) old new = (between : Relay D) × (progress : Option Progress)
    × TakesTurns disk_of turns old between × TakesTurn disk_of (Ok progress) between new

-- ---- a run

-- how many frames are left in a lane
abbrev pub one_left : Option (List ℕ) → ℕ
one_left None = 0
one_left (Some frame) = 1

-- what became of the frames of both ways: a frame that is left in a lane counts as dropped
abbrev pub summary_of : LaneValue → LaneValue → RelaySummary
summary_of to_common to_controlled = record {
  sent = to_common.tally.passed;
  delivered = to_controlled.tally.passed;
  dropped = saturated (to_common.tally.dropped + to_controlled.tally.dropped + one_left to_common.waiting
      + one_left to_controlled.waiting);
  faults = saturated (to_common.tally.faults + to_controlled.tally.faults);
}

-- All turns are taken; or the step of one of them is answered with the fault with that name, and it is the last one
abbrev pub Relays : {D : Type 0} {T : Type 0} → (D → Disk) → ℕ → Relay D → Result T RefillFault → Relay D → Type 0
Relays disk_of turns old (Ok summary) new = TakesTurns disk_of turns old new
Relays {D} disk_of turns old (Err fault) new =
    (done : ℕ) × (between : Relay D) × (at : StepFault) × (fault ≡ refill_fault_named at)
    × (done < turns) × TakesTurns disk_of done old between × TakesTurn disk_of (Err at) between new

-- a relay, and its result
abbrev pub IsRelayed : {D : Type 0} → (D → Disk) → ℕ → Relay D → Result RelaySummary RefillFault → EndpointValue D
    → WireState → WireState → Type 0
IsRelayed {D} disk_of turns old result endpoint controlled common = (to_common : LaneValue)
    × (to_controlled : LaneValue)
    × Relays disk_of turns old result (relay_of endpoint controlled common to_common to_controlled)
    × IfOk result (λ summary. summary ≡ summary_of to_common to_controlled)
