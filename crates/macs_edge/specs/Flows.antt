-- A relay sends what the endpoint gave, except for failed sends; and what becomes of every frame that it takes.
use Rattle.std.specs.Prelude.{◌≡◌, ◌⊎◌, ◌+◌, ◌++◌, if◌then◌else◌, ◌∷◌, ◌≤◌, ⊤, ℕ, Bool, true, false, List, [], length}
use Rattle.std.specs.Prelude.{Option, Some, None, Ok, Result, OnErr, OnOk}
use Rattle.std.specs.Option.{option_map}
use Rattle.macs_disk.specs.Disk.{Disk}
use Rattle.macs_rxsc.specs.declared.verdict.Verdict.TheVariants.{Delivered}
use Rattle.macs_endpoint.specs.Lives.{Lives, Transition}
use Rattle.macs_endpoint.specs.State.{Call, Protected, Protects, Received, Receives, Reply}
use Rattle.macs_endpoint.specs.WorkThroughCalls.{steps_made}
use Rattle.macs_endpoint.specs.declared.fault.RefillFault.{RefillFault}
use Rattle.macs_edge.specs.Relaying.{LaneValue, Relay, one_left, summary_of}
use Rattle.macs_edge.specs.Wires.{WireState, saturated}
use Rattle.macs_edge.specs.declared.relaying.RelaySummary.{RelaySummary}
use Rattle.macs_edge.specs.declared.settling.Side.{Side}
use Rattle.macs_edge.specs.declared.settling.Side.TheVariants.{Controlled, Common}

-- whether a call submits a frame on this side
abbrev pub is_on : Side → Call → Bool
is_on Controlled (Protects frame) = true
is_on Common (Receives frame) = true
is_on side call = false

-- the frame in an answer: one that is protected, or one that is delivered
abbrev pub given_by : Reply → List (List ℕ)
given_by (Protected (Ok pn) out) = out ∷ []
given_by (Received (Ok (Delivered kind)) out) = out ∷ []
given_by reply = []

-- what a call gives on this side
abbrev pub given_at : {D : Type 0} → Side → Transition D → List (List ℕ)
given_at side turn = if is_on side turn.call then given_by turn.reply else []

-- all that was given on this side, in order
abbrev pub given : {D : Type 0} → Side → List (Transition D) → List (List ℕ)
given side [] = []
given side (turn ∷ turns) = given_at side turn ++ given side turns

-- these are all of them, in order, except for this many
abbrev pub AllBut : ℕ → List (List ℕ) → List (List ℕ) → Type 0
AllBut lost [] frames = (frames ≡ []) × (lost ≡ 0)
AllBut lost (frame ∷ all) frames =
    ((rest : List (List ℕ)) × (frames ≡ frame ∷ rest) × AllBut lost all rest)
    ⊎ ((fewer : ℕ) × (lost ≡ fewer + 1) × AllBut fewer all frames)

-- this many frames were taken off the front of those waiting, if these are known
abbrev pub TakenOff : Option (List (List ℕ)) → Option (List (List ℕ)) → ℕ → Type 0
TakenOff (Some before) (Some after) taken = (frames : List (List ℕ)) × (before ≡ frames ++ after)
    × (length frames ≡ taken)
TakenOff None None taken = ⊤
TakenOff before after taken = ⊥

-- what was taken from a wire: `taken` frames, while `missed` receives failed
pub record Took (old new : WireState) (taken missed : ℕ) : Type 0 where
  pub frames : TakenOff old.waiting new.waiting taken
  pub failed : saturated new.failed_receives ≡ saturated (old.failed_receives + missed)

-- what was sent on a wire: all that was given, except for as many frames as its failed sends increased by
pub record Sent (old new : WireState) (all frames : List (List ℕ)) (lost : ℕ) : Type 0 where
  pub gained : new.sent ≡ option_map (λ before. before ++ frames) old.sent
  pub all_but : AllBut lost all frames
  pub failed : saturated new.failed_sends ≡ saturated (old.failed_sends + lost)

-- What became of the frames that were taken one way: they were sent, lost or left out, or the last one is still in the
-- lane. The counters have these numbers, up to the maximum
pub record Became (taken missed sent lost left_out : ℕ) (lane : LaneValue) : Type 0 where
  pub all : taken ≡ sent + lost + left_out + one_left lane.waiting
  pub passed : lane.tally.passed ≡ saturated sent
  pub dropped : lane.tally.dropped ≡ saturated left_out
  pub faults : lane.tally.faults ≡ saturated (missed + lost)

-- one way: from one wire to another, through what the endpoint gave
pub record Flow (from from' to to' : WireState) (all : List (List ℕ)) (lane : LaneValue) : Type 0 where
  pub taken : ℕ
  pub missed : ℕ
  pub frames : List (List ℕ)
  pub lost : ℕ
  pub left_out : ℕ
  pub took : Took from from' taken missed
  pub sent : Sent to to' all frames lost
  pub became : Became taken missed (length frames) lost left_out lane

-- Both ways: the calls of the endpoint, one after another, and what flows each way. The summary has what each wire
-- gained, as far as its counters go; its faults are the failed calls of both wires, and its dropped frames are all
-- others that were taken
pub record IsFlow {D : Type 0} (disk_of : D → Disk) (old new : Relay D) (summary : RelaySummary) : Type 0 where
  pub calls : List (Transition D)
  pub lives : Lives disk_of old.endpoint calls new.endpoint
  pub out : Flow old.controlled new.controlled old.common new.common (given Controlled calls) new.to_common
  pub back : Flow old.common new.common old.controlled new.controlled (given Common calls) new.to_controlled
  pub sent : summary.sent ≡ saturated (length out.frames)
  pub delivered : summary.delivered ≡ saturated (length back.frames)
  pub faults : summary.faults ≡ saturated (out.missed + out.lost + back.missed + back.lost)
  pub others : ℕ
  pub dropped : summary.dropped ≡ saturated others
  pub all : out.taken + back.taken ≡ length out.frames + length back.frames + out.lost + back.lost + others

-- ---- steps and turns

-- each disk of this type is prompt
abbrev pub ArePrompt : {D : Type 0} → (D → Disk) → Type 0
ArePrompt {D} disk_of = (device : D) → (disk_of device).prompt ≡ true

-- A relay that starts with empty lanes is a flow with at most one step per turn.
abbrev pub FlowsWithin : {D : Type 0} → (D → Disk) → ℕ → Relay D → Relay D → Type 0
FlowsWithin disk_of turns old new = (flow : IsFlow disk_of old new (summary_of new.to_common new.to_controlled))
    × (steps_made flow.calls ≤ turns)

-- A relay that starts with empty lanes is a flow with one step per turn: as many steps as turns if its result is Ok,
-- and at most as many if a step is answered with a fault.
abbrev pub FlowsInTurns : {D : Type 0} → (D → Disk) → ℕ → Relay D → Result RelaySummary RefillFault → Relay D → Type 0
FlowsInTurns disk_of turns old result new = (flow : IsFlow disk_of old new (summary_of new.to_common new.to_controlled))
    × OnOk result (steps_made flow.calls ≡ turns) × OnErr result (steps_made flow.calls ≤ turns)
