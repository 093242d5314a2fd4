-- Calls of an endpoint, one after another.
use Rattle.std.specs.Prelude.{◌≡◌, ◌⊎◌, ℕ, List, [], ◌∷◌}
use Rattle.macs_disk.specs.Disk.{Disk, LeftSince}
use Rattle.macs_disk.specs.States.{Image}
use Rattle.macs_endpoint.specs.Calls.{IsCall}
use Rattle.macs_endpoint.specs.Value.{IsSoundEndpoint, EndpointValue, disk_in, state_of}
use Rattle.macs_endpoint.specs.Restart.{Fits, state_during}
use Rattle.macs_endpoint.specs.State.{Call, Reply, no_logs}
use Rattle.macs_endpoint.specs.Step.{Exchange}

-- a call with its answer, and the endpoint afterwards
pub record Transition (D : Type 0) : Type 0 where
  pub call : Call
  pub reply : Reply
  pub after : EndpointValue D

-- a call and its answer, without the endpoint after them
abbrev pub exchange_of : {D : Type 0} → Transition D → Exchange
exchange_of turn = record { call = turn.call; reply = turn.reply }

-- these calls lead from old to new, and before each the endpoint is sound
abbrev pub Lives : {D : Type 0} → (D → Disk) → EndpointValue D → List (Transition D) → EndpointValue D → Type 0
Lives disk_of old [] new = new ≡ old
Lives disk_of old (turn ∷ turns) new =
    IsSoundEndpoint old × IsCall disk_of old turn.call turn.reply turn.after × Lives disk_of turn.after turns new

-- some calls lead from old to new: what the endpoint's owner needs to continue
abbrev pub LivesOn : {D : Type 0} → (D → Disk) → EndpointValue D → EndpointValue D → Type 0
LivesOn {D} disk_of old new = (turns : List (Transition D)) × Lives disk_of old turns new

-- an image fits the state before one of these calls, with its command under way, or the one after the last
abbrev pub FitsLife : {D : Type 0} → ℕ → EndpointValue D → List (Transition D) → Image → Type 0
FitsLife sectors e [] image = Fits (state_of e no_logs).edition sectors image (state_of e no_logs)
FitsLife sectors e (turn ∷ turns) image =
    Fits (state_of e no_logs).edition sectors image (state_during (state_of e no_logs) turn.call)
    ⊎ FitsLife sectors turn.after turns image

-- After each of these calls was answered, on a disk that is finally `final`, a power loss at any moment leaves an image
-- that fits the state after the call or a later one, with at most one command under way
abbrev pub LeavesLife : {D : Type 0} → (D → Disk) → Disk → EndpointValue D → List (Transition D) → Type 0
LeavesLife disk_of final e [] =
    (image : Image) → LeftSince final (disk_in disk_of e).clock image → FitsLife final.sectors e [] image
LeavesLife disk_of final e (turn ∷ turns) =
    ((image : Image) → LeftSince final (disk_in disk_of e).clock image → FitsLife final.sectors e (turn ∷ turns) image)
    × LeavesLife disk_of final turn.after turns
