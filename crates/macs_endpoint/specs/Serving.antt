-- Events taken from a source, and answers given to a sink.
use Rattle.std.specs.Prelude.{◌≡◌, ◌<◌, ◌≤◌, ℕ, Bool, true, false, List, [], ◌∷◌, ◌++◌, map, length, Option, Some, None}
use Rattle.std.specs.Prelude.{Err}
use Rattle.macs_disk.specs.Disk.{Disk, IsHonest}
use Rattle.macs_endpoint.specs.Value.{IsBacked, EndpointValue, disk_in, state_of}
use Rattle.macs_endpoint.specs.Lives.{LeavesLife, Lives, Transition, exchange_of}
use Rattle.macs_endpoint.specs.State.{Advanced, Advances, Call, Logs, Protects, Protected, Ran, Received, Receives}
use Rattle.macs_endpoint.specs.State.{Refilled, Reply, Submits, Submitted}
use Rattle.macs_endpoint.specs.Step.{Steps}
use Rattle.macs_endpoint.specs.declared.event.Answer.{Answer}
use Rattle.macs_endpoint.specs.declared.event.Answer.TheVariants as answer
use Rattle.macs_endpoint.specs.declared.event.Event.{Event}
use Rattle.macs_endpoint.specs.declared.event.Event.TheVariants as event
use Rattle.macs_endpoint.specs.declared.event.ServeEnd.{ServeEnd}
use Rattle.macs_endpoint.specs.declared.event.ServeEnd.TheVariants.{Ended, Halted, TurnsSpent}
use Rattle.macs_endpoint.specs.declared.fault.CommandFault.TheVariants as ran
use Rattle.macs_endpoint.specs.declared.fault.ProtectFault.TheVariants as protect
use Rattle.macs_endpoint.specs.declared.fault.RefillFault.TheVariants as refill
use Rattle.macs_endpoint.specs.declared.fault.StepFault.TheVariants as step
use Rattle.macs_endpoint.specs.declared.fault.SubmitFault.TheVariants as submit

-- the call for an event
abbrev pub call_of : Event → Call
call_of (event.Operator command) = Submits command
call_of (event.Controlled frame) = Protects frame.items
call_of (event.Common frame) = Receives frame.items
call_of event.Work = Advances

-- the reply in an answer
abbrev pub reply_of : Answer → Reply
reply_of (answer.Submitted result) = Submitted result
reply_of (answer.Protected result out) = Protected result out.items
reply_of (answer.Received result out) = Received result out.items
reply_of (answer.Stepped result) = Advanced result
reply_of (answer.Ran result) = Ran result
reply_of (answer.Refilled result) = Refilled result

-- an answer reports that a device call failed, in its call or before
abbrev pub is_halt : Reply → Bool
is_halt (Submitted (Err submit.Stopped)) = true
is_halt (Advanced (Err step.Stopped)) = true
is_halt (Advanced (Err step.Disk)) = true
is_halt (Ran (Err ran.Stopped)) = true
is_halt (Ran (Err ran.Disk)) = true
is_halt (Refilled (Err refill.Stopped)) = true
is_halt (Refilled (Err refill.Disk)) = true
is_halt (Protected (Err protect.Stopped) out) = true
is_halt (Received (Err stopped) out) = true
is_halt reply = false

-- the next of the events that are left, if any
abbrev pub Takes : List Event → Option Event → List Event → Type 0
Takes old None new = (old ≡ []) × (new ≡ [])
Takes old (Some event) new = old ≡ event ∷ new

-- the end is Halted if and only if the last answer reports that a device call failed, and no answer before it does
abbrev pub EndsAs : List Reply → ServeEnd → Type 0
EndsAs [] Halted = ⊥
EndsAs [] end = Unit {0}
EndsAs (reply ∷ []) Halted = is_halt reply ≡ true
EndsAs (reply ∷ replies) end = (is_halt reply ≡ false) × EndsAs replies end

-- the events that a source has left, and the answers that a sink took, if they report them
pub record Told : Type 0 where
  pub source_tells : Bool
  pub left : List Event
  pub sink_tells : Bool
  pub took : List Answer

-- What was served in a maximum number of turns, with what source and sink report before and after: the calls lead from
-- the earlier endpoint to the later one, their answers are a run of the machine, and a power loss at any moment leaves
-- an image that fits one of their states. Ended comes only with a turn left, in which the source had no further event.
pub record IsServed {D : Type 0} (disk_of : D → Disk) (most : ℕ) (old : EndpointValue D) (before : Told)
    (end : ServeEnd) (new : EndpointValue D) (after : Told) : Type 0 where
  pub turns : List (Transition D)
  pub lives : Lives disk_of old turns new
  pub few : length turns ≤ most
  pub run : (logs : Logs) → (later : Logs) × Steps (state_of old logs) (map exchange_of turns) (state_of new later)
  pub any_moment : IsHonest (disk_in disk_of new) → IsBacked disk_of old
      → LeavesLife disk_of (disk_in disk_of new) old turns
  pub backed : IsHonest (disk_in disk_of new) → IsBacked disk_of old → IsBacked disk_of new
  pub source : after.source_tells ≡ before.source_tells
  pub sink : after.sink_tells ≡ before.sink_tells
  pub taken : before.source_tells ≡ true → (events : List Event)
      × (before.left ≡ events ++ after.left) × (map call_of events ≡ map (λ turn. turn.call) turns)
  pub given : before.sink_tells ≡ true → (answers : List Answer)
      × (after.took ≡ before.took ++ answers) × (map reply_of answers ≡ map (λ turn. turn.reply) turns)
  pub ended : end ≡ Ended → (length turns < most) × (before.source_tells ≡ true → after.left ≡ [])
  pub spent : end ≡ TurnsSpent → length turns ≡ most
  pub ends : EndsAs (map (λ turn. turn.reply) turns) end
