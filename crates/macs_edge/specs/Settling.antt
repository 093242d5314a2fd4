-- A frame that is submitted until it is settled.
use Rattle.std.specs.Prelude.{◌≡◌, ℕ, Bool, true, false, List, [], ◌∷◌, Option, Some, None, Result, Ok, Err, ⊤}
use Rattle.macs_disk.specs.Disk.{Disk}
use Rattle.macs_txsc.specs.declared.fault.TxFault.TheVariants.{NoNumber}
use Rattle.macs_rxsc.specs.declared.verdict.Verdict.{Verdict}
use Rattle.macs_rxsc.specs.declared.verdict.Verdict.TheVariants.{Delivered, Discarded, HeldBack}
use Rattle.macs_endpoint.specs.Calls.{IsCall}
use Rattle.macs_endpoint.specs.Lives.{Lives, Transition}
use Rattle.macs_endpoint.specs.State.{Call, Logs, Protects, Protected, Received, Receives, Refilled, Refills, Reply}
use Rattle.macs_endpoint.specs.Step.{IsStopped, Step}
use Rattle.macs_endpoint.specs.Value.{EndpointValue, IsSoundEndpoint, state_of}
use Rattle.macs_endpoint.specs.declared.fault.ProtectFault.TheVariants as protect
use Rattle.macs_endpoint.specs.declared.fault.RefillFault.{RefillFault}
use Rattle.macs_endpoint.specs.declared.fault.RefillFault.TheVariants as refill
use Rattle.macs_edge.specs.declared.settling.Outcome.{Outcome}
use Rattle.macs_edge.specs.declared.settling.Outcome.TheVariants as outcome
use Rattle.macs_edge.specs.declared.settling.Side.{Side}
use Rattle.macs_edge.specs.declared.settling.Side.TheVariants.{Controlled, Common}

-- the call that submits a frame
abbrev pub call_on : Side → List ℕ → Call
call_on Controlled frame = Protects frame
call_on Common frame = Receives frame

-- What passes with an answer: nothing if the frame is left out. An answer that there is no number, that the frame is
-- held back, or that the endpoint is stopped settles nothing
abbrev pub Settles : Reply → Option (List ℕ) → Type 0
Settles (Protected (Ok pn) out) passed = passed ≡ Some out
Settles (Protected (Err (protect.Tx NoNumber)) out) passed = ⊥
Settles (Protected (Err (protect.Tx fault)) out) passed = passed ≡ None
Settles (Received (Ok (Delivered kind)) out) passed = passed ≡ Some out
Settles (Received (Ok (Discarded reason)) out) passed = passed ≡ None
Settles reply passed = ⊥

-- the verdict in an answer, if it has one
abbrev pub verdict_of : Reply → Option Verdict
verdict_of (Received (Ok verdict) out) = Some verdict
verdict_of reply = None

-- the frame waits for a refill
abbrev pub Waits : Reply → Type 0
Waits (Protected (Err (protect.Tx NoNumber)) out) = ⊤
Waits (Received (Ok HeldBack) out) = ⊤
Waits reply = ⊥

-- what an answer means for the submitted frame
abbrev pub Means : Call → Reply → List ℕ → Outcome → Type 0
Means call reply out outcome.Passed = Settles reply (Some out)
Means call reply out outcome.Dropped = Settles reply None
Means call reply out outcome.Waiting = Waits reply
Means call reply out outcome.Stopped = IsStopped call reply

-- A frame is submitted by these calls and finally answered with this: once; or, if it waits, once more after a refill
-- that is answered Ok
abbrev pub HandsIn : {D : Type 0} → Call → List (Transition D) → Reply → Type 0
HandsIn call (only ∷ []) reply = (only.call ≡ call) × (only.reply ≡ reply)
HandsIn call (early ∷ between ∷ late ∷ []) reply =
    (early.call ≡ call) × Waits early.reply
    × (between.call ≡ Refills) × (between.reply ≡ Refilled (Ok tt))
    × (late.call ≡ call) × (late.reply ≡ reply)
HandsIn call turns reply = ⊥

-- The frame is submitted and settled, and all that was done with it is one step of the machine, as if it had never
-- waited
pub record IsSettled {D : Type 0} (disk_of : D → Disk) (old : EndpointValue D) (call : Call) (passed : Option (List ℕ))
    (new : EndpointValue D) : Type 0 where
  pub turns : List (Transition D)
  pub lives : Lives disk_of old turns new
  pub reply : Reply
  pub handed : HandsIn call turns reply
  pub settles : Settles reply passed
  pub step : (logs : Logs) → (after : Logs) × Step (state_of old logs) call reply (state_of new after)

-- it is settled, and this is the verdict of the answer that settles it, if it has one
abbrev pub IsJudged : {D : Type 0} → (D → Disk) → EndpointValue D → Call → Option (List ℕ) → Option Verdict
    → EndpointValue D → Type 0
IsJudged disk_of old call passed verdict new =
    (settled : IsSettled disk_of old call passed new) × (verdict ≡ verdict_of settled.reply)

-- A frame is submitted by these calls and not settled: the one call finds the endpoint stopped; or the frame waits, and
-- the refill after it is answered with this fault
abbrev pub HaltsIn : {D : Type 0} → Call → List (Transition D) → RefillFault → Type 0
HaltsIn call (only ∷ []) fault = (only.call ≡ call) × IsStopped call only.reply × (fault ≡ refill.Stopped)
HaltsIn call (early ∷ last ∷ []) fault =
    (early.call ≡ call) × Waits early.reply × (last.call ≡ Refills) × (last.reply ≡ Refilled (Err fault))
HaltsIn call turns fault = ⊥

-- The frame is submitted, and the run ends there with this fault
pub record Halts {D : Type 0} (disk_of : D → Disk) (old : EndpointValue D) (call : Call) (fault : RefillFault)
    (new : EndpointValue D) : Type 0 where
  pub turns : List (Transition D)
  pub lives : Lives disk_of old turns new
  pub handed : HaltsIn call turns fault

-- ---- a frame that waits

-- a frame passes with this answer
abbrev pub is_passed : Outcome → Bool
is_passed outcome.Passed = true
is_passed outcome.Dropped = false
is_passed outcome.Waiting = false
is_passed outcome.Stopped = false

-- how submitting a frame ends with an answer, unless it waits
abbrev pub ending_of : Outcome → Result Bool RefillFault
ending_of outcome.Passed = Ok true
ending_of outcome.Dropped = Ok false
ending_of outcome.Waiting = Ok false
ending_of outcome.Stopped = Err refill.Stopped

-- A refill is made, after it the frame is submitted again, and the result is whether it passes, with the verdict, if
-- there is one; or the refill is refused
abbrev pub HandsInAgain : {D : Type 0} → (D → Disk) → EndpointValue D → Call → Result Bool RefillFault → List ℕ
    → Option Verdict
    → EndpointValue D → Type 0
HandsInAgain {D} disk_of old call (Ok passes) out verdict new =
    (what : Outcome) × (filled : EndpointValue D) × (reply : Reply) × (passes ≡ is_passed what)
    × IsSoundEndpoint old × IsCall disk_of old Refills (Refilled (Ok tt)) filled
    × IsSoundEndpoint filled × IsCall disk_of filled call reply new × Means call reply out what
    × (verdict ≡ verdict_of reply)
HandsInAgain disk_of old call (Err fault) out verdict new = IsSoundEndpoint old
    × IsCall disk_of old Refills (Refilled (Err fault)) new
