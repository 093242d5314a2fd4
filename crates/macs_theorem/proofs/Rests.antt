-- After which answers the last call was a rest, and what then holds of the endpoint.
use Rattle.std.proofs.Common.{◌≡◌, inl, inr, ℕ, Bool, true, false, List, [], Result, Ok, Err, refl, sym, ◌∙◌, ap}
use Rattle.macs_config.specs.Config.{this_edition}
use Rattle.macs_config.specs.declared.command.Command.{Command}
use Rattle.macs_disk.specs.Disk.{Disk}
use Rattle.macs_disk.specs.States.{Image}
use Rattle.macs_rxsc.specs.declared.verdict.Kind.TheVariants.{Delayed, Ok as AsOk, Untagged}
use Rattle.macs_rxsc.specs.declared.verdict.Verdict.TheVariants.{Delivered, HeldBack}
use Rattle.macs_endpoint.specs.AtRest.{OpensAt}
use Rattle.macs_endpoint.specs.Calls.{IsCall}
use Rattle.macs_endpoint.specs.State.{Advanced, Advances, Call, Commands, Logs, Protected, Protects, Ran, Received}
use Rattle.macs_endpoint.specs.State.{Receives, Refilled, Refills, Reply, Rested, Rests, Submits, Submitted, no_logs}
use Rattle.macs_endpoint.specs.Value.{EndpointValue, is_stopped, state_of}
use Rattle.macs_endpoint.specs.declared.fault.CommandFault.{CommandFault}
use Rattle.macs_endpoint.specs.declared.fault.CommandFault.TheVariants as ran
use Rattle.macs_endpoint.specs.declared.fault.RefillFault.TheVariants as refill
use Rattle.macs_endpoint.specs.declared.fault.RestFault.TheVariants as rest
use Rattle.macs_endpoint.specs.declared.fault.StepFault.TheVariants as step
use Rattle.macs_endpoint.specs.declared.progress.Step.TheVariants.{Done, Idle, Reserved, Worked}
use Rattle.macs_theorem.specs.Observer.{ExpectsCall, ExpectsReply, Observer, after_result}
use Rattle.macs_theorem.proofs.Openings.{IsAtNext}

-- only a rest that is answered Ok makes it so
abbrev pub IsRest : Call → Reply → Type 0
IsRest call reply = (call ≡ Rests) × (reply ≡ Rested (Ok tt))

module _ (o new : Observer) (quiet : o.rested ≡ false) (now : new.rested ≡ true) where
  same : {A : Type 0} → new.rested ≡ o.rested → A
  same is = absurd (let no : true ≡ false = sym now ∙ is ∙ quiet in cc)

  none : {A : Type 0} → new.rested ≡ false → A
  none is = absurd (let no : true ≡ false = sym now ∙ is in cc)

  done : {A : Type 0} (result : Result (Unit {0}) CommandFault) (c : Command) (mid : Observer)
      → mid.rested ≡ o.rested → new ≡ after_result result c mid → A
  done (Ok t) c mid was is = none (ap (λ (x : Observer). x.rested) is)
  done (Err fault) c mid was is = same (ap (λ (x : Observer). x.rested) is ∙ was)

  by_call : (call : Call) (reply : Reply) → ExpectsCall o call reply new → IsRest call reply
  by_call (Protects plain) (Protected (Ok pn) out) is = same (ap (λ (x : Observer). x.rested) is.counted)
  by_call (Protects plain) (Protected (Err fault) out) is = same (ap (λ (x : Observer). x.rested) is.1)
  by_call (Receives frame) (Received (Ok (Delivered AsOk)) out) is = same (ap (λ (x : Observer). x.rested) is.counted)
  by_call (Receives frame) (Received (Ok (Delivered Delayed)) out) is =
      same (ap (λ (x : Observer). x.rested) is.counted)
  by_call (Receives frame) (Received (Ok (Delivered Untagged)) out) is = same (ap (λ (x : Observer). x.rested) is.3)
  by_call (Receives frame) (Received (Ok (Delivered kind)) out) is = same (ap (λ (x : Observer). x.rested) is.5)
  by_call (Receives frame) (Received (Ok HeldBack) out) is = same (ap (λ (x : Observer). x.rested) is.1.counted)
  by_call (Receives frame) (Received answer out) is = same (ap (λ (x : Observer). x.rested) is.1)
  by_call (Commands c) (Ran (Ok t)) is = none (ap (λ (x : Observer). x.rested) is.2)
  by_call (Commands c) (Ran (Err ran.Disk)) is = same (ap (λ (x : Observer). x.rested) is)
  by_call (Commands c) (Ran (Err fault)) is = same (ap (λ (x : Observer). x.rested) is)
  by_call (Submits c) (Submitted (Ok ticket)) is = same (ap (λ (x : Observer). x.rested) is.1)
  by_call (Submits c) (Submitted (Err fault)) is = same (ap (λ (x : Observer). x.rested) is)
  by_call Advances (Advanced (Ok Idle)) is = same (ap (λ (x : Observer). x.rested) is.1)
  by_call Advances (Advanced (Ok Worked)) is = same (ap (λ (x : Observer). x.rested) is)
  by_call Advances (Advanced (Ok Reserved)) is = same (ap (λ (x : Observer). x.rested) is)
  by_call Advances (Advanced (Ok (Done ticket result))) (first, left, waits, is_ticket, fresh, is) =
      done result first.command (record o { waiting = left }) refl is
  by_call Advances (Advanced (Err step.Disk)) is = same (ap (λ (x : Observer). x.rested) is)
  by_call Advances (Advanced (Err fault)) is = same (ap (λ (x : Observer). x.rested) is)
  by_call Refills (Refilled (Err refill.Disk)) is = same (ap (λ (x : Observer). x.rested) is)
  by_call Refills (Refilled result) is = same (ap (λ (x : Observer). x.rested) is)
  by_call Rests (Rested (Ok t)) is = (refl, refl)
  by_call Rests (Rested (Err rest.Disk)) is = same (ap (λ (x : Observer). x.rested) is)
  by_call Rests (Rested (Err fault)) is = same (ap (λ (x : Observer). x.rested) is)
  by_call call reply is = absurd is

  by_reply : (stopped : Bool) (call : Call) (reply : Reply) → ExpectsReply stopped o call reply new
      → IsRest call reply
  by_reply true call reply is = same (ap (λ (x : Observer). x.rested) is.1)
  by_reply false call reply is = by_call call reply is.1

pub rests-alone : (stopped : Bool) (o : Observer) (call : Call) (reply : Reply) (new : Observer)
    → ExpectsReply stopped o call reply new → o.rested ≡ false → new.rested ≡ true → IsRest call reply
rests-alone stopped o call reply new is quiet now = by_reply o new quiet now stopped call reply is

-- the endpoint still runs
pub rested-runs : {D : Type 0} (disk_of : D → Disk) (old new : EndpointValue D)
    → IsCall disk_of old Rests (Rested (Ok tt)) new → is_stopped new ≡ false
rested-runs disk_of old new call = elim (call.behaves.step no_logs).1 [
  | inl stopped ↦ absurd stopped.1
  | inr rests ↦ ap (λ s. s.stopped) rests.1.1 ∙ rests.0
]

-- what an opening finds is at the next numbers
pub at-next : {D : Type 0} (e : EndpointValue D) (logs : Logs) (sectors : ℕ) (image : Image)
    → OpensAt sectors image (state_of e logs) → IsAtNext sectors (state_of e logs) image
at-next e logs sectors image at =
    record { found = at.found; is_found = at.is_found; ceilings = at.ceilings }
