-- A call that is answered is expected, and what an observer then knows is so.
use Rattle.std.proofs.Common.{◌≡◌, inl, inr, ℕ, Bool, true, false, List, [], Ok, Err, refl, sym, ap, subst, ◌∙◌}
use Rattle.std.specs.Prelude.{length}
use Rattle.macs_endpoint.specs.State.{Advanced, AdvancedLong, Advances, Call, Commands, Delivery, Protected, Protects}
use Rattle.macs_endpoint.specs.State.{Ran, Received, Receives, Refilled, Refills, RefusedLong, Reply, State, Submits}
use Rattle.macs_endpoint.specs.State.{Submitted}
use Rattle.macs_endpoint.specs.State.{Rested, Rests}
use Rattle.macs_endpoint.specs.declared.fault.RestFault.TheVariants as rest
use Rattle.macs_endpoint.specs.Step.{IsStopped, RunningStep, Step}
use Rattle.macs_endpoint.specs.declared.fault.CommandFault.TheVariants as ran
use Rattle.macs_endpoint.specs.declared.fault.ProtectFault.TheVariants as protect
use Rattle.macs_endpoint.specs.declared.fault.RefillFault.TheVariants as refill
use Rattle.macs_endpoint.specs.declared.fault.StepFault.TheVariants as advance
use Rattle.macs_endpoint.specs.declared.fault.SubmitFault.TheVariants as submit
use Rattle.macs_endpoint.specs.declared.progress.Step.TheVariants.{Idle}
use Rattle.macs_headline.specs.History.{logs_of}
use Rattle.macs_headline.specs.Moments.{Moment}
use Rattle.macs_theorem.specs.Observer.{ExpectsReply, Observer}
use Rattle.macs_theorem.proofs.Commands.{Goes, IsFirst, by-advance, by-command, by-refill, by-rest, by-submit}
use Rattle.macs_theorem.proofs.Commands.{stopped-begins}
use Rattle.macs_theorem.proofs.Frames.{by-protect, by-receive}
use Rattle.macs_theorem.proofs.Matches.{Follows, Matches, same-state}

-- what is known of an answer of this edition besides the step
abbrev pub IsAllowed : State → Call → Reply → Type 0
IsAllowed s Advances (Advanced (Ok Idle)) = s.waiting ≡ []
IsAllowed s Advances (AdvancedLong ticket) = ⊥
IsAllowed s (Commands command) RefusedLong = ⊥
IsAllowed s call reply = Unit {0}

module _ (sectors : ℕ) (earlier : List Delivery) (old : State) (moment : Moment sectors old)
    (same_earlier : (logs_of moment.past).given ≡ earlier) (eight : length old.identity.sci ≡ 8) (o : Observer)
    (follows : Follows earlier old o) where
  abbrev m : Matches earlier old o
  m = follows.matches

  front : old.stopped ≡ false → IsFirst o
  front running d begun = follows.begins d begun running

  -- a call is expected of an endpoint that runs, or that is stopped
  abbrev pub Answers : Call → Reply → State → Type 0
  Answers call reply new = (later : Observer) × ExpectsReply o.stopped o call reply later × Follows earlier new later

  by_stopped : (call : Call) (reply : Reply) (new : State) → IsStopped call reply → old.stopped ≡ true → new ≡ old
      → Answers call reply new
  by_stopped call reply new answer stopped is = (
    o,
    subst (λ (stopped : Bool). ExpectsReply stopped o call reply o) (sym (m.stopped ∙ stopped)) (answer, refl),
    record {
      matches = same-state earlier old new o is m;
      begins = stopped-begins new o (ap (λ (s : State). s.stopped) is ∙ stopped);
    },
  )

  -- one that runs does not answer Stopped
  never_stopped : (call : Call) (reply : Reply) (new : State) → RunningStep old call reply new
      → IsStopped call reply → ⊥
  never_stopped (Commands c) (Ran (Err ran.Stopped)) new h stopped = h
  never_stopped Refills (Refilled (Err refill.Stopped)) new h stopped = h
  never_stopped Rests (Rested (Err rest.Stopped)) new h stopped = h
  never_stopped (Submits c) (Submitted (Err submit.Stopped)) new h stopped = h
  never_stopped Advances (Advanced (Err advance.Stopped)) new h stopped = h
  never_stopped (Protects plain) (Protected (Err protect.Stopped) out) new h stopped = h
  never_stopped (Receives frame) (Received (Err fault) out) new h stopped = h
  never_stopped call reply new h stopped = stopped

  by_running : (call : Call) (reply : Reply) (new : State) → IsAllowed old call reply → Step old call reply new
      → old.stopped ≡ false → RunningStep old call reply new → Goes earlier o call reply new
  by_running (Commands c) (Ran result) new allowed step running h =
      by-command earlier old o m running (front running) c result new h
  by_running Refills (Refilled result) new allowed step running h =
      by-refill earlier old o m running (front running) result new h
  by_running Rests (Rested result) new allowed step running h =
      by-rest earlier old o m running (front running) result new h
  by_running (Submits c) (Submitted result) new allowed step running h =
      by-submit earlier old o m running (front running) c result new h
  by_running Advances (Advanced (Ok Idle)) new allowed step running h =
      by-advance earlier old o m running (front running) (Ok Idle) new allowed h
  by_running Advances (Advanced result) new allowed step running h =
      by-advance earlier old o m running (front running) result new tt h
  by_running (Protects plain) (Protected result out) new allowed step running h =
      by-protect sectors earlier old moment o m (front running) eight plain result out new step h
  by_running (Receives frame) (Received result out) new allowed step running h =
      by-receive sectors earlier old moment same_earlier o m (front running) frame result out new step
      h
  by_running (Commands c) RefusedLong new allowed step running h = absurd allowed
  by_running Advances (AdvancedLong ticket) new allowed step running h = absurd allowed
  by_running call reply new allowed step running h = absurd h

  pub calls-are-expected : (call : Call) (reply : Reply) (new : State) → IsAllowed old call reply
      → Step old call reply new → Answers call reply new
  calls-are-expected call reply new allowed (inl (stopped, answer, is)) = by_stopped call reply new answer stopped is
  calls-are-expected call reply new allowed (inr (running, h)) =
      let goes = by_running call reply new allowed (inr (running, h)) running h in (
        goes.0,
        subst (λ (stopped : Bool). ExpectsReply stopped o call reply goes.0) (sym (m.stopped ∙ running))
            (never_stopped call reply new h, goes.1),
        goes.2,
      )
