-- No command of an endpoint that was opened waits, nor after other commands or frames; so nothing is refused as busy.
use Rattle.std.proofs.Common.{◌≡◌, ◌≢◌, ◌∙◌, ◌++◌, inl, inr, ℕ, Bool, List, [], ◌∷◌, Option, Result, Ok, Err, IfErr}
use Rattle.std.proofs.Common.{IfOk, ap, refl, subst, sym}
use Rattle.macs_config.specs.declared.command.Command.{Command}
use Rattle.macs_config.specs.declared.refusal.Refusal.{Refusal}
use Rattle.macs_disk.specs.Disk.{Disk}
use Rattle.macs_edge.proofs.Queueing.{frame-waits}
use Rattle.macs_edge.specs.Attending.{IsAttended}
use Rattle.macs_edge.specs.CaptureRuns.{HandsAllIn, Run, RunsOver, RunsRecords, Stops}
use Rattle.macs_edge.specs.Relaying.{Relay}
use Rattle.macs_edge.specs.Settling.{HaltsIn, HandsIn, call_on}
use Rattle.macs_edge.specs.Wires.{WireState}
use Rattle.macs_edge.specs.declared.attending.DeskEvent.{DeskEvent}
use Rattle.macs_edge.specs.declared.capture_runs.RunFault.{RunFault}
use Rattle.macs_edge.specs.declared.capture_runs.RunFault.TheVariants.{Device, Pcap}
use Rattle.macs_edge.specs.declared.capture_runs.Summary.{Summary}
use Rattle.macs_edge.specs.declared.settling.Side.{Side}
use Rattle.macs_edge.specs.declared.settling.Side.TheVariants.{Controlled, Common}
use Rattle.macs_endpoint.specs.Calls.{IsCall}
use Rattle.macs_endpoint.specs.Faults.{refill_fault_named}
use Rattle.macs_endpoint.specs.Lives.{Lives, Transition}
use Rattle.macs_endpoint.specs.Opening.{IsOpening, Opens}
use Rattle.macs_endpoint.specs.State.{Advances, Call, Commands, Protects, Ran, Receives, Refilled, Refills, Reply, Rests}
use Rattle.macs_endpoint.specs.State.{State, Submits, no_logs}
use Rattle.macs_endpoint.specs.Step.{CommandStep, RunningStep, Step}
use Rattle.macs_endpoint.specs.Value.{EndpointValue, state_of}
use Rattle.macs_endpoint.specs.declared.fault.CommandFault.{CommandFault}
use Rattle.macs_endpoint.specs.declared.fault.CommandFault.TheVariants as ran
use Rattle.macs_endpoint.specs.declared.fault.RefillFault.{RefillFault}
use Rattle.macs_endpoint.specs.declared.fault.RefillFault.TheVariants as refill
use Rattle.macs_endpoint.specs.declared.fault.StepFault.{StepFault}
use Rattle.macs_endpoint.specs.declared.fault.StepFault.TheVariants as advance
use Rattle.macs_journal.specs.declared.recovery.RecoverRefused.{RecoverRefused}
use Rattle.macs_pcap.specs.Records.{CaptureRecord}
use Rattle.macs_pcap.specs.declared.fault.PcapFault.{PcapFault}
use Rattle.macs_pcap.specs.declared.fault.PcapFault.TheVariants.{Write}
use Rattle.macs_offline.specs.Applying.{Applies, answer_of}
use Rattle.macs_cli.specs.Failing.{IsNotBusyRun}

-- ---- commands

-- of an endpoint that runs
command_none : (s t : State) (command : Command) (result : Result (Unit {0}) CommandFault) → s.waiting ≡ []
    → CommandStep s command result t
    → t.waiting ≡ []
command_none s t command (Ok done) none (idle, (config, is, made)) = ap (λ (x : State). x.waiting) made ∙ none
command_none s t command (Err ran.Busy) none (some, is) = ap (λ (x : State). x.waiting) is ∙ none
command_none s t command (Err (ran.Refused refusal)) none (idle, why, is) = ap (λ (x : State). x.waiting) is ∙ none
command_none s t command (Err ran.GenerationsSpent) none (idle, accepts, is) = ap (λ (x : State). x.waiting) is ∙ none
command_none s t command (Err ran.Disk) none (idle, accepts, is) = ap (λ (x : State). x.waiting) is ∙ none
command_none s t command (Err ran.Stopped) none h = absurd h

busy_command : (s t : State) (command : Command) → s.waiting ≡ [] → Step s (Commands command) (Ran (Err ran.Busy)) t
    → ⊥
busy_command s t command none (inl (stopped, answer, is)) = absurd answer
busy_command s t command none (inr (running, (some, is))) = some none

-- ---- refills

refill_none : (s t : State) (reply : Reply) → s.waiting ≡ [] → RunningStep s Refills reply t → t.waiting ≡ []
refill_none s t (Refilled (Ok done)) none (idle, is) = ap (λ (x : State). x.waiting) is ∙ none
refill_none s t (Refilled (Err refill.Busy)) none (some, is) = ap (λ (x : State). x.waiting) is ∙ none
refill_none s t (Refilled (Err refill.GenerationsSpent)) none (idle, is) = ap (λ (x : State). x.waiting) is ∙ none
refill_none s t (Refilled (Err refill.Disk)) none (idle, is) = ap (λ (x : State). x.waiting) is ∙ none
refill_none s t (Refilled (Err refill.Stopped)) none h = absurd h
refill_none s t reply none h = absurd h

busy_refill : (s t : State) → s.waiting ≡ [] → Step s Refills (Refilled (Err refill.Busy)) t → ⊥
busy_refill s t none (inl (stopped, answer, is)) = absurd answer
busy_refill s t none (inr (running, (some, is))) = some none

-- ---- calls of a run over a capture

-- a call hands a frame in, or is a refill
abbrev IsRunCall : Call → Type 0
IsRunCall (Protects plain) = Unit {0}
IsRunCall (Receives frame) = Unit {0}
IsRunCall Refills = Unit {0}
IsRunCall call = ⊥

-- all of these calls do or are
abbrev AreRunCalls : {D : Type 0} → List (Transition D) → Type 0
AreRunCalls [] = Unit {0}
AreRunCalls (turn ∷ turns) = IsRunCall turn.call × AreRunCalls turns

run-append : {D : Type 0} (turns more : List (Transition D)) → AreRunCalls turns → AreRunCalls more
    → AreRunCalls (turns ++ more)
run-append [] more front back = back
run-append (turn ∷ turns) more front back = (front.0, run-append turns more front.1 back)

side-of-run : (side : Side) (frame : List ℕ) → IsRunCall (call_on side frame)
side-of-run Controlled frame = tt
side-of-run Common frame = tt

-- those that hand one frame in
hands-of-run : {D : Type 0} (call : Call) (turns : List (Transition D)) (reply : Reply) → IsRunCall call
    → HandsIn call turns reply → AreRunCalls turns
hands-of-run call (only ∷ []) reply ours is = (subst IsRunCall (sym is.0) ours, tt)
hands-of-run call (early ∷ between ∷ late ∷ []) reply ours is =
    (subst IsRunCall (sym is.0) ours, (subst IsRunCall (sym is.2) tt, (subst IsRunCall (sym is.4) ours, tt)))
hands-of-run call turns reply ours is = absurd is

-- and those that hand in the frames of these records
all-of-run : {D : Type 0} (side : Side) (records : List CaptureRecord) (turns : List (Transition D))
    → HandsAllIn side records turns → AreRunCalls turns
all-of-run {D} side [] turns none = subst (λ (l : List (Transition D)). AreRunCalls l) (sym none) tt
all-of-run {D} side (taken ∷ more) turns (early, rest, reply, is, hands, later) =
    subst (λ (l : List (Transition D)). AreRunCalls l) (sym is)
    (run-append early rest (hands-of-run (call_on side taken.frame) early reply (side-of-run side taken.frame) hands)
    (all-of-run side more rest later))

-- a run does not end with a fault of a capture and as busy
capture-not-busy : (answer : Result Summary RunFault) (fault : RunFault) (cause : PcapFault) → answer ≡ Err fault
    → answer ≡ Err (Pcap cause)
    → fault ≢ Device refill.Busy
capture-not-busy answer fault cause given is busy = cc

-- the fault of a step is not busy
named-not-busy : (at : StepFault) → refill_fault_named at ≢ refill.Busy
named-not-busy advance.Stopped is = let clash : refill.Stopped ≡ refill.Busy = is in cc
named-not-busy advance.GenerationsSpent is = let clash : refill.GenerationsSpent ≡ refill.Busy = is in cc
named-not-busy advance.Disk is = let clash : refill.Disk ≡ refill.Busy = is in cc

module _ {D : Type 0} (disk_of : D → Disk) where
  -- ---- an endpoint that was opened

  pub opened-none : (disk : D) (e : EndpointValue D) → Opens disk_of disk e → e.waiting ≡ []
  opened-none disk e opens = ap (λ (x : State). x.waiting) (opens.state no_logs)

  pub opening-none : (disk : D) (opened : Result (EndpointValue D) (RecoverRefused D))
      → IsOpening disk_of disk opened → IfOk opened (λ (e : EndpointValue D). e.waiting ≡ [])
  opening-none disk (Ok e) opens = opened-none disk e opens
  opening-none disk (Err refused) refuses = tt

  -- ---- commands, one after another

  given-none : (old new : EndpointValue D) (command : Command) (result : Result (Unit {0}) CommandFault)
      → IsCall disk_of old (Commands command) (Ran result) new → old.waiting ≡ [] → new.waiting ≡ []
  given-none old new command result is none =
      let moved = is.behaves.step no_logs in
      elim moved.1 [
        | inl halts ↦ ap (λ (x : State). x.waiting) halts.2 ∙ none
        | inr runs ↦ command_none (state_of old no_logs) (state_of new moved.0) command result none runs.1
      ]

  pub applied-none : (old new : EndpointValue D) (commands : List Command) (outcomes : List (Option Refusal))
      → old.waiting ≡ [] → Applies disk_of old commands outcomes new → new.waiting ≡ []
  applied-none old new [] outcomes none (are, same) = ap (λ (e : EndpointValue D). e.waiting) same ∙ none
  applied-none old new (command ∷ more) outcomes none (outcome, rest, between, are, call, later) =
      applied-none between new more rest (given-none old between command (answer_of outcome) call none) later

  -- none is refused as busy
  pub command-not-busy : (old new : EndpointValue D) (command : Command) (fault : CommandFault) → old.waiting ≡ []
      → IsCall disk_of old (Commands command) (Ran (Err fault)) new → fault ≢ ran.Busy
  command-not-busy old new command fault none is busy =
      let moved = is.behaves.step no_logs in
      busy_command (state_of old no_logs) (state_of new moved.0) command none
      (subst (λ (f : CommandFault). Step (state_of old no_logs) (Commands command) (Ran (Err f))
      (state_of new moved.0)) busy moved.1)

  -- ---- runs over captures

  refilled-none : (old new : EndpointValue D) (reply : Reply) → IsCall disk_of old Refills reply new
      → old.waiting ≡ [] → new.waiting ≡ []
  refilled-none old new reply is none =
      let moved = is.behaves.step no_logs in
      elim moved.1 [
        | inl halts ↦ ap (λ (x : State). x.waiting) halts.2 ∙ none
        | inr runs ↦ refill_none (state_of old no_logs) (state_of new moved.0) reply none runs.1
      ]

  refill-not-busy : (old new : EndpointValue D) (fault : RefillFault) → old.waiting ≡ []
      → IsCall disk_of old Refills (Refilled (Err fault)) new → fault ≢ refill.Busy
  refill-not-busy old new fault none is busy =
      let moved = is.behaves.step no_logs in
      busy_refill (state_of old no_logs) (state_of new moved.0) none
      (subst (λ (f : RefillFault). Step (state_of old no_logs) Refills (Refilled (Err f)) (state_of new moved.0))
      busy moved.1)

  called-none : (old new : EndpointValue D) (call : Call) (reply : Reply) → IsRunCall call
      → IsCall disk_of old call reply new → old.waiting ≡ [] → new.waiting ≡ []
  called-none old new (Protects plain) reply ours is none =
      frame-waits disk_of old new (Protects plain) reply tt is ∙ none
  called-none old new (Receives frame) reply ours is none =
      frame-waits disk_of old new (Receives frame) reply tt is ∙ none
  called-none old new Refills reply ours is none = refilled-none old new reply is none
  called-none old new Rests reply ours is none = absurd ours
  called-none old new (Commands command) reply ours is none = absurd ours
  called-none old new (Submits command) reply ours is none = absurd ours
  called-none old new Advances reply ours is none = absurd ours

  lives-none : (turns : List (Transition D)) (old new : EndpointValue D) → AreRunCalls turns
      → Lives disk_of old turns new → old.waiting ≡ [] → new.waiting ≡ []
  lives-none [] old new ours same none = ap (λ (e : EndpointValue D). e.waiting) same ∙ none
  lives-none (turn ∷ turns) old new ours (sound, call, later) none =
      lives-none turns turn.after new ours.1 later
      (called-none old turn.after turn.call turn.reply ours.0 call none)

  -- a frame that is not settled
  halts-not-busy : (call : Call) (turns : List (Transition D)) (fault : RefillFault) (old new : EndpointValue D)
      → IsRunCall call → HaltsIn call turns fault
      → Lives disk_of old turns new → old.waiting ≡ [] → fault ≢ refill.Busy
  halts-not-busy call (only ∷ []) fault old new ours (is, stopped, named) lives none busy =
      let clash : refill.Stopped ≡ refill.Busy = sym named ∙ busy in cc
  halts-not-busy call (early ∷ last ∷ []) fault old new ours (is, waits, refills, answered)
      (sound, frame, (still, refused, same)) none busy =
      refill-not-busy early.after last.after fault
      (called-none old early.after early.call early.reply (subst IsRunCall (sym is) ours) frame none)
      (subst (λ (r : Reply). IsCall disk_of early.after Refills r last.after) answered
      (subst (λ (k : Call). IsCall disk_of early.after k last.reply last.after) refills refused)) busy
  halts-not-busy call turns fault old new ours halts lives none busy = absurd halts

  stops-not-busy : (side : Side) (big : Bool) (count : ℕ) (old new : Run D) (fault : RunFault)
      → Stops disk_of side big count old fault new
      → old.endpoint.waiting ≡ [] → fault ≢ Device refill.Busy
  stops-not-busy side big count old new (Device fault) (taken, room, reads, halts, sink) none busy =
      let is : fault ≡ refill.Busy = cc in
      halts-not-busy (call_on side taken.frame) halts.turns fault old.endpoint new.endpoint
      (side-of-run side taken.frame) halts.handed halts.lives none is
  stops-not-busy side big count old new (Pcap fault) stops none busy =
      let clash : Pcap fault ≡ Device refill.Busy = busy in cc

  records-not-busy : (side : Side) (big : Bool) (old new : Run D) (fault : RunFault)
      → RunsRecords disk_of side big old (Err fault) new
      → old.endpoint.waiting ≡ [] → fault ≢ Device refill.Busy
  records-not-busy side big old new fault (records, passed, between, has, stops) none =
      stops-not-busy side big _ between new fault stops
      (lives-none has.turns old.endpoint between.endpoint (all-of-run side records has.turns has.handed) has.lives
      none)

  -- no run ends with a refill that is refused as busy
  pub run-not-busy : (side : Side) (old new : Run D) (answer : Result Summary RunFault) → old.endpoint.waiting ≡ []
      → RunsOver disk_of side old answer new → IfErr answer IsNotBusyRun
  run-not-busy side old new (Ok summary) none runs = tt
  run-not-busy side old new (Err fault) none (inl (cause, is, reads, endpoint, sink)) =
      capture-not-busy (Err fault) fault cause refl is
  run-not-busy side old new (Err fault) none (inr (inl (header, reads, is, writes, endpoint))) =
      capture-not-busy (Err fault) fault Write refl is
  run-not-busy side old new (Err fault) none (inr (inr (header, between, reads, writes, endpoint, runs))) =
      records-not-busy side header.big between new fault runs
      (ap (λ (e : EndpointValue D). e.waiting) endpoint ∙ none)

  -- ---- relays, whatever waits

  pub attended-not-busy : (turns : ℕ) (old : Relay D) (events : List DeskEvent) (fault : RefillFault)
      (endpoint : EndpointValue D) (controlled common : WireState)
      → IsAttended disk_of turns old events (Err fault) endpoint controlled common → fault ≢ refill.Busy
  attended-not-busy turns old events fault endpoint controlled common
      (to_common, to_controlled, (during, at, named, attends, are), told) busy =
      named-not-busy at (sym named ∙ busy)
