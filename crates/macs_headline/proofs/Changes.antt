-- What a call of an endpoint that runs does to its state, in a few forms.
use Rattle.std.proofs.Common.{◌≡◌, inl, inr, ℕ, List, ◌∷◌, Result, Ok, Err, refl}
use Rattle.macs_config.specs.declared.command.Command.{Command}
use Rattle.macs_rxsc.specs.Receive.{Arrival, Arrives}
use Rattle.macs_rxsc.specs.declared.verdict.Verdict.{Verdict}
use Rattle.macs_endpoint.specs.declared.fault.CommandFault.{CommandFault}
use Rattle.macs_endpoint.specs.declared.fault.CommandFault.TheVariants as ran
use Rattle.macs_endpoint.specs.declared.fault.ProtectFault.{ProtectFault}
use Rattle.macs_endpoint.specs.declared.fault.ProtectFault.TheVariants as protect
use Rattle.macs_endpoint.specs.declared.fault.RefillFault.{RefillFault}
use Rattle.macs_endpoint.specs.declared.fault.RefillFault.TheVariants as refill
use Rattle.macs_endpoint.specs.declared.fault.StepFault.{StepFault}
use Rattle.macs_endpoint.specs.declared.fault.StepFault.TheVariants as advance
use Rattle.macs_endpoint.specs.declared.fault.Stopped.{Stopped}
use Rattle.macs_endpoint.specs.declared.fault.SubmitFault.{SubmitFault}
use Rattle.macs_endpoint.specs.declared.fault.SubmitFault.TheVariants as submit
use Rattle.macs_endpoint.specs.declared.progress.Step.{Step as Progress}
use Rattle.macs_endpoint.specs.declared.progress.Step.TheVariants.{Done, Worked}
use Rattle.macs_endpoint.specs.declared.queue.Waiting.{Waiting}
use Rattle.macs_endpoint.specs.State.{Accepts, Advanced, AdvancedLong, Advances, Call, Commands, NoneWait, Protected}
use Rattle.macs_endpoint.specs.State.{Protects, Ran, Received, Receives, Refilled, Refills, RefusedLong, Reply, State}
use Rattle.macs_endpoint.specs.State.{Submits, Submitted, rx_side, state_after_fault, state_with_under_way}
use Rattle.macs_endpoint.specs.State.{Rested, Rests}
use Rattle.macs_endpoint.specs.Step.{as_refill}
use Rattle.macs_endpoint.specs.Step.{AdvanceStep, CommandStep, Ends, Makes, ProtectStep, ReceiveStep, RefillStep}
use Rattle.macs_endpoint.specs.Step.{RunningStep, SubmitStep, TakesUp, state_after_delivery, state_after_hold}
use Rattle.macs_endpoint.specs.Step.{state_with_waiting, state_without_first}

-- Nothing changes, or a device call fails; a command takes effect, or is under way when a device call fails; one more
-- waits; the first that waits is taken up, also by a call that fails, and it takes effect, or is dropped; a frame goes
-- out; one that verified is held back, or delivered.
pub data Change (old : State) (call : Call) (reply : Reply) (new : State) : Type 0 where
  Stays : new ≡ old → Change old call reply new
  Stops : new ≡ state_after_fault old → Change old call reply new
  Obeys : (c : Command) → call ≡ Commands c → NoneWait old → Makes old c new → Change old call reply new
  Breaks : (c : Command) → call ≡ Commands c → reply ≡ Ran (Err ran.Disk) → NoneWait old → Accepts old c
      → new ≡ state_after_fault (state_with_under_way old c) → Change old call reply new
  Queues : (c : Command) → call ≡ Submits c → new ≡ state_with_waiting old c → Change old call reply new
  Begins : call ≡ Advances → TakesUp old new → Change old call reply new
  BeginsAndStops : call ≡ Advances → (mid : State) → TakesUp old mid → new ≡ state_after_fault mid
      → Change old call reply new
  Completes : call ≡ Advances → (first : Waiting) (rest : List Waiting) → old.waiting ≡ first ∷ rest
      → Makes (state_without_first old rest) first.command new → Change old call reply new
  Drops : call ≡ Advances → (first : Waiting) (rest : List Waiting) → old.waiting ≡ first ∷ rest
      → new ≡ state_without_first old rest → Change old call reply new
  Sends : (plain : List ℕ) → call ≡ Protects plain → (pn : ℕ) (out : List ℕ) → ProtectStep old plain (Ok pn) out new
      → Change old call reply new
  HoldsBack : (frame : List ℕ) → call ≡ Receives frame → (a : Arrival) → Arrives (rx_side old) frame a
      → new ≡ state_after_hold old a → Change old call reply new
  Delivers : (frame : List ℕ) → call ≡ Receives frame → (a : Arrival) → Arrives (rx_side old) frame a
      → new ≡ state_after_delivery old a → Change old call reply new

module _ (old new : State) where
  by_command : (c : Command) (result : Result (Unit {0}) CommandFault) → CommandStep old c result new
      → Change old (Commands c) (Ran result) new
  by_command c (Ok done) (none, makes) = Obeys c refl none makes
  by_command c (Err ran.Stopped) h = absurd h
  by_command c (Err ran.Disk) (none, accepts, is) = Breaks c refl refl none accepts is
  by_command c (Err ran.Busy) (some, is) = Stays is
  by_command c (Err fault) h = Stays h.2

  by_refill : (call : Call) (reply : Reply) (result : Result (Unit {0}) RefillFault) → RefillStep old result new
      → Change old call reply new
  by_refill call reply (Ok done) (none, is) = Stays is
  by_refill call reply (Err refill.Stopped) h = absurd h
  by_refill call reply (Err refill.Disk) (none, is) = Stops is
  by_refill call reply (Err fault) (none, is) = Stays is

  by_submit : (c : Command) (result : Result ℕ SubmitFault) → SubmitStep old c result new
      → Change old (Submits c) (Submitted result) new
  by_submit c (Ok ticket) (few, left, is_ticket, is) = Queues c refl is
  by_submit c (Err submit.QueueFull) (many, is) = Stays is
  by_submit c (Err submit.TicketsSpent) (few, spent, is) = Stays is
  by_submit c (Err submit.Stopped) h = absurd h

  by_end : (reply : Reply) (first : Waiting) (rest : List Waiting) (result : Result (Unit {0}) CommandFault)
      → old.waiting ≡ first ∷ rest → Ends old first rest result new → Change old Advances reply new
  by_end reply first rest (Ok done) waiting makes = Completes refl first rest waiting makes
  by_end reply first rest (Err (ran.Refused refusal)) waiting (idle, why, is) = Drops refl first rest waiting is
  by_end reply first rest (Err ran.GenerationsSpent) waiting (idle, accepts, is) = Drops refl first rest waiting is
  by_end reply first rest (Err fault) waiting h = absurd h

  by_advance : (result : Result Progress StepFault) → AdvanceStep old result new
      → Change old Advances (Advanced result) new
  by_advance (Ok Worked) (inl is) = Stays is
  by_advance (Ok Worked) (inr takes) = Begins refl takes
  by_advance (Ok (Done ticket result)) (first, rest, waiting, is_ticket, ends) =
      by_end (Advanced (Ok (Done ticket result))) first rest result waiting ends
  by_advance (Err advance.Disk) (inl is) = Stops is
  by_advance (Err advance.Disk) (inr (mid, takes, is)) = BeginsAndStops refl mid takes is
  by_advance (Err advance.Stopped) h = absurd h
  by_advance result is = Stays is

  by_protect : (plain : List ℕ) (result : Result ℕ ProtectFault) (out : List ℕ) → ProtectStep old plain result out new
      → Change old (Protects plain) (Protected result out) new
  by_protect plain (Ok pn) out h = Sends plain refl pn out h
  by_protect plain (Err (protect.Tx fault)) out (why, empty, is) = Stays is
  by_protect plain (Err protect.Stopped) out h = absurd h

  by_receive : (frame : List ℕ) (result : Result Verdict Stopped) (out : List ℕ) → ReceiveStep old frame result out new
      → Change old (Receives frame) (Received result out) new
  by_receive frame (Ok verdict) out (inl (step, is_first, is_verdict, is_out, is)) = Stays is
  by_receive frame (Ok verdict) out (inr (a, there, inl (is_verdict, above, is_out, is))) =
      HoldsBack frame refl a there is
  by_receive frame (Ok verdict) out (inr (a, there, inr (is_verdict, is_out, is))) = Delivers frame refl a there is
  by_receive frame (Err stopped) out h = absurd h

  pub change-of : (call : Call) (reply : Reply) → RunningStep old call reply new → Change old call reply new
  change-of (Commands c) (Ran result) h = by_command c result h
  change-of Refills (Refilled result) h = by_refill Refills (Refilled result) result h
  change-of Rests (Rested result) h = by_refill Rests (Rested result) (as_refill result) h
  change-of (Submits c) (Submitted result) h = by_submit c result h
  change-of Advances (Advanced result) h = by_advance result h
  change-of (Protects plain) (Protected result out) h = by_protect plain result out h
  change-of (Receives frame) (Received result out) h = by_receive frame result out h
  change-of (Commands c) RefusedLong (none, why, is) = Stays is
  change-of Advances (AdvancedLong ticket) (first, rest, waiting, is_ticket, (idle, why, is)) =
      Drops refl first rest waiting is
  change-of call reply h = absurd h
