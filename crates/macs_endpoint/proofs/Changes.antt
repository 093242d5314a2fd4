-- What a call does to packet numbers and to ceilings, where no frame passes: raises, and a command that was made
-- durable, if one was.
use Rattle.std.proofs.Common.{◌≡◌, ◌⊎◌, inl, inr, ℕ, List, Option, Some, None, Ok, Err, refl, sym, ◌∙◌, ap, subst}
use Rattle.macs_config.specs.declared.command.Command.{Command}
use Rattle.macs_rxsc.specs.Receive.{Numbers}
use Rattle.macs_store.specs.Standing.{Standing, accept}
use Rattle.macs_endpoint.specs.Ceilings.{CeilingsAfter, IsRefilled, Raise, StandsAfter, first_raise}
use Rattle.macs_endpoint.specs.Ceilings.{standing_with_raise, standing_with_reserved}
use Rattle.macs_endpoint.specs.Queue.{first_command}
use Rattle.macs_endpoint.specs.Rooms.{LowersNone}
use Rattle.macs_endpoint.specs.State.{Advanced, AdvancedLong, Advances, Call, Commands, Protected, Protects, Ran}
use Rattle.macs_endpoint.specs.State.{Received, Receives, Refilled, Refills, RefusedLong, Reply, State, Submits}
use Rattle.macs_endpoint.specs.State.{Submitted, command_made, rx_side, state_after_fault, state_with_under_way}
use Rattle.macs_endpoint.specs.State.{tx_side}
use Rattle.macs_endpoint.specs.State.{Rested, Rests}
use Rattle.macs_endpoint.specs.Step.{Step, next_after, numbers_after, state_with_waiting, state_without_first}
use Rattle.macs_endpoint.specs.declared.fault.CommandFault.TheVariants as ran
use Rattle.macs_endpoint.specs.declared.fault.RefillFault.TheVariants as refill
use Rattle.macs_endpoint.specs.declared.fault.StepFault.TheVariants as step
use Rattle.macs_endpoint.specs.declared.fault.SubmitFault.TheVariants as submit
use Rattle.macs_endpoint.specs.declared.fault.RestFault.TheVariants as rest
use Rattle.macs_endpoint.specs.declared.progress.Step.TheVariants.{Done, Idle, Reserved, Worked}
use Rattle.macs_endpoint.specs.declared.queue.Waiting.{Waiting}
use Rattle.macs_endpoint.proofs.Raises.{raises-keep}

-- ---- packet numbers

-- next numbers after a command that was made durable, if one was
abbrev pub next_after_made : Option Command → (ℕ → Option ℕ) → ℕ → Option ℕ
next_after_made None next = next
next_after_made (Some command) next = next_after command next

-- the same of receive associations
abbrev pub numbers_after_made : Option Command → (List ℕ → ℕ → Option Numbers) → List ℕ → ℕ → Option Numbers
numbers_after_made None numbers = numbers
numbers_after_made (Some command) numbers = numbers_after command numbers

-- packet numbers are as before, or what a command makes of them
abbrev pub Changes : State → Option Command → State → Type 0
Changes s made t = (t.next ≡ next_after_made made s.next) × (t.numbers ≡ numbers_after_made made s.numbers)

-- no frame passes
abbrev pub PassesNone : Call → Type 0
PassesNone (Protects plain) = ⊥
PassesNone (Receives frame) = ⊥
PassesNone call = Unit {0}

same : (s t : State) → t ≡ s → Changes s None t
same s t is = (ap (λ (x : State). x.next) is, ap (λ (x : State). x.numbers) is)

-- a call is answered in its own words
pub no-answer : {A B C : Type 0} → (A × ⊥ × B) ⊎ (C × ⊥) → ⊥
no-answer (inl stopped) = stopped.1
no-answer (inr runs) = runs.1

module _ (s t : State) where
  -- a command that waited takes effect
  done_first : (made : Option Command) (first : Waiting) → made ≡ Some first.command
      → (t.next ≡ next_after first.command s.next) × (t.numbers ≡ numbers_after first.command s.numbers)
      → Changes s made t
  done_first made first is changed = subst (λ (o : Option Command). Changes s o t) (sym is) changed

  -- what a call does to packet numbers
  pub call-changes : (call : Call) (reply : Reply) → PassesNone call → Step s call reply t
      → Changes s (command_made s call reply) t
  call-changes (Commands command) (Ran (Ok done)) quiet (inl stopped) = absurd stopped.1
  call-changes (Commands command) (Ran (Ok done)) quiet (inr runs) =
      (ap (λ (x : State). x.next) runs.1.1.2, ap (λ (x : State). x.numbers) runs.1.1.2)
  call-changes (Commands command) (Ran (Err fault)) quiet (inl stopped) = same s t stopped.2
  call-changes (Commands command) (Ran (Err ran.Busy)) quiet (inr runs) = same s t runs.1.1
  call-changes (Commands command) (Ran (Err (ran.Refused refusal))) quiet (inr runs) = same s t runs.1.2
  call-changes (Commands command) (Ran (Err ran.GenerationsSpent)) quiet (inr runs) = same s t runs.1.2
  call-changes (Commands command) (Ran (Err ran.Disk)) quiet (inr runs) =
      same (state_after_fault (state_with_under_way s command)) t runs.1.2
  call-changes (Commands command) (Ran (Err ran.Stopped)) quiet (inr runs) = absurd runs.1
  call-changes (Commands command) (Refilled result) quiet made = absurd (no-answer made)
  call-changes (Commands command) (Rested result) quiet made = absurd (no-answer made)
  call-changes (Commands command) (Submitted result) quiet made = absurd (no-answer made)
  call-changes (Commands command) RefusedLong quiet (inl stopped) = absurd stopped.1
  call-changes (Commands command) RefusedLong quiet (inr runs) = same s t runs.1.2
  call-changes (Commands command) (AdvancedLong ticket) quiet made = absurd (no-answer made)
  call-changes (Commands command) (Advanced result) quiet made = absurd (no-answer made)
  call-changes (Commands command) (Protected result out) quiet made = absurd (no-answer made)
  call-changes (Commands command) (Received result out) quiet made = absurd (no-answer made)
  call-changes Refills (Refilled result) quiet (inl stopped) = same s t stopped.2
  call-changes Refills (Refilled (Ok done)) quiet (inr runs) = same s t runs.1.1
  call-changes Refills (Refilled (Err refill.Busy)) quiet (inr runs) = same s t runs.1.1
  call-changes Refills (Refilled (Err refill.GenerationsSpent)) quiet (inr runs) = same s t runs.1.1
  call-changes Refills (Refilled (Err refill.Disk)) quiet (inr runs) = same (state_after_fault s) t runs.1.1
  call-changes Refills (Refilled (Err refill.Stopped)) quiet (inr runs) = absurd runs.1
  call-changes Rests (Rested result) quiet (inl stopped) = same s t stopped.2
  call-changes Rests (Rested (Ok done)) quiet (inr runs) = same s t runs.1.1
  call-changes Rests (Rested (Err rest.Busy)) quiet (inr runs) = same s t runs.1.1
  call-changes Rests (Rested (Err rest.GenerationsSpent)) quiet (inr runs) = same s t runs.1.1
  call-changes Rests (Rested (Err rest.Disk)) quiet (inr runs) = same (state_after_fault s) t runs.1.1
  call-changes Rests (Rested (Err rest.Stopped)) quiet (inr runs) = absurd runs.1
  call-changes Rests (Ran result) quiet made = absurd (no-answer made)
  call-changes Rests (Refilled result) quiet made = absurd (no-answer made)
  call-changes Rests (Submitted result) quiet made = absurd (no-answer made)
  call-changes Rests (Advanced result) quiet made = absurd (no-answer made)
  call-changes Rests RefusedLong quiet made = absurd (no-answer made)
  call-changes Rests (AdvancedLong ticket) quiet made = absurd (no-answer made)
  call-changes Rests (Protected result out) quiet made = absurd (no-answer made)
  call-changes Rests (Received result out) quiet made = absurd (no-answer made)
  call-changes Refills (Rested result) quiet made = absurd (no-answer made)
  call-changes Refills (Ran result) quiet made = absurd (no-answer made)
  call-changes Refills (Submitted result) quiet made = absurd (no-answer made)
  call-changes Refills (Advanced result) quiet made = absurd (no-answer made)
  call-changes Refills RefusedLong quiet made = absurd (no-answer made)
  call-changes Refills (AdvancedLong ticket) quiet made = absurd (no-answer made)
  call-changes Refills (Protected result out) quiet made = absurd (no-answer made)
  call-changes Refills (Received result out) quiet made = absurd (no-answer made)
  call-changes (Submits command) (Submitted result) quiet (inl stopped) = same s t stopped.2
  call-changes (Submits command) (Submitted (Ok ticket)) quiet (inr runs) =
      same (state_with_waiting s command) t runs.1.3
  call-changes (Submits command) (Submitted (Err submit.QueueFull)) quiet (inr runs) = same s t runs.1.1
  call-changes (Submits command) (Submitted (Err submit.TicketsSpent)) quiet (inr runs) = same s t runs.1.2
  call-changes (Submits command) (Submitted (Err submit.Stopped)) quiet (inr runs) = absurd runs.1
  call-changes (Submits command) (Ran result) quiet made = absurd (no-answer made)
  call-changes (Submits command) (Refilled result) quiet made = absurd (no-answer made)
  call-changes (Submits command) (Rested result) quiet made = absurd (no-answer made)
  call-changes (Submits command) (Advanced result) quiet made = absurd (no-answer made)
  call-changes (Submits command) RefusedLong quiet made = absurd (no-answer made)
  call-changes (Submits command) (AdvancedLong ticket) quiet made = absurd (no-answer made)
  call-changes (Submits command) (Protected result out) quiet made = absurd (no-answer made)
  call-changes (Submits command) (Received result out) quiet made = absurd (no-answer made)
  call-changes Advances (Advanced (Ok result)) quiet (inl stopped) = absurd stopped.1
  call-changes Advances (Advanced (Ok Idle)) quiet (inr runs) = same s t runs.1
  call-changes Advances (Advanced (Ok Worked)) quiet (inr runs) = elim runs.1 [
    | inl is ↦ same s t is
    | inr taken ↦ same (state_with_under_way s taken.0.command) t taken.5
  ]
  call-changes Advances (Advanced (Ok Reserved)) quiet (inr runs) = same s t runs.1
  call-changes Advances (Advanced (Ok (Done ticket (Ok done)))) quiet (inr runs) =
      let first = runs.1.0 in
      let made = runs.1.4 in
      done_first (first_command s.waiting) first (ap first_command runs.1.2)
      (ap (λ (x : State). x.next) made.2, ap (λ (x : State). x.numbers) made.2)
  call-changes Advances (Advanced (Ok (Done ticket (Err (ran.Refused refusal))))) quiet (inr runs) =
      same (state_without_first s runs.1.1) t runs.1.4.2
  call-changes Advances (Advanced (Ok (Done ticket (Err ran.GenerationsSpent)))) quiet (inr runs) =
      same (state_without_first s runs.1.1) t runs.1.4.2
  call-changes Advances (Advanced (Ok (Done ticket (Err ran.Stopped)))) quiet (inr runs) = absurd runs.1.4
  call-changes Advances (Advanced (Ok (Done ticket (Err ran.Busy)))) quiet (inr runs) = absurd runs.1.4
  call-changes Advances (Advanced (Ok (Done ticket (Err ran.Disk)))) quiet (inr runs) = absurd runs.1.4
  call-changes Advances (Advanced (Err fault)) quiet (inl stopped) = same s t stopped.2
  call-changes Advances (Advanced (Err step.GenerationsSpent)) quiet (inr runs) = same s t runs.1
  call-changes Advances (Advanced (Err step.Disk)) quiet (inr runs) = elim runs.1 [
    | inl is ↦ same (state_after_fault s) t is
    | inr taken ↦ same (state_after_fault (state_with_under_way s taken.1.0.command)) t
        (taken.2 ∙ ap state_after_fault taken.1.5)
  ]
  call-changes Advances (Advanced (Err step.Stopped)) quiet (inr runs) = absurd runs.1
  call-changes Advances (Ran result) quiet made = absurd (no-answer made)
  call-changes Advances (Refilled result) quiet made = absurd (no-answer made)
  call-changes Advances (Rested result) quiet made = absurd (no-answer made)
  call-changes Advances (Submitted result) quiet made = absurd (no-answer made)
  call-changes Advances RefusedLong quiet made = absurd (no-answer made)
  call-changes Advances (AdvancedLong ticket) quiet (inl stopped) = absurd stopped.1
  call-changes Advances (AdvancedLong ticket) quiet (inr runs) = same (state_without_first s runs.1.1) t runs.1.4.2
  call-changes Advances (Protected result out) quiet made = absurd (no-answer made)
  call-changes Advances (Received result out) quiet made = absurd (no-answer made)
  call-changes (Protects plain) reply quiet made = absurd quiet
  call-changes (Receives frame) reply quiet made = absurd quiet

-- ---- the standing

-- P holds of the standing until a command takes effect, which is one that is spared, and Q after it
module _ (s : State) (f g : Standing) (reserving : Option Raise) (P : Standing → Type 0) (Q : Option Command → Standing
    → Type 0) (Spares : Option Command → Type 0)
    (raised : (x : Standing) (raise : Raise) → first_raise x (tx_side s) (rx_side s) ≡ Some raise → P x
    → P (standing_with_raise x raise))
    (reserved : (raise : Raise) → reserving ≡ Some raise → P f → P (standing_with_raise f raise))
    (none : (x : Standing) → P x → Q None x)
    (made : (command : Command) (x y : Standing) → accept x command ≡ Ok y → Spares (Some command) → P x
    → Q (Some command) y) where
  -- the reservation under way is done
  reserved_by : (o : Option Raise) → reserving ≡ o → P f → P (standing_with_reserved f o)
  reserved_by None is holds = holds
  reserved_by (Some raise) is holds = reserved raise is holds

  to : (x : Standing) → g ≡ x → P x → Q None g
  to x is holds = none g (subst P (sym is) holds)

  after_made : (o : Option Command) → StandsAfter o f g → Spares o → P f → Q o g
  after_made None stands spares holds = to f stands holds
  after_made (Some command) stands spares holds = made command f g stands spares holds

  refilled : (next : Option Raise) → IsRefilled (tx_side s) (rx_side s) (standing_with_reserved f reserving) g next
      → P f → Q None g
  refilled next is holds =
      none g (raises-keep (tx_side s) (rx_side s) P raised (standing_with_reserved f reserving) g is.raises is.raised
      (reserved_by reserving refl holds))

  -- through a call that lowers no ceiling
  pub stands-keep : (call : Call) (reply : Reply) → CeilingsAfter s f reserving call reply g
      → LowersNone call reply → Spares (command_made s call reply) → P f
      → Q (command_made s call reply) g
  stands-keep (Commands command) (Ran (Ok done)) stands lowers spares holds =
      made command (standing_with_reserved f reserving) g stands spares (reserved_by reserving refl holds)
  stands-keep (Commands command) (Ran (Err ran.GenerationsSpent)) stands lowers spares holds =
      to (standing_with_reserved f reserving) stands (reserved_by reserving refl holds)
  stands-keep (Commands command) (Ran (Err ran.Disk)) stands lowers spares holds = elim stands [
    | inl is ↦ to f is holds
    | inr is ↦ to (standing_with_reserved f reserving) is (reserved_by reserving refl holds)
  ]
  stands-keep (Commands command) (Ran (Err ran.Stopped)) stands lowers spares holds = to f stands holds
  stands-keep (Commands command) (Ran (Err ran.Busy)) stands lowers spares holds = to f stands holds
  stands-keep (Commands command) (Ran (Err (ran.Refused refusal))) stands lowers spares holds = to f stands holds
  stands-keep (Commands command) (Refilled result) stands lowers spares holds = to f stands holds
  stands-keep (Commands command) (Rested result) stands lowers spares holds = to f stands holds
  stands-keep (Commands command) (Submitted result) stands lowers spares holds = to f stands holds
  stands-keep (Commands command) RefusedLong stands lowers spares holds = to f stands holds
  stands-keep (Commands command) (AdvancedLong ticket) stands lowers spares holds = to f stands holds
  stands-keep (Commands command) (Advanced result) stands lowers spares holds = to f stands holds
  stands-keep (Commands command) (Protected result out) stands lowers spares holds = to f stands holds
  stands-keep (Commands command) (Received result out) stands lowers spares holds = to f stands holds
  stands-keep Refills (Refilled (Ok done)) stands lowers spares holds = refilled None stands holds
  stands-keep Refills (Refilled (Err refill.GenerationsSpent)) stands lowers spares holds =
      refilled (Some stands.0) stands.1 holds
  stands-keep Refills (Refilled (Err refill.Disk)) stands lowers spares holds = elim stands [
    | inl held ↦ to f held.2 holds
    | inr is ↦ refilled (Some is.0) is.1 holds
  ]
  stands-keep Refills (Refilled (Err refill.Stopped)) stands lowers spares holds = to f stands holds
  stands-keep Refills (Refilled (Err refill.Busy)) stands lowers spares holds = to f stands holds
  stands-keep Refills (Rested result) stands lowers spares holds = to f stands holds
  stands-keep Refills (Ran result) stands lowers spares holds = to f stands holds
  stands-keep Refills (Submitted result) stands lowers spares holds = to f stands holds
  stands-keep Refills RefusedLong stands lowers spares holds = to f stands holds
  stands-keep Refills (AdvancedLong ticket) stands lowers spares holds = to f stands holds
  stands-keep Refills (Advanced result) stands lowers spares holds = to f stands holds
  stands-keep Refills (Protected result out) stands lowers spares holds = to f stands holds
  stands-keep Refills (Received result out) stands lowers spares holds = to f stands holds
  stands-keep Rests (Rested (Ok done)) stands lowers spares holds = absurd lowers
  stands-keep Rests (Rested (Err rest.GenerationsSpent)) stands lowers spares holds =
      to (standing_with_reserved f reserving) stands (reserved_by reserving refl holds)
  stands-keep Rests (Rested (Err rest.Disk)) stands lowers spares holds = elim stands [
    | inl is ↦ to f is holds
    | inr is ↦ to (standing_with_reserved f reserving) is (reserved_by reserving refl holds)
  ]
  stands-keep Rests (Rested (Err rest.Stopped)) stands lowers spares holds = to f stands holds
  stands-keep Rests (Rested (Err rest.Busy)) stands lowers spares holds = to f stands holds
  stands-keep Rests (Ran result) stands lowers spares holds = to f stands holds
  stands-keep Rests (Refilled result) stands lowers spares holds = to f stands holds
  stands-keep Rests (Submitted result) stands lowers spares holds = to f stands holds
  stands-keep Rests RefusedLong stands lowers spares holds = to f stands holds
  stands-keep Rests (AdvancedLong ticket) stands lowers spares holds = to f stands holds
  stands-keep Rests (Advanced result) stands lowers spares holds = to f stands holds
  stands-keep Rests (Protected result out) stands lowers spares holds = to f stands holds
  stands-keep Rests (Received result out) stands lowers spares holds = to f stands holds
  stands-keep Advances (Advanced (Ok Idle)) stands lowers spares holds = to f stands holds
  stands-keep Advances (Advanced (Ok Worked)) stands lowers spares holds = to f stands holds
  stands-keep Advances (Advanced (Ok Reserved)) stands lowers spares holds =
      to (standing_with_raise f stands.0) stands.2 (reserved stands.0 stands.1 holds)
  stands-keep Advances (Advanced (Ok (Done ticket (Ok done)))) stands lowers spares holds =
      after_made (first_command s.waiting) stands spares holds
  stands-keep Advances (Advanced (Ok (Done ticket (Err fault)))) stands lowers spares holds = to f stands holds
  stands-keep Advances (Advanced (Err fault)) stands lowers spares holds = to f stands holds
  stands-keep Advances (Ran result) stands lowers spares holds = to f stands holds
  stands-keep Advances (Refilled result) stands lowers spares holds = to f stands holds
  stands-keep Advances (Rested result) stands lowers spares holds = to f stands holds
  stands-keep Advances (Submitted result) stands lowers spares holds = to f stands holds
  stands-keep Advances RefusedLong stands lowers spares holds = to f stands holds
  stands-keep Advances (AdvancedLong ticket) stands lowers spares holds = to f stands holds
  stands-keep Advances (Protected result out) stands lowers spares holds = to f stands holds
  stands-keep Advances (Received result out) stands lowers spares holds = to f stands holds
  stands-keep (Submits command) reply stands lowers spares holds = to f stands holds
  stands-keep (Protects plain) reply stands lowers spares holds = to f stands holds
  stands-keep (Receives frame) reply stands lowers spares holds = to f stands holds

-- ---- a command that was made durable

-- no frame passes in the call that made it durable
pub made-quiet : (s : State) (call : Call) (reply : Reply) (command : Command)
    → command_made s call reply ≡ Some command → PassesNone call
made-quiet s (Commands other) reply command made = tt
made-quiet s Refills reply command made = tt
made-quiet s Rests reply command made = tt
made-quiet s (Submits other) reply command made = tt
made-quiet s Advances reply command made = tt
made-quiet s (Protects plain) reply command made = absurd cc
made-quiet s (Receives frame) reply command made = absurd cc

-- a command, if there is one, was accepted, and made this of the standing before
abbrev pub IsAcceptedTo : Option Command → Standing → Type 0
IsAcceptedTo None new = Unit {0}
IsAcceptedTo (Some command) new = (old : Standing) × (accept old command ≡ Ok new)

by_keeping : (s : State) (f g : Standing) (reserving : Option Raise) (call : Call) (reply : Reply)
    → CeilingsAfter s f reserving call reply g → LowersNone call reply
    → IsAcceptedTo (command_made s call reply) g
by_keeping s f g reserving call reply stands lowers =
    stands-keep s f g reserving (λ (x : Standing). Unit {0}) IsAcceptedTo (λ (o : Option Command). Unit {0})
    (λ x raise first holds. tt)
    (λ raise is holds. tt) (λ x holds. tt) (λ command x y is spares holds. (x, is)) call reply stands lowers tt tt

-- so it is with the one that a call made durable
pub made-accepted : (s : State) (f g : Standing) (reserving : Option Raise) (call : Call) (reply : Reply)
    → CeilingsAfter s f reserving call reply g
    → IsAcceptedTo (command_made s call reply) g
made-accepted s f g reserving Rests reply stands = tt
made-accepted s f g reserving (Commands command) reply stands =
    by_keeping s f g reserving (Commands command) reply stands tt
made-accepted s f g reserving Refills reply stands = by_keeping s f g reserving Refills reply stands tt
made-accepted s f g reserving (Submits command) reply stands =
    by_keeping s f g reserving (Submits command) reply stands tt
made-accepted s f g reserving Advances reply stands = by_keeping s f g reserving Advances reply stands tt
made-accepted s f g reserving (Protects plain) reply stands =
    by_keeping s f g reserving (Protects plain) reply stands tt
made-accepted s f g reserving (Receives frame) reply stands =
    by_keeping s f g reserving (Receives frame) reply stands tt
