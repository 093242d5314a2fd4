-- How long work under way lasts, and whose turn it is, over several calls.
use Rattle.std.specs.Prelude.{◌≡◌, ◌≢◌, ◌+◌, ℕ, false, List, [], ◌∷◌, None, Ok, Err}
use Rattle.macs_store.specs.Value.{IsIdle}
use Rattle.macs_endpoint.specs.Lives.{Transition}
use Rattle.macs_endpoint.specs.Needed.{raise_in}
use Rattle.macs_endpoint.specs.State.{Advanced, Advances, Call, Refilled, Reply, Rested}
use Rattle.macs_endpoint.specs.Value.{EndpointValue, is_stopped}
use Rattle.macs_endpoint.specs.declared.fault.RefillFault.TheVariants as refill
use Rattle.macs_endpoint.specs.declared.fault.RestFault.TheVariants as rest
use Rattle.macs_endpoint.specs.declared.fault.StepFault.TheVariants as step
use Rattle.macs_endpoint.specs.declared.progress.Step.TheVariants.{Done, Reserved}

-- ---- work under way

-- 1 for a step, else 0
abbrev pub steps_in_call : Call → ℕ
steps_in_call Advances = 1
steps_in_call call = 0

-- how many of these calls are steps
abbrev pub steps_made : {D : Type 0} → List (Transition D) → ℕ
steps_made [] = 0
steps_made (turn ∷ turns) = steps_in_call turn.call + steps_made turns

-- work is under way before each of these calls, and none of them finds or makes the endpoint stopped
abbrev pub Lasts : {D : Type 0} → EndpointValue D → List (Transition D) → Type 0
Lasts e [] = Unit {0}
Lasts e (turn ∷ turns) = (¬ IsIdle e.store) × (is_stopped turn.after ≡ false) × Lasts turn.after turns

-- ---- turns of reservations

-- 1 if a reservation used its turn, made or refused, else 0
abbrev pub reservations_in_reply : Reply → ℕ
reservations_in_reply (Advanced (Ok Reserved)) = 1
reservations_in_reply (Advanced (Err step.GenerationsSpent)) = 1
reservations_in_reply reply = 0

-- how many of these calls have such an answer
abbrev pub reservations_made : {D : Type 0} → List (Transition D) → ℕ
reservations_made [] = 0
reservations_made (turn ∷ turns) = reservations_in_reply turn.reply + reservations_made turns

-- an answer does not report that a submitted command is completed
abbrev pub IsNotDone : Reply → Type 0
IsNotDone (Advanced (Ok (Done ticket result))) = ⊥
IsNotDone reply = Unit {0}

-- none of these answers does
abbrev pub NoneDone : {D : Type 0} → List (Transition D) → Type 0
NoneDone [] = Unit {0}
NoneDone (turn ∷ turns) = IsNotDone turn.reply × NoneDone turns

-- ---- turns of commands

-- a ceiling is needed before each of these calls
abbrev pub Needs : {D : Type 0} → EndpointValue D → List (Transition D) → Type 0
Needs e [] = Unit {0}
Needs e (turn ∷ turns) = (raise_in e ≢ None) × Needs turn.after turns

-- an answer does not report that a step raised a ceiling, or that none can be raised; nor a rest, which may have
-- finished a reservation
abbrev pub IsNotReserved : Reply → Type 0
IsNotReserved (Advanced (Ok Reserved)) = ⊥
IsNotReserved (Advanced (Err step.GenerationsSpent)) = ⊥
IsNotReserved (Refilled (Err refill.GenerationsSpent)) = ⊥
IsNotReserved (Rested (Ok done)) = ⊥
IsNotReserved (Rested (Err rest.GenerationsSpent)) = ⊥
IsNotReserved reply = Unit {0}

-- none of these answers does
abbrev pub NoneReserved : {D : Type 0} → List (Transition D) → Type 0
NoneReserved [] = Unit {0}
NoneReserved (turn ∷ turns) = IsNotReserved turn.reply × NoneReserved turns

-- 1 if a submitted command is completed, kept or refused, else 0
abbrev pub commands_in_reply : Reply → ℕ
commands_in_reply (Advanced (Ok (Done ticket result))) = 1
commands_in_reply reply = 0

-- how many of these calls have such an answer
abbrev pub commands_done : {D : Type 0} → List (Transition D) → ℕ
commands_done [] = 0
commands_done (turn ∷ turns) = commands_in_reply turn.reply + commands_done turns
