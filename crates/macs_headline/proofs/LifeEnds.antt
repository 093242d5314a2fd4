-- The state in which a life ends: as after its last answer, or with a command under way that the call which is cut
-- short may have taken.
use Rattle.std.proofs.Common.{◌≡◌, ◌⊎◌, ◌&&◌, inl, inr, Bool, true, false, cond, not, is_ok, List, [], ◌∷◌, Option}
use Rattle.std.proofs.Common.{Some}
use Rattle.std.proofs.Common.{None, refl}
use Rattle.macs_config.specs.Apply.{apply}
use Rattle.macs_config.specs.declared.command.Command.{Command}
use Rattle.macs_endpoint.specs.Restart.{state_taking, state_taking_alone, state_taking_first}
use Rattle.macs_endpoint.specs.State.{Accepts, Advances, Call, Commands, Protects, Receives, Refills, State, Submits}
use Rattle.macs_endpoint.specs.State.{state_with_under_way}
use Rattle.macs_endpoint.specs.State.{Rests}
use Rattle.macs_endpoint.specs.declared.queue.Waiting.{Waiting}
use Rattle.macs_headline.specs.History.{state_at_end}

-- The call takes this command: its own where none waits, or in a step the first that waits where none is under way.
pub record IsTaken (s : State) (cut : Option Call) (c : Command) : Type 0 where
  pub running : s.stopped ≡ false
  pub accepts : Accepts s c
  pub how : ((cut ≡ Some (Commands c)) × (s.waiting ≡ []))
      ⊎ ((cut ≡ Some Advances) × (s.under_way ≡ None)
      × ((first : Waiting) × (rest : List Waiting) × (s.waiting ≡ first ∷ rest) × (first.command ≡ c)))

-- what holds of the state as it was, and with each command that may have been taken
module _ (P : State → Type 0) (s : State) (was : P s) where
  chosen : (stopped accepts : Bool) (x : State) → (stopped ≡ false → accepts ≡ true → P x)
      → P (cond (not stopped && accepts) x s)
  chosen true accepts x this = was
  chosen false true x this = this refl refl
  chosen false false x this = was

  by_taking : (c : Command) → (s.stopped ≡ false → Accepts s c → P (state_with_under_way s c)) → P (state_taking s c)
  by_taking c this = chosen s.stopped (is_ok (apply s.edition s.identity s.config c)) (state_with_under_way s c) this

  by_alone : (c : Command) (waiting : List Waiting) → s.waiting ≡ waiting
      → ((d : Command) → IsTaken s (Some (Commands c)) d → P (state_with_under_way s d))
      → P (state_taking_alone s c waiting)
  by_alone c [] none taken = by_taking c
      (λ running accepts. taken c (record { running = running; accepts = accepts; how = inl (refl, none) }))
  by_alone c (first ∷ rest) some taken = was

  by_first : (under_way : Option Command) (waiting : List Waiting) → s.under_way ≡ under_way → s.waiting ≡ waiting
      → ((d : Command) → IsTaken s (Some Advances) d → P (state_with_under_way s d))
      → P (state_taking_first s under_way waiting)
  by_first None [] idle none taken = was
  by_first None (first ∷ rest) idle waits taken = by_taking first.command (λ running accepts. taken first.command
      (record { running = running; accepts = accepts; how = inr (refl, idle, (first, rest, waits, refl)) }))
  by_first (Some c) waiting hand waits taken = was

  -- holds of the state in which the life ends
  pub by-end : (cut : Option Call) → ((c : Command) → IsTaken s cut c → P (state_with_under_way s c))
      → P (state_at_end s cut)
  by-end None taken = was
  by-end (Some (Commands c)) taken = by_alone c s.waiting refl taken
  by-end (Some Refills) taken = was
  by-end (Some Rests) taken = was
  by-end (Some (Submits c)) taken = was
  by-end (Some Advances) taken = by_first s.under_way s.waiting refl refl taken
  by-end (Some (Protects plain)) taken = was
  by-end (Some (Receives frame)) taken = was
