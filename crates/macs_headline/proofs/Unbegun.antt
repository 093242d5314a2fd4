-- A step in which no command begins: what a power loss inside it leaves fits the state before it.
use Rattle.std.proofs.lemmas.Bool.{cases_Bool, cases_lt}
use Rattle.std.proofs.Common.{◌≡◌, le_refl, ◌⊎◌, ◌&&◌, inl, inr, ℕ, Bool, true, false, cond, not, List, []}
use Rattle.std.proofs.Common.{◌∷◌, Option, Some, None, Result, Ok, Err, is_ok, refl, sym, ◌∙◌, ap, subst, arith}
use Rattle.macs_config.specs.Apply.{apply}
use Rattle.macs_config.specs.Config.{this_edition}
use Rattle.macs_config.specs.declared.command.Command.{Command}
use Rattle.macs_disk.specs.Disk.{Disk, IsHonest, LeftSince}
use Rattle.macs_disk.specs.States.{DiskState, Image, IsImage}
use Rattle.macs_endpoint.specs.Advancing.{BeginsWith, GoesOn, Due, ToKeep, ToRaise, next_due}
use Rattle.macs_endpoint.specs.Advancing.{due_among}
use Rattle.macs_endpoint.specs.Calls.{IsCall}
use Rattle.macs_endpoint.specs.Ceilings.{Raise}
use Rattle.macs_endpoint.specs.Needed.{raise_in}
use Rattle.macs_endpoint.specs.Queue.{first_waiting}
use Rattle.macs_endpoint.specs.Restart.{Fits, state_during, state_taking_first}
use Rattle.macs_endpoint.specs.State.{Advanced, AdvancedLong, Advances, Logs, Reply, State, state_after_fault}
use Rattle.macs_endpoint.specs.State.{state_with_under_way}
use Rattle.macs_endpoint.specs.Step.{AdvanceStep, TakesUp}
use Rattle.macs_endpoint.specs.Value.{EndpointValue, IsAtRest, IsBacked, IsKeeping, IsReserving, IsSoundEndpoint}
use Rattle.macs_endpoint.specs.Value.{disk_in, is_stopped, state_of}
use Rattle.macs_endpoint.specs.declared.fault.StepFault.{StepFault}
use Rattle.macs_endpoint.specs.declared.fault.StepFault.TheVariants as advance
use Rattle.macs_endpoint.specs.declared.progress.Step.{Step as Progress}
use Rattle.macs_endpoint.specs.declared.progress.Step.TheVariants.{Done, Idle, Reserved, Worked}
use Rattle.macs_endpoint.specs.declared.queue.Waiting.{Waiting}
use Rattle.macs_endpoint.specs.declared.turn.Turn.{Turn}
use Rattle.macs_endpoint.specs.declared.turn.Turn.TheVariants as turn
use Rattle.macs_headline.proofs.Cuts.{cut-call, fits_running}
use Rattle.macs_headline.proofs.Ledger.{none_some}

-- a command that is taken up is under way
takes_one : (s mid : State) → TakesUp s mid → mid.under_way ≡ None → ⊥
takes_one s mid (first, rest, waiting, idle, accepts, is) none =
    none_some first.command (sym none ∙ ap (λ (t : State). t.under_way) is)

-- the state is as before, or stopped
abbrev Stays : State → State → Type 0
Stays old new = (new ≡ old) ⊎ (new ≡ state_after_fault old)

-- a step while a ceiling is being raised
raised_state : {D : Type 0} (old new : EndpointValue D) (logs later : Logs) (result : Result Progress StepFault)
    → IsReserving old → GoesOn old result new
    → AdvanceStep (state_of old logs) result (state_of new later) → Stays (state_of old logs) (state_of new later)
raised_state old new logs later (Ok Idle) at goes step = absurd goes
raised_state old new logs later (Ok Worked) at goes (inl same) = inl same
raised_state old new logs later (Ok Worked) at goes (inr takes) =
    absurd (takes_one (state_of old logs) (state_of new later) takes (goes.1 ∙ at.under_way))
raised_state old new logs later (Ok Reserved) at goes step = inl step
raised_state old new logs later (Ok (Done ticket (Ok done))) at goes step =
    absurd (none_some goes.0.0 (sym at.under_way ∙ goes.0.1))
raised_state old new logs later (Ok (Done ticket (Err fault))) at goes step = absurd goes
raised_state old new logs later (Err advance.Disk) at goes (inl same) = inr same
raised_state old new logs later (Err advance.Disk) at goes (inr (mid, takes, is)) =
    absurd (takes_one (state_of old logs) mid takes (ap (λ (s : State). s.under_way) (sym is) ∙ goes ∙ at.under_way))
raised_state old new logs later (Err fault) at goes step = absurd goes

-- a step that begins to raise one
begun_state : {D : Type 0} (old new : EndpointValue D) (logs later : Logs) (raise : Raise)
    (result : Result Progress StepFault)
    → BeginsWith old (Some (ToRaise raise)) result new → AdvanceStep (state_of old logs) result (state_of new later)
    → Stays (state_of old logs) (state_of new later)
begun_state old new logs later raise (Ok Idle) begins step = absurd begins
begun_state old new logs later raise (Ok Worked) begins (inl same) = inl same
begun_state old new logs later raise (Ok Worked) begins (inr takes) =
    absurd (takes_one (state_of old logs) (state_of new later) takes begins.2)
begun_state old new logs later raise (Ok Reserved) begins step = absurd begins
begun_state old new logs later raise (Ok (Done ticket result)) begins step = absurd begins
begun_state old new logs later raise (Err advance.Disk) begins (inl same) = inr same
begun_state old new logs later raise (Err advance.Disk) begins (inr (mid, takes, is)) =
    absurd (takes_one (state_of old logs) mid takes (ap (λ (s : State). s.under_way) (sym is) ∙ begins))
begun_state old new logs later raise (Err advance.GenerationsSpent) begins step = inl step
begun_state old new logs later raise (Err advance.Stopped) begins step = absurd step

module _ {D : Type 0} (disk_of : D → Disk) (last after : EndpointValue D) (logs : Logs)
    (running : is_stopped last ≡ false)
    (honest : IsHonest (disk_in disk_of last)) (backed : IsBacked disk_of last) (image : Image)
    (stays : (result : Result Progress StepFault) (later : Logs) → IsCall disk_of last Advances (Advanced result) after
    → AdvanceStep (state_of last logs) result (state_of after later)
    → Stays (state_of last logs) (state_of after later)) where
  left_still : (result : Result Progress StepFault) → IsCall disk_of last Advances (Advanced result) after
      → (later : Logs)
      → AdvanceStep (state_of last logs) result (state_of after later)
      → LeftSince (disk_in disk_of after) (disk_in disk_of last).clock image
      → Fits this_edition (disk_in disk_of last).sectors image (state_of last logs)
  left_still result is later step (k, from, to, left) =
      let old = disk_in disk_of last in
      let new = disk_in disk_of after in
      let most = (is.behaves.advances running).one in
      elim (cases_lt old.clock k) [
        | inr early ↦
            let same : k ≡ old.clock = omega (arith, from, early) in
            backed.fits logs image
            (subst (λ (s : DiskState). IsImage s image) (is.device.works.past old.clock (le_refl old.clock))
            (subst (λ (k : ℕ). IsImage (new.past k) image) same left))
        | inl late ↦
            let same : k ≡ new.clock = omega (arith, late, to, most) in
            let fits = (is.survives (is.device.works.honest ∙ honest) backed).backed.fits later image
            (subst (λ (k : ℕ). IsImage (new.past k) image) same left) in
            let here =
            subst (λ (n : ℕ). Fits this_edition n image (state_of after later)) is.device.works.sectors fits in
            elim (stays result later is step) [
              | inl same ↦ subst (Fits this_edition old.sectors image) same here
              | inr stopped ↦ fits_running this_edition old.sectors image (state_of last logs)
                  (subst (Fits this_edition old.sectors image) stopped here)
            ]
      ]

  -- what a power loss at some moment of such a step leaves
  cut_still : (reply : Reply) → IsCall disk_of last Advances reply after
      → LeftSince (disk_in disk_of after) (disk_in disk_of last).clock image
      → Fits this_edition (disk_in disk_of last).sectors image (state_of last logs)
  cut_still (Advanced result) is left =
      let step = is.behaves.step logs in
      elim step.1 [
        | inl stopped ↦ let both : true ≡ false = sym stopped.0 ∙ running in absurd (cc)
        | inr ran ↦ left_still result is step.0 ran.1 left
      ]
  cut_still (AdvancedLong ticket) is left = absurd is.behaves.still
  cut_still reply is left =
      let step = is.behaves.step logs in
      elim step.1 [
        | inl stopped ↦ let both : true ≡ false = sym stopped.0 ∙ running in absurd (cc)
        | inr ran ↦ absurd ran.1
      ]

-- ---- where a step takes nothing up by itself

-- a command is under way, none waits, or the endpoint is stopped
during_held : (s : State) (c : Command) (under_way : Option Command) → under_way ≡ Some c
    → state_taking_first s under_way s.waiting ≡ s
during_held s c None is = absurd (none_some c is)
during_held s c (Some held) is = refl

during_none : (s : State) (under_way : Option Command) (waiting : List Waiting) → waiting ≡ []
    → state_taking_first s under_way waiting ≡ s
during_none s None [] is = refl
during_none s None (first ∷ rest) is = absurd (cc)
during_none s (Some held) waiting is = refl

stopped_takes : (stopped accepts : Bool) (a b : State) → stopped ≡ true → cond (not stopped && accepts) a b ≡ b
stopped_takes true accepts a b is = refl
stopped_takes false accepts a b is = absurd (cc)

during_stopped : (s : State) (under_way : Option Command) (waiting : List Waiting) → s.stopped ≡ true
    → state_taking_first s under_way waiting ≡ s
during_stopped s None [] is = refl
during_stopped s None (first ∷ rest) is =
    stopped_takes s.stopped (is_ok (apply s.edition s.identity s.config first.command))
    (state_with_under_way s first.command) s is
during_stopped s (Some held) waiting is = refl

-- where nothing is due, nothing waits
none_there : (whose : Turn) (raise : Option Raise) (waiting : List Waiting)
    → due_among whose raise (first_waiting waiting) ≡ None → waiting ≡ []
none_there whose raise [] is = refl
none_there whose None (first ∷ rest) is = absurd (cc)
none_there turn.Reservation (Some raise) (first ∷ rest) is = absurd (cc)
none_there turn.Command (Some raise) (first ∷ rest) is = absurd (cc)

-- ---- the whole

-- no ceiling is being raised, and to keep a command is next
abbrev pub IsToKeep : {D : Type 0} → EndpointValue D → Type 0
IsToKeep e = (first : Waiting) × (e.reserving ≡ None) × (next_due e ≡ Some (ToKeep first))

module _ {D : Type 0} (disk_of : D → Disk) (last after : EndpointValue D) (logs : Logs) (sound : IsSoundEndpoint last)
    (honest : IsHonest (disk_in disk_of last)) (backed : IsBacked disk_of last) (reply : Reply)
    (is : IsCall disk_of last Advances reply after)
    (image : Image) (left : LeftSince (disk_in disk_of after) (disk_in disk_of last).clock image) where
  abbrev FitsBefore : State → Type 0
  FitsBefore s = Fits this_edition (disk_in disk_of last).sectors image s

  -- it takes nothing up by itself
  by_during : state_during (state_of last logs) Advances ≡ state_of last logs → FitsBefore (state_of last logs)
  by_during same =
      subst FitsBefore same (cut-call disk_of last after logs reply sound honest backed Advances is image left)

  -- it begins to raise a ceiling
  by_raise : (raise : Raise) → IsAtRest last → next_due last ≡ Some (ToRaise raise) → is_stopped last ≡ false
      → FitsBefore (state_of last logs)
  by_raise raise at next running =
      cut_still disk_of last after logs running honest backed image
      (λ result later call step.
      begun_state last after logs later raise result
      (subst (λ (piece : Option Due). BeginsWith last piece result after) next
      ((call.behaves.advances running).begins at.store)) step)
      reply is left

  -- by what is next
  by_piece : (piece : Option Due) → next_due last ≡ piece → IsAtRest last → (¬ IsToKeep last)
      → FitsBefore (state_of last logs)
  by_piece None next at apart =
      by_during (during_none (state_of last logs) last.under_way last.waiting
      (none_there last.turn (raise_in last) last.waiting next))
  by_piece (Some (ToKeep first)) next at apart = absurd (apart (first, at.reserving, next))
  by_piece (Some (ToRaise raise)) next at apart = elim (cases_Bool (is_stopped last)) [
    | inl stopped ↦ by_during (during_stopped (state_of last logs) last.under_way last.waiting stopped)
    | inr running ↦ by_raise raise at next running
  ]

  -- what a power loss at some moment of a step leaves that is not to keep a command
  pub cut-unbegun : (¬ IsToKeep last) → IsAtRest last ⊎ (IsReserving last ⊎ IsKeeping last)
      → FitsBefore (state_of last logs)
  cut-unbegun apart (inl at) = by_piece (next_due last) refl at apart
  cut-unbegun apart (inr (inl at)) =
      cut_still disk_of last after logs at.running honest backed image
      (λ result later call step. raised_state last after logs later result
      at ((call.behaves.advances at.running).goes_on at.busy) step) reply is left
  cut-unbegun apart (inr (inr at)) =
      by_during (during_held (state_of last logs) at.first.command last.under_way at.under_way)
