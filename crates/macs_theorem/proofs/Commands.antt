-- What commands and steps are answered is expected, and what an observer then knows is so.
use Rattle.std.proofs.Common.{◌≡◌, ◌+◌, inl, inr, ℕ, Bool, true, false, List, [], ◌∷◌, Option, Some, None, Result, Ok}
use Rattle.std.proofs.Common.{Err, refl, sym, ◌∙◌, ap}
use Rattle.std.proofs.lemmas.Bool.{false≢true}
use Rattle.std.specs.Option.{option_or}
use Rattle.std.specs.Prelude.{IsOk}
use Rattle.macs_config.specs.declared.command.Command.{Command}
use Rattle.macs_endpoint.specs.Queue.{first_command, with_waiting}
use Rattle.macs_endpoint.specs.State.{Advanced, Advances, Call, Commands, Delivery, Ran, Refilled, Refills, Reply}
use Rattle.macs_endpoint.specs.State.{State, Submits, Submitted, state_after_fault, state_with_under_way}
use Rattle.macs_endpoint.specs.State.{Rested, Rests}
use Rattle.macs_endpoint.specs.Step.{RestStep}
use Rattle.macs_endpoint.specs.declared.fault.RestFault.{RestFault}
use Rattle.macs_endpoint.specs.declared.fault.RestFault.TheVariants as rest
use Rattle.macs_endpoint.specs.Step.{AdvanceStep, CommandStep, Ends, RefillStep, SubmitStep, TakesUp}
use Rattle.macs_endpoint.specs.Step.{state_without_first}
use Rattle.macs_endpoint.specs.declared.fault.CommandFault.{CommandFault}
use Rattle.macs_endpoint.specs.declared.fault.CommandFault.TheVariants as ran
use Rattle.macs_endpoint.specs.declared.fault.RefillFault.{RefillFault}
use Rattle.macs_endpoint.specs.declared.fault.RefillFault.TheVariants as refill
use Rattle.macs_endpoint.specs.declared.fault.StepFault.{StepFault}
use Rattle.macs_endpoint.specs.declared.fault.StepFault.TheVariants as advance
use Rattle.macs_endpoint.specs.declared.fault.SubmitFault.{SubmitFault}
use Rattle.macs_endpoint.specs.declared.fault.SubmitFault.TheVariants as submit
use Rattle.macs_endpoint.specs.declared.progress.Step.{Step as Progress}
use Rattle.macs_endpoint.specs.declared.progress.Step.TheVariants.{Done, Idle, Reserved, Worked}
use Rattle.macs_endpoint.specs.declared.queue.Waiting.{Waiting}
use Rattle.macs_headline.proofs.HandedIn.{first_on}
use Rattle.macs_headline.proofs.Ledger.{none_some}
use Rattle.macs_theorem.specs.Observer.{ExpectsCall, IsNew, Observer, after_command, after_result, begin, begun_in}
use Rattle.macs_theorem.specs.Observer.{fail}
use Rattle.macs_theorem.proofs.Matches.{BeginsFirst, Follows, Matches, after-command, after-fault, is-new, may-begin}
use Rattle.macs_theorem.proofs.Matches.{follows-rested}
use Rattle.macs_theorem.proofs.Matches.{none-begins, none-under-way, same-state, with-hand, without-first}

-- ---- whose work may have begun

-- a command is the first that waits
abbrev pub IsFirst : Observer → Type 0
IsFirst o = (d : Command) → o.begun ≡ Some d → first_command o.waiting ≡ Some d

-- once an endpoint is stopped none begins
pub stopped-begins : (s : State) (o : Observer) → s.stopped ≡ true → BeginsFirst s o
stopped-begins s o stopped c is running = absurd (false≢true (sym running ∙ stopped))

-- a step begins the first that waits, or leaves it begun
pub begun-first : (stopped : Bool) (waiting : List Waiting) (begun : Option Command)
    → ((d : Command) → begun ≡ Some d → first_command waiting ≡ Some d)
    → (c : Command) → option_or begun (begun_in stopped Advances waiting) ≡ Some c → first_command waiting ≡ Some c
begun-first true waiting None first c is = absurd (none_some c is)
begun-first false [] None first c is = absurd (none_some c is)
begun-first false (one ∷ rest) None first c is = is
begun-first stopped waiting (Some d) first c is = first c is

module _ (stopped : Bool) (running : stopped ≡ false) (waiting : List Waiting) where
  pub begins-first : (begun : Option Command) → ((d : Command) → begun ≡ Some d → first_command waiting ≡ Some d)
      → (one : Waiting) (rest : List Waiting) → waiting ≡ one ∷ rest
      → option_or begun (begun_in stopped Advances waiting) ≡ Some one.command
  begins-first None first one rest is =
      ap (λ (b : Bool). begun_in b Advances waiting) running ∙ ap (begun_in false Advances) is
  begins-first (Some d) first one rest is = sym (first d refl) ∙ ap first_command is

  -- a command begins where none waits
  pub begins-alone : (begun : Option Command) → ((d : Command) → begun ≡ Some d → first_command waiting ≡ Some d)
      → (c : Command) → waiting ≡ [] → option_or begun (begun_in stopped (Commands c) waiting) ≡ Some c
  begins-alone None first c is =
      ap (λ (b : Bool). begun_in b (Commands c) waiting) running ∙ ap (begun_in false (Commands c)) is
  begins-alone (Some d) first c is = absurd (none_some d (sym (ap first_command is) ∙ first d refl))

-- ---- calls

-- a call is expected, and what is known after it is so
abbrev pub Goes : List Delivery → Observer → Call → Reply → State → Type 0
Goes earlier o call reply new =
    (later : Observer) × ExpectsCall o call reply later × Follows earlier new later

module _ (earlier : List Delivery) (old : State) (o : Observer) (m : Matches earlier old o) (first : IsFirst o) where
  -- nothing changes
  pub stays : (new : State) → new ≡ old → Follows earlier new o
  stays new is = record { matches = same-state earlier old new o is m; begins = λ d begun running. first d begun }

  -- a device call failed
  pub fails : (new : State) → new ≡ state_after_fault old → Follows earlier new (fail o)
  fails new is = record {
    matches = same-state earlier (state_after_fault old) new (fail o) is (after-fault earlier old o m);
    begins = stopped-begins new (fail o) (ap (λ (s : State). s.stopped) is);
  }

-- an endpoint that runs
module _ (earlier : List Delivery) (old : State) (o : Observer) (m : Matches earlier old o) (runs : old.stopped ≡ false)
    (first : IsFirst o) where
  stay : (new : State) → new ≡ old → Follows earlier new o
  stay = stays earlier old o m first

  stop : (new : State) → new ≡ state_after_fault old → Follows earlier new (fail o)
  stop = fails earlier old o m first

  pub by-command : (c : Command) (result : Result (Unit {0}) CommandFault) (new : State)
      → CommandStep old c result new → Goes earlier o (Commands c) (Ran result) new
  by-command c (Ok done) new (none, makes) = (
    after_command c o,
    (m.waiting ∙ none, is-new earlier old o c makes.0 makes.1 m, refl),
    record {
      matches = same-state earlier _ new _ makes.2 (after-command earlier old o c makes.0 makes.1 m);
      begins = none-begins new (after_command c o) refl;
    },
  )
  by-command c (Err ran.Busy) new h = (o, refl, stay new h.1)
  by-command c (Err (ran.Refused refusal)) new h = (o, refl, stay new h.2)
  by-command c (Err ran.GenerationsSpent) new h = (o, refl, stay new h.2)
  by-command c (Err ran.Disk) new (none, accepts, is) =
      let later = begin (Commands c) o in
      let begun = begins-alone o.stopped (m.stopped ∙ runs) o.waiting o.begun first c (m.waiting ∙ none) in (
        fail later,
        refl,
        record {
          matches = same-state earlier _ new (fail later) is (after-fault earlier (state_with_under_way old c) later
              (with-hand earlier old later c begun (may-begin earlier old o (Commands c) m)));
          begins = stopped-begins new (fail later) (ap (λ (s : State). s.stopped) is);
        },
      )
  by-command c (Err ran.Stopped) new h = absurd h

  pub by-submit : (c : Command) (result : Result ℕ SubmitFault) (new : State) → SubmitStep old c result new
      → Goes earlier o (Submits c) (Submitted result) new
  by-submit c (Ok ticket) new (few, left, is_ticket, is) =
      let later : Observer = record o { waiting = with_waiting o.waiting ticket c; tickets = ticket } in (
        later,
        (is_ticket ∙ (λ i. sym m.tickets i + 1), refl),
        record {
          matches = same-state earlier _ new later is (record {
            formatted = m.formatted;
            settings = m.settings;
            installed = m.installed;
            next = m.next;
            numbers = m.numbers;
            waiting = λ i. with_waiting (m.waiting i) (is_ticket i) c;
            tickets = is_ticket;
            stopped = m.stopped;
            sent = m.sent;
            delivered = m.delivered;
            before = m.before;
            hand = m.hand;
          });
          begins = λ d begun running. first_on o.waiting ticket c d (first d begun);
        },
      )
  by-submit c (Err submit.QueueFull) new h = (o, refl, stay new h.1)
  by-submit c (Err submit.TicketsSpent) new h = (o, refl, stay new h.2)
  by-submit c (Err submit.Stopped) new h = absurd h

  pub by-refill : (result : Result (Unit {0}) RefillFault) (new : State) → RefillStep old result new
      → Goes earlier o Refills (Refilled result) new
  by-refill (Ok done) new h = (o, refl, stay new h.1)
  by-refill (Err refill.Busy) new h = (o, refl, stay new h.1)
  by-refill (Err refill.GenerationsSpent) new h = (o, refl, stay new h.1)
  by-refill (Err refill.Disk) new h = (fail o, refl, stop new h.1)
  by-refill (Err refill.Stopped) new h = absurd h

  pub by-rest : (result : Result (Unit {0}) RestFault) (new : State) → RestStep old result new
      → Goes earlier o Rests (Rested result) new
  by-rest (Ok done) new h =
      (record o { rested = true }, (m.waiting ∙ h.0, refl), follows-rested earlier new o true (stay new h.1))
  by-rest (Err rest.Busy) new h = (o, refl, stay new h.1)
  by-rest (Err rest.GenerationsSpent) new h = (o, refl, stay new h.1)
  by-rest (Err rest.Disk) new h = (fail o, refl, stop new h.1)
  by-rest (Err rest.Stopped) new h = absurd h

  -- ---- steps

  abbrev later : Observer
  later = begin Advances o

  begins : Matches earlier old later
  begins = may-begin earlier old o Advances m

  still_first : IsFirst later
  still_first = begun-first o.stopped o.waiting o.begun first

  taken_up : (new : State) → TakesUp old new → Matches earlier new later
  taken_up new (one, rest, waiting, idle, accepts, is) =
      same-state earlier _ new later is (with-hand earlier old later one.command
      (begins-first o.stopped (m.stopped ∙ runs) o.waiting o.begun first one rest (m.waiting ∙ waiting)) begins)

  by_end : (one : Waiting) (rest : List Waiting) (result : Result (Unit {0}) CommandFault)
      (new : State) → Ends old one rest result new
      → Follows earlier new (after_result result one.command (record o { waiting = rest }))
  by_end one rest (Ok done) new makes = record {
    matches = same-state earlier _ new _ makes.2 (after-command earlier (state_without_first old rest)
        (record o { waiting = rest }) one.command makes.0 makes.1 (without-first earlier old o rest m));
    begins = none-begins new (after_command one.command (record o { waiting = rest })) refl;
  }
  by_end one rest (Err (ran.Refused refusal)) new h = record {
    matches = same-state earlier _ new _ h.2 (none-under-way earlier old o rest m);
    begins = none-begins new (record o { waiting = rest; begun = None }) refl;
  }
  by_end one rest (Err ran.GenerationsSpent) new h = record {
    matches = same-state earlier _ new _ h.2 (none-under-way earlier old o rest m);
    begins = none-begins new (record o { waiting = rest; begun = None }) refl;
  }
  by_end one rest (Err ran.Busy) new h = absurd h
  by_end one rest (Err ran.Disk) new h = absurd h
  by_end one rest (Err ran.Stopped) new h = absurd h

  new_if : (one : Waiting) (rest : List Waiting) (result : Result (Unit {0}) CommandFault) (new : State)
      → Ends old one rest result new → IsOk result → IsNew one.command o
  new_if one rest (Ok done) new makes is = is-new earlier old o one.command makes.0 makes.1 m
  new_if one rest (Err fault) new ends is = absurd (false≢true is)

  -- a step is idle only where no command waits
  abbrev pub IsFree : Result Progress StepFault → Type 0
  IsFree (Ok Idle) = old.waiting ≡ []
  IsFree result = Unit {0}

  pub by-advance : (result : Result Progress StepFault) (new : State) → IsFree result → AdvanceStep old result new
      → Goes earlier o Advances (Advanced result) new
  by-advance (Ok Idle) new free is = (o, (m.waiting ∙ free, refl), stay new is)
  by-advance (Ok Worked) new free (inl is) = (
    later,
    refl,
    record { matches = same-state earlier old new later is begins; begins = λ d begun running. still_first d begun },
  )
  by-advance (Ok Worked) new free (inr takes) =
      (later, refl, record { matches = taken_up new takes; begins = λ d begun running. still_first d begun })
  by-advance (Ok Reserved) new free is = (o, refl, stay new is)
  by-advance (Ok (Done ticket result)) new free (one, rest, waiting, is_ticket, ends) = (
    after_result result one.command (record o { waiting = rest }),
    (one, rest, m.waiting ∙ waiting, sym is_ticket, new_if one rest result new ends, refl),
    by_end one rest result new ends,
  )
  by-advance (Err advance.GenerationsSpent) new free is = (o, refl, stay new is)
  by-advance (Err advance.Disk) new free (inl is) = (
    fail later,
    refl,
    record {
      matches = same-state earlier _ new (fail later) is (after-fault earlier old later begins);
      begins = stopped-begins new (fail later) (ap (λ (s : State). s.stopped) is);
    },
  )
  by-advance (Err advance.Disk) new free (inr (mid, takes, is)) = (
    fail later,
    refl,
    record {
      matches = same-state earlier _ new (fail later) is (after-fault earlier mid later (taken_up mid takes));
      begins = stopped-begins new (fail later) (ap (λ (s : State). s.stopped) is);
    },
  )
  by-advance (Err advance.Stopped) new free h = absurd h
