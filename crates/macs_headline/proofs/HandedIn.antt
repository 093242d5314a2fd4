-- What is under way at the end of a life was given to a call of it.
use Rattle.std.proofs.Common.{◌≡◌, ◌⊎◌, ◌+◌, inl, inr, ℕ, true, false, List, [], ◌∷◌, Option, Some, None, Err, refl}
use Rattle.std.proofs.Common.{sym, ◌∙◌, ap, subst}
use Rattle.std.specs.Prelude.{Contains}
use Rattle.std.proofs.lemmas.Bool.{false≢true}
use Rattle.macs_config.specs.declared.command.Command.{Command}
use Rattle.macs_endpoint.specs.Queue.{first_command, with_waiting}
use Rattle.macs_endpoint.specs.declared.fault.CommandFault.TheVariants as ran
use Rattle.macs_endpoint.specs.declared.queue.Waiting.{Waiting}
use Rattle.macs_endpoint.specs.Restart.{opened_state}
use Rattle.macs_endpoint.specs.State.{Call, Commands, Ran, Reply, State}
use Rattle.macs_endpoint.specs.Step.{Exchange, Step, Steps, TakesUp}
use Rattle.macs_headline.specs.Commands.{UnderWayWasGiven, WasHandedIn, failing, waiting_at_end}
use Rattle.macs_headline.specs.History.{logs_of, state_at_end}
use Rattle.macs_headline.proofs.Changes.{Begins, BeginsAndStops, Breaks, Change, Completes, Delivers, Drops, HoldsBack}
use Rattle.macs_headline.proofs.Changes.{Obeys, Queues, Sends, Stays, Stops, change-of}
use Rattle.macs_headline.proofs.Commands.{waits-from}
use Rattle.macs_headline.proofs.Ledger.{none_some, some_one}
use Rattle.macs_headline.proofs.LifeEnds.{IsTaken, by-end}
use Rattle.macs_headline.proofs.Lists.{contains-first, contains-later}

-- one more that waits leaves the first one
pub first_on : (waiting : List Waiting) (ticket : ℕ) (c d : Command) → first_command waiting ≡ Some d
    → first_command (with_waiting waiting ticket c) ≡ Some d
first_on [] ticket c d is = absurd (none_some d is)
first_on (first ∷ rest) ticket c d is = is

-- the first one that waits is under way after it is taken up
taken_up : (old new : State) → TakesUp old new → first_command new.waiting ≡ new.under_way
taken_up old new (first, rest, waiting, idle, accepts, is) =
    ap (λ (s : State). first_command s.waiting) is ∙ ap first_command waiting ∙ sym (ap (λ (s : State). s.under_way) is)

-- ---- calls

-- of commands that `command` answered with Disk this is known
module _ (Failed : Command → Type 0) where
  -- what is under way is the first that waits; or the endpoint is stopped, none waits, and `command` answered it with
  -- Disk
  abbrev IsHeld : State → Type 0
  IsHeld s = (c : Command) → s.under_way ≡ Some c
      → (first_command s.waiting ≡ Some c) ⊎ ((s.stopped ≡ true) × (s.waiting ≡ []) × Failed c)

  none_held : (s : State) → s.under_way ≡ None → IsHeld s
  none_held s none c is = absurd (none_some c (sym none ∙ is))

  first_held : (s : State) → first_command s.waiting ≡ s.under_way → IsHeld s
  first_held s first c is = inl (first ∙ is)

  same_held : (old new : State) → new ≡ old → IsHeld old → IsHeld new
  same_held old new is held = subst (λ (s : State). IsHeld s) (sym is) held

  -- an endpoint that ran has the same under way, and the same waits
  alike : (old new : State) → old.stopped ≡ false → new.under_way ≡ old.under_way → new.waiting ≡ old.waiting
      → IsHeld old
      → IsHeld new
  alike old new running hand waiting held c is = elim (held c (sym hand ∙ is)) [
    | inl first ↦ inl (ap first_command waiting ∙ first)
    | inr stopped ↦ absurd (false≢true (sym running ∙ stopped.0))
  ]

  -- what is known of an answer
  abbrev IsTold : Call → Reply → Type 0
  IsTold (Commands c) (Ran (Err ran.Disk)) = Failed c
  IsTold call reply = Unit {0}

  by_change : (old : State) (call : Call) (reply : Reply) (new : State) → IsTold call reply → old.stopped ≡ false
      → Change old call reply new → IsHeld old → IsHeld new
  by_change old call reply new told running (Stays is) held = same_held old new is held
  by_change old call reply new told running (Stops is) held =
      alike old new running (ap (λ (s : State). s.under_way) is) (ap (λ (s : State). s.waiting) is) held
  by_change old call reply new told running (Obeys c asked none makes) held =
      none_held new (ap (λ (s : State). s.under_way) makes.2)
  by_change old call reply new told running (Breaks c asked failed none accepts is) held =
      let known : Failed c = subst (λ (answer : Reply). IsTold (Commands c) answer) failed
      (subst (λ (call : Call). IsTold call reply) asked told) in
      λ d hand. inr (
        ap (λ (s : State). s.stopped) is,
        ap (λ (s : State). s.waiting) is ∙ none,
        subst Failed (some_one new.under_way c d (ap (λ (s : State). s.under_way) is) hand) known,
      )
  by_change old call reply new told running (Queues c asked is) held =
      λ d hand. elim (held d (sym (ap (λ (s : State). s.under_way) is) ∙ hand)) [
        | inl first ↦ inl
            (ap (λ (s : State). first_command s.waiting) is ∙ first_on old.waiting (old.tickets + 1) c d first)
        | inr stopped ↦ absurd (false≢true (sym running ∙ stopped.0))
      ]
  by_change old call reply new told running (Begins asked takes) held = first_held new (taken_up old new takes)
  by_change old call reply new told running (BeginsAndStops asked mid takes is) held =
      first_held new (ap (λ (s : State). first_command s.waiting) is ∙ taken_up old mid takes
      ∙ sym (ap (λ (s : State). s.under_way) is))
  by_change old call reply new told running (Completes asked first rest waiting makes) held =
      none_held new (ap (λ (s : State). s.under_way) makes.2)
  by_change old call reply new told running (Drops asked first rest waiting is) held =
      none_held new (ap (λ (s : State). s.under_way) is)
  by_change old call reply new told running (Sends plain asked pn out (none, (o, is_o, is_pn, is_out, is))) held =
      alike old new running (ap (λ (s : State). s.under_way) is) (ap (λ (s : State). s.waiting) is) held
  by_change old call reply new told running (HoldsBack frame asked a there is) held =
      alike old new running (ap (λ (s : State). s.under_way) is) (ap (λ (s : State). s.waiting) is) held
  by_change old call reply new told running (Delivers frame asked a there is) held =
      alike old new running (ap (λ (s : State). s.under_way) is) (ap (λ (s : State). s.waiting) is) held

  by_step : (old : State) (call : Call) (reply : Reply) (new : State) → IsTold call reply → Step old call reply new
      → IsHeld old → IsHeld new
  by_step old call reply new told (inl (stopped, answer, is)) held = same_held old new is held
  by_step old call reply new told (inr (running, h)) held =
      by_change old call reply new told running (change-of old new call reply h) held

  told_by : (call : Call) (reply : Reply) → ((c : Command)
      → ◌≡◌ {A = Exchange} (record { call = call; reply = reply }) (failing c) → Failed c) → IsTold call reply
  told_by (Commands c) (Ran (Err ran.Disk)) known = known c refl
  told_by call reply known = tt

  by_steps : (old : State) (exchanges : List Exchange) (new : State)
      → ((c : Command) → Contains exchanges (failing c) → Failed c) → Steps old exchanges new
      → IsHeld old → IsHeld new
  by_steps old [] new known steps held = same_held old new steps held
  by_steps old (e ∷ exchanges) new known (mid, step, steps) held =
      let told : IsTold e.call e.reply =
      told_by e.call e.reply (λ c same.
      known c (subst (λ (x : Exchange). Contains (e ∷ exchanges) x) same (contains-first e exchanges))) in
      by_steps mid exchanges new (λ c among. known c (contains-later e exchanges (failing c) among)) steps
      (by_step old e.call e.reply mid told step held)

-- ---- the end of a life

module _ (exchanges : List Exchange) (s : State) (waits : s.waiting ≡ waiting_at_end exchanges)
    (held : (c : Command) → s.under_way ≡ Some c
    → (first_command s.waiting ≡ Some c)
    ⊎ ((s.stopped ≡ true) × (s.waiting ≡ []) × Contains exchanges (failing c))) where
  -- under way after the last answer
  by_answers : (cut : Option Call) (c : Command) → s.under_way ≡ Some c → WasHandedIn exchanges cut c
  by_answers cut c is = elim (held c is) [
    | inl first ↦ inl (sym (ap first_command waits) ∙ first)
    | inr failed ↦ inr (sym waits ∙ failed.1, inl failed.2)
  ]

  -- or taken in the call that is cut short
  by_taking : (cut : Option Call) (c : Command) → IsTaken s cut c → WasHandedIn exchanges cut c
  by_taking cut c taken = elim taken.how [
    | inl own ↦ inr (sym waits ∙ own.1, inr own.0)
    | inr queued ↦
        let there = queued.2 in
        inl (sym (ap first_command waits) ∙ ap first_command there.2 ∙ ap (λ (c : Command). Some c) there.3)
  ]

  at_end : (cut : Option Call) (c : Command) → (state_at_end s cut).under_way ≡ Some c → WasHandedIn exchanges cut c
  at_end cut c = by-end (λ t. t.under_way ≡ Some c → WasHandedIn exchanges cut c) s (by_answers cut c) cut
      (λ d taken is. by_taking cut c (subst (IsTaken s cut) (some_one (Some d) d c refl is) taken))

pub under-way-was-given : (sectors : ℕ) → UnderWayWasGiven sectors
under-way-was-given sectors last m cut command is =
    let begun = opened_state m.life.found (logs_of m.past) in
    let failed : Command → Type 0 = λ c. Contains m.exchanges (failing c) in
    at_end m.exchanges last (waits-from [] begun m.exchanges last refl m.life.steps)
    (by_steps failed begun m.exchanges last (λ c among. among) m.life.steps (none_held failed begun refl))
    cut command is
