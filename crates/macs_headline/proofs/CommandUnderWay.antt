-- Work on what is under way at the end of a life began in a call that may begin it, and it is accepted.
use Rattle.std.proofs.Common.{◌≡◌, ◌∷◌, ◌∙◌, inl, inr, ℕ, List, [], Option, Some, None, refl, sym, ap, subst}
use Rattle.macs_config.specs.declared.command.Command.{Command}
use Rattle.macs_endpoint.specs.Queue.{first_command}
use Rattle.macs_endpoint.specs.Restart.{opened_state}
use Rattle.macs_endpoint.specs.declared.queue.Waiting.{Waiting}
use Rattle.macs_endpoint.specs.State.{Call, Commands, Reply, State, state_with_under_way}
use Rattle.macs_endpoint.specs.Step.{Exchange, Step, Steps, TakesUp}
use Rattle.macs_headline.specs.Commands.{MayBegin, WasBegun, refusal_at, waiting_at_end}
use Rattle.macs_headline.specs.History.{logs_of, state_at_end}
use Rattle.macs_headline.specs.Moments.{Moment}
use Rattle.macs_headline.proofs.Accepted.{no-refusal}
use Rattle.macs_headline.proofs.Changes.{Begins, BeginsAndStops, Breaks, Change, Completes, Delivers, Drops, HoldsBack}
use Rattle.macs_headline.proofs.Changes.{Obeys, Queues, Sends, Stays, Stops, change-of}
use Rattle.macs_headline.proofs.Commands.{waits-from}
use Rattle.macs_headline.proofs.Ledger.{none_some, some_one}
use Rattle.macs_headline.proofs.LifeEnds.{IsTaken, by-end}

-- ---- what is under way after an answer

-- no reason holds to refuse what is under way
abbrev IsAccepted : State → Type 0
IsAccepted s = (c : Command) → s.under_way ≡ Some c → refusal_at s c ≡ None

none_under_way : (s : State) → s.under_way ≡ None → IsAccepted s
none_under_way s none c hand = absurd (none_some c (sym none ∙ hand))

one_under_way : (old : State) (c : Command) → refusal_at old c ≡ None → IsAccepted (state_with_under_way old c)
one_under_way old c why d hand = subst (λ (c : Command). refusal_at old c ≡ None) (some_one (Some c) c d refl hand) why

same_state : (old new : State) → new ≡ old → IsAccepted old → IsAccepted new
same_state old new is was = subst (λ (s : State). IsAccepted s) (sym is) was

taken_up : (old new : State) → TakesUp old new → IsAccepted new
taken_up old new (first, rest, waiting, idle, accepts, is) = subst (λ (s : State). IsAccepted s) (sym is)
    (one_under_way old first.command (no-refusal old.edition old.identity old.config first.command accepts))

by_change : (old : State) (call : Call) (reply : Reply) (new : State) → Change old call reply new → IsAccepted old
    → IsAccepted new
by_change old call reply new (Stays is) was = same_state old new is was
by_change old call reply new (Stops is) was = subst (λ (s : State). IsAccepted s) (sym is) was
by_change old call reply new (Obeys c asked none makes) was =
    none_under_way new (ap (λ (s : State). s.under_way) makes.2)
by_change old call reply new (Breaks c asked told none accepts is) was = subst (λ (s : State). IsAccepted s) (sym is)
    (one_under_way old c (no-refusal old.edition old.identity old.config c accepts))
by_change old call reply new (Queues c asked is) was = subst (λ (s : State). IsAccepted s) (sym is) was
by_change old call reply new (Begins asked takes) was = taken_up old new takes
by_change old call reply new (BeginsAndStops asked mid takes is) was =
    subst (λ (s : State). IsAccepted s) (sym is) (taken_up old mid takes)
by_change old call reply new (Completes asked first rest waiting makes) was =
    none_under_way new (ap (λ (s : State). s.under_way) makes.2)
by_change old call reply new (Drops asked first rest waiting is) was =
    none_under_way new (ap (λ (s : State). s.under_way) is)
by_change old call reply new (Sends plain asked pn out (none, (o, is_o, is_pn, is_out, is))) was =
    subst (λ (s : State). IsAccepted s) (sym is) was
by_change old call reply new (HoldsBack frame asked a there is) was = subst (λ (s : State). IsAccepted s) (sym is) was
by_change old call reply new (Delivers frame asked a there is) was = subst (λ (s : State). IsAccepted s) (sym is) was

by_step : (old : State) (call : Call) (reply : Reply) (new : State) → Step old call reply new → IsAccepted old
    → IsAccepted new
by_step old call reply new (inl (stopped, answer, is)) was = same_state old new is was
by_step old call reply new (inr (running, h)) was = by_change old call reply new (change-of old new call reply h) was

by_steps : (old : State) (exchanges : List Exchange) (new : State) → Steps old exchanges new → IsAccepted old
    → IsAccepted new
by_steps old [] new is was = same_state old new is was
by_steps old (e ∷ exchanges) new (mid, step, steps) was =
    by_steps mid exchanges new steps (by_step old e.call e.reply mid step was)

-- ---- the end of a life

module _ (exchanges : List Exchange) (s : State) (waits : s.waiting ≡ waiting_at_end exchanges)
    (accepted : IsAccepted s) where
  -- the call that is cut short may begin what it takes
  may_begin : (cut : Option Call) (c : Command) → IsTaken s cut c → MayBegin cut (waiting_at_end exchanges) c
  may_begin cut c taken = elim taken.how [
    | inl own ↦ subst (λ (cut : Option Call). MayBegin cut (waiting_at_end exchanges) c) (sym own.0)
        (subst (λ (waiting : List Waiting). MayBegin (Some (Commands c)) waiting c) (sym own.1 ∙ waits) refl)
    | inr queued ↦
        let there = queued.2 in
        subst (λ (cut : Option Call). MayBegin cut (waiting_at_end exchanges) c) (sym queued.0)
        (sym (ap first_command waits) ∙ ap first_command there.2 ∙ ap (λ (c : Command). Some c) there.3)
  ]

  -- under way after the last answer, or taken in that call
  at_end : (cut : Option Call) (c : Command) → (state_at_end s cut).under_way ≡ Some c → WasBegun exchanges s cut c
  at_end cut c = by-end (λ t. t.under_way ≡ Some c → WasBegun exchanges s cut c) s
      (λ hand. record { begun = inl hand; accepted = accepted c hand }) cut
      (λ d taken is. subst (λ (c : Command). WasBegun exchanges s cut c) (some_one (Some d) d c refl is) (record {
        begun = inr (taken.running, may_begin cut d taken);
        accepted = no-refusal s.edition s.identity s.config d taken.accepts;
      }))

-- what is under way at any moment at which a life ends, inside a call or not, was begun
pub under-way-was-begun : (sectors : ℕ) (last : State) (m : Moment sectors last) (cut : Option Call)
    (command : Command) → (state_at_end last cut).under_way ≡ Some command → WasBegun m.exchanges last cut command
under-way-was-begun sectors last m cut command is =
    let begun = opened_state m.life.found (logs_of m.past) in
    at_end m.exchanges last (waits-from [] begun m.exchanges last refl m.life.steps)
    (by_steps begun m.exchanges last m.life.steps (none_under_way begun refl)) cut command is
