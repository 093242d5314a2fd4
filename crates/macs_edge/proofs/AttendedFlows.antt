-- What goes each way of a relay that is attended, and what is reported to its desk.
use Rattle.std.proofs.Common.{◌≡◌, ◌++◌, ◌∷◌, ◌∙◌, inl, inr, ℕ, zero, suc, Bool, true, false, List, [], map, Option}
use Rattle.std.proofs.Common.{Result, Ok, Err, refl, sym, ap, subst, append-nil, append_assoc}
use Rattle.std.specs.Prelude.{flat_map}
use Rattle.std.proofs.lemmas.List.Concat.{flat_map-append}
use Rattle.macs_disk.specs.Disk.{Disk}
use Rattle.macs_endpoint.specs.Lives.{Transition}
use Rattle.macs_endpoint.specs.Value.{EndpointValue}
use Rattle.macs_endpoint.specs.declared.fault.RefillFault.{RefillFault}
use Rattle.macs_endpoint.specs.declared.fault.StepFault.{StepFault}
use Rattle.macs_endpoint.specs.declared.fault.SubmitFault.{SubmitFault}
use Rattle.macs_endpoint.specs.declared.progress.Step.{Step as Progress}
use Rattle.macs_edge.specs.Attending.{Attends, AttendsTurns, Obeys, TakesAllAttended, failed_of, rests_after}
use Rattle.macs_edge.specs.declared.attending.DeskEvent.{DeskEvent}
use Rattle.macs_edge.specs.declared.attending.DeskEvent.TheVariants.{Rested, Wanted}
use Rattle.macs_edge.specs.Commanding.{Ended, IsAttendedFlow, all_failed, answered_to, done_by, ended_by, handed_in_by}
use Rattle.macs_edge.specs.Commanding.{submitted_by, ticket_in, tickets_answered, tickets_of, tickets_taken, told_by}
use Rattle.macs_edge.specs.Flows.{Flow, given}
use Rattle.macs_edge.specs.Relaying.{Relay, TakesTurn, empty_lane, summary_of}
use Rattle.macs_edge.specs.declared.attending.Order.TheVariants.{End}
use Rattle.macs_edge.specs.declared.settling.Side.{Side}
use Rattle.macs_edge.specs.declared.settling.Side.TheVariants.{Controlled, Common}
use Rattle.macs_edge.proofs.Flowing.{Goes, flow-begins, given-append, goes-flows, turn-goes}
use Rattle.macs_edge.proofs.LastCalls.{lives-append}
use Rattle.macs_edge.proofs.Matching.{Matches, ObeysWith, answered-append, failed-ended, failed-handed, failed-tickets}
use Rattle.macs_edge.proofs.Matching.{failed-told, matches-append, matches-frames, matches-last, matches-none}
use Rattle.macs_edge.proofs.Matching.{obeys-with, taken-append, told-told, told_of_turn}

-- what goes each way, and that the calls match what is reported to the desk
pub record Attended {D : Type 0} (disk_of : D → Disk) (old : Relay D) (events : List DeskEvent) (new : Relay D)
    : Type 0 where
  pub goes : Goes disk_of old new
  pub matches : Matches old.endpoint events goes.calls new.endpoint

module _ {D : Type 0} (disk_of : D → Disk) where
  given-none : (side : Side) (calls more : List (Transition D)) → given side more ≡ []
      → given side calls ≡ given side (calls ++ more)
  given-none side calls more none =
      sym (given-append side calls more ∙ ap (λ (l : List (List ℕ)). given side calls ++ l) none
      ∙ append-nil (given side calls))

  -- ---- pieces

  begins : (old : Relay D) → old.to_common ≡ empty_lane → old.to_controlled ≡ empty_lane → Attended disk_of old [] old
  begins old out back = record {
    goes = record {
      calls = [];
      lives = refl;
      out = flow-begins old.controlled old.common old.to_common out;
      back = flow-begins old.common old.controlled old.to_controlled back;
    };
    matches = matches-none old.endpoint;
  }

  pub obeys : (old between : Relay D) (endpoint : EndpointValue D) (events more : List DeskEvent)
      → Attended disk_of old events between
      → ObeysWith disk_of between.endpoint more endpoint
      → Attended disk_of old (events ++ more) (record between { endpoint = endpoint })
  obeys old between endpoint events more so_far with = record {
    goes = record {
      calls = so_far.goes.calls ++ with.calls;
      lives = lives-append disk_of old.endpoint between.endpoint endpoint so_far.goes.calls with.calls
          so_far.goes.lives with.lives;
      out = subst
          (λ (l : List (List ℕ)). Flow old.controlled between.controlled old.common between.common l
          between.to_common)
          (given-none Controlled so_far.goes.calls with.calls with.out) so_far.goes.out;
      back = subst
          (λ (l : List (List ℕ)). Flow old.common between.common old.controlled between.controlled l
          between.to_controlled)
          (given-none Common so_far.goes.calls with.calls with.back) so_far.goes.back;
    };
    matches = matches-append old.endpoint between.endpoint endpoint events more so_far.goes.calls with.calls
        so_far.matches with.matches;
  }

  turn-on : (old between new : Relay D) (events : List DeskEvent) (answer : Result (Option Progress) StepFault)
      → Attended disk_of old events between
      → TakesTurn disk_of answer between new → Attended disk_of old (events ++ told_of_turn answer) new
  turn-on old between new events answer so_far turn =
      let on = turn-goes disk_of answer old between new so_far.goes turn in
      let framed = subst (λ (l : List DeskEvent). Matches old.endpoint l (so_far.goes.calls ++ on.frames) on.late)
      (append-nil events)
      (matches-append old.endpoint between.endpoint on.late events [] so_far.goes.calls on.frames so_far.matches
      (matches-frames disk_of on.frames between.endpoint on.late on.lives on.are_frames)) in
      record {
        goes = on.goes;
        matches = subst
            (λ (l : List (Transition D)). Matches old.endpoint (events ++ told_of_turn answer) l new.endpoint)
            (sym on.calls)
            (matches-append old.endpoint on.late new.endpoint events (told_of_turn answer)
            (so_far.goes.calls ++ on.frames) on.last.calls framed
            (matches-last disk_of on.late new.endpoint answer on.last));
      }

  -- of the commands that wait a turn is done with the first one, where its step is done with one
  pub turn-queue : (old between new : Relay D) (events : List DeskEvent) (answer : Result (Option Progress) StepFault)
      → Attended disk_of old events between → TakesTurn disk_of answer between new
      → tickets_of between.endpoint.waiting
      ≡ map (λ (e : Ended). e.ticket) (flat_map ended_by (told_of_turn answer)) ++ tickets_of new.endpoint.waiting
  turn-queue old between new events answer so_far turn =
      let on = turn-goes disk_of answer old between new so_far.goes turn in
      let still = matches-frames disk_of on.frames between.endpoint on.late on.lives on.are_frames in
      let last = matches-last disk_of on.late new.endpoint answer on.last in
      sym (append-nil (tickets_of between.endpoint.waiting)) ∙ still.queue
      ∙ sym (append-nil (tickets_of on.late.waiting))
      ∙ ap (λ (l : List (Result ℕ SubmitFault)). tickets_of on.late.waiting ++ flat_map ticket_in l)
      (sym (told-told answer)) ∙ last.queue

  -- what is done before a turn, and the turn
  attended-turn : (old between new : Relay D) (endpoint : EndpointValue D) (events before : List DeskEvent)
      (quiet : Bool) (answer : Result (Option Progress) StepFault)
      → Attended disk_of old events between → Obeys disk_of quiet between.endpoint before true endpoint
      → TakesTurn disk_of answer (record between { endpoint = endpoint }) new
      → Attended disk_of old (events ++ (before ++ told_of_turn answer)) new
  attended-turn old between new endpoint events before quiet answer so_far wants turn =
      subst (λ (l : List DeskEvent). Attended disk_of old l new) (append_assoc events before (told_of_turn answer))
      (turn-on old (record between { endpoint = endpoint }) new (events ++ before) answer
      (obeys old between endpoint events before so_far
      (obeys-with disk_of quiet true between.endpoint endpoint before wants)) turn)

  -- ---- events at which no call is made

  without-calls : (old new : Relay D) (events more : List DeskEvent) → Attended disk_of old events new
      → Matches new.endpoint more [] new.endpoint → Attended disk_of old (events ++ more) new
  without-calls old new events more so_far none = record {
    goes = so_far.goes;
    matches = subst (λ (l : List (Transition D)). Matches old.endpoint (events ++ more) l new.endpoint)
        (append-nil so_far.goes.calls)
        (matches-append old.endpoint new.endpoint new.endpoint events more so_far.goes.calls [] so_far.matches none);
  }

  -- the desk orders the end
  ends : (old new : Relay D) (events : List DeskEvent) (quiet : Bool) → Attended disk_of old events new
      → Attended disk_of old (events ++ Wanted quiet End ∷ []) new
  ends old new events quiet so_far = without-calls old new events (Wanted quiet End ∷ []) so_far
      (record { handed = refl; told = refl; ended = refl; queue = append-nil (tickets_of new.endpoint.waiting) })

  -- the desk rests after a quiet turn
  rests : (old new : Relay D) (events : List DeskEvent) (quiet : Bool) → Attended disk_of old events new
      → Attended disk_of old (events ++ rests_after quiet) new
  rests old new events true so_far = without-calls old new events (Rested ∷ []) so_far
      (record { handed = refl; told = refl; ended = refl; queue = append-nil (tickets_of new.endpoint.waiting) })
  rests old new events false so_far =
      subst (λ (l : List DeskEvent). Attended disk_of old l new) (sym (append-nil events)) so_far

  -- ---- turns

  pub all-turns : (turns : ℕ) (old new : Relay D) (events : List DeskEvent) (quiet : Bool) → old.to_common ≡ empty_lane
      → old.to_controlled ≡ empty_lane
      → TakesAllAttended disk_of turns old events quiet new → Attended disk_of old events new
  all-turns zero old new events quiet out back (none, is_quiet, same) =
      subst (λ (r : Relay D). Attended disk_of old events r) (sym same)
      (subst (λ (l : List DeskEvent). Attended disk_of old l old) (sym none) (begins old out back))
  all-turns (suc turns) old new events quiet out back
      (between, earlier, was_quiet, last, progress, before, (wanted, endpoint, obeyed, turn, is_last), which, is) =
      subst (λ (l : List DeskEvent). Attended disk_of old l new) (sym is)
      (rests old new (earlier ++ last) quiet (subst (λ (l : List DeskEvent). Attended disk_of old (earlier ++ l) new)
      (sym is_last)
      (attended-turn old between new endpoint earlier wanted was_quiet (Ok progress)
      (all-turns turns old between earlier was_quiet out back before) obeyed turn)))

  -- ---- the end

  turns-end : (turns : ℕ) (old new : Relay D) (events : List DeskEvent) (answer : Result (Unit {0}) StepFault)
      → old.to_common ≡ empty_lane
      → old.to_controlled ≡ empty_lane → AttendsTurns disk_of turns old events answer new
      → Attended disk_of old events new
  turns-end turns old new events (Ok done) out back (taken, earlier, quiet, all, inl (every, is)) =
      subst (λ (l : List DeskEvent). Attended disk_of old l new) (sym is)
      (all-turns taken old new earlier quiet out back all)
  turns-end turns old new events (Ok done) out back (taken, earlier, quiet, all, inr (fewer, is)) =
      subst (λ (l : List DeskEvent). Attended disk_of old l new) (sym is)
      (ends old new earlier quiet (all-turns taken old new earlier quiet out back all))
  turns-end turns old new events (Err at) out back
      (taken, between, earlier, quiet, last, endpoint, fewer, all, obeyed, turn, is) =
      subst (λ (l : List DeskEvent). Attended disk_of old l new)
      (sym (is ∙ ap (λ (l : List DeskEvent). earlier ++ l) (sym (append-nil last))))
      (attended-turn old between new endpoint earlier last quiet (Err at)
      (all-turns taken old between earlier quiet out back all) obeyed turn)

  -- the commands that wait are answered as failed
  closes : (old new : Relay D) (during events : List DeskEvent) → Attended disk_of old during new
      → events ≡ during ++ failed_of new.endpoint.waiting
      → IsAttendedFlow disk_of old events new (summary_of new.to_common new.to_controlled)
  closes old new during events all is =
      let flow = goes-flows disk_of old new all.goes in
      let waiting = new.endpoint.waiting in
      let same : all.goes.calls ≡ flow.0.calls = sym flow.1 in
      let failed_ends : flat_map ended_by (failed_of waiting) ≡ all_failed waiting = failed-ended waiting in
      record {
        flow = flow.0;
        handed = ap (flat_map handed_in_by) is ∙ flat_map-append handed_in_by during (failed_of waiting)
            ∙ ap (λ (l : _). flat_map handed_in_by during ++ l) (failed-handed waiting)
            ∙ append-nil (flat_map handed_in_by during) ∙ all.matches.handed
            ∙ ap (flat_map (λ (t : Transition D). submitted_by t.call)) same;
        told = ap (flat_map told_by) is ∙ flat_map-append told_by during (failed_of waiting)
            ∙ ap (λ (l : _). flat_map told_by during ++ l) (failed-told waiting)
            ∙ append-nil (flat_map told_by during) ∙ all.matches.told
            ∙ ap (flat_map (λ (t : Transition D). answered_to t.call t.reply)) same;
        ended = ap (flat_map ended_by) is ∙ flat_map-append ended_by during (failed_of waiting)
            ∙ (λ i. all.matches.ended i ++ failed_ends i)
            ∙ ap (λ (l : List (Transition D)). flat_map (λ (t : Transition D). done_by t.call t.reply) l ++ all_failed
            waiting) same;
        once = ap tickets_answered is ∙ answered-append during (failed_of waiting)
            ∙ ap (λ (l : List ℕ). tickets_answered during ++ l)
            (ap (map (λ (e : Ended). e.ticket)) failed_ends ∙ failed-tickets waiting)
            ∙ sym all.matches.queue
            ∙ ap (λ (l : List ℕ). tickets_of old.endpoint.waiting ++ l)
            (sym (ap tickets_taken is ∙ taken-append during (failed_of waiting)
            ∙ ap (λ (l : List (Result ℕ SubmitFault)). tickets_taken during ++ flat_map ticket_in l)
            (failed-told waiting)
            ∙ append-nil (tickets_taken during)));
      }

  pub attended-flows : {T : Type 0} (turns : ℕ) (old new : Relay D) (events : List DeskEvent)
      (result : Result T RefillFault) → old.to_common ≡ empty_lane
      → old.to_controlled ≡ empty_lane → Attends disk_of turns old events result new
      → IsAttendedFlow disk_of old events new (summary_of new.to_common new.to_controlled)
  attended-flows turns old new events (Ok summary) out back (during, took, is) =
      closes old new during events (turns-end turns old new during (Ok tt) out back took) is
  attended-flows turns old new events (Err fault) out back (during, at, named, took, is) =
      closes old new during events (turns-end turns old new during (Err at) out back took) is
