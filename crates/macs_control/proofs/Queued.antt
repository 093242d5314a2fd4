-- Which commands wait while an attended relay runs: one that is taken comes last, and the first one is answered.
use Rattle.std.proofs.Common.{◌≡◌, ◌++◌, inl, inr, ℕ, zero, suc, Bool, true, false, List, [], ◌∷◌, map, Option, Some}
use Rattle.std.proofs.Common.{None, Result, Ok, Err, refl, sym, ap, ◌∙◌, subst, append-nil}
use Rattle.macs_disk.specs.Disk.{Disk}
use Rattle.macs_endpoint.specs.Value.{EndpointValue}
use Rattle.macs_endpoint.specs.declared.fault.RefillFault.{RefillFault}
use Rattle.macs_endpoint.specs.declared.fault.SubmitFault.{SubmitFault}
use Rattle.macs_endpoint.specs.declared.fault.StepFault.{StepFault}
use Rattle.macs_endpoint.specs.declared.progress.Step.{Step as Progress}
use Rattle.macs_endpoint.specs.declared.progress.Step.TheVariants.{Done, Idle, Reserved, Worked}
use Rattle.macs_endpoint.specs.declared.queue.Waiting.{Waiting}
use Rattle.macs_edge.specs.Attending.{Attends, AttendsTurns, Does, Obeys, TakesAllAttended, answers_of, failed_of}
use Rattle.macs_edge.specs.Attending.{rests_after}
use Rattle.std.specs.Prelude.{flat_map}
use Rattle.macs_edge.specs.Commanding.{Ended, ended_by, ticket_in, tickets_of}
use Rattle.macs_edge.specs.Relaying.{Relay, TakesTurn, empty_lane}
use Rattle.macs_edge.specs.declared.attending.DeskEvent.{DeskEvent}
use Rattle.macs_edge.specs.declared.attending.DeskEvent.TheVariants.{Answered, Rested, Took, Wanted}
use Rattle.macs_edge.specs.declared.attending.Order.{Order}
use Rattle.macs_edge.specs.declared.attending.Order.TheVariants.{Go, Submit, End}
use Rattle.macs_edge.proofs.AttendedFlows.{Attended, all-turns, obeys, turn-queue}
use Rattle.macs_edge.proofs.Matching.{obeys-with}
use Rattle.macs_edge.proofs.Queueing.{submit-waits}

-- ---- events, and the tickets of the commands that wait before and after them

-- what was taken comes last
abbrev pub with_taken : List ℕ → Result ℕ SubmitFault → List ℕ
with_taken waiting (Ok ticket) = waiting ++ ticket ∷ []
with_taken waiting (Err fault) = waiting

abbrev pub Queues : List ℕ → List DeskEvent → List ℕ → Type 0
Queues waiting [] left = left ≡ waiting
Queues waiting (Wanted quiet Go ∷ events) left = Queues waiting events left
Queues waiting (Wanted quiet End ∷ events) left = Queues waiting events left
Queues waiting (Wanted quiet (Submit command) ∷ Took answer ∷ events) left =
    Queues (with_taken waiting answer) events left
Queues waiting (Answered ticket end ∷ events) left =
    (more : List ℕ) × (waiting ≡ ticket ∷ more) × Queues more events left
Queues waiting (Rested ∷ events) left = Queues waiting events left
Queues waiting (Wanted quiet (Submit command) ∷ events) left = ⊥
Queues waiting (Took answer ∷ events) left = ⊥

pub queues-append : (waiting between left : List ℕ) (events more : List DeskEvent) → Queues waiting events between
    → Queues between more left → Queues waiting (events ++ more) left
queues-append waiting between left [] more one two = subst (λ (w : List ℕ). Queues w more left) one two
queues-append waiting between left (Wanted quiet Go ∷ events) more one two =
    queues-append waiting between left events more one two
queues-append waiting between left (Wanted quiet End ∷ events) more one two =
    queues-append waiting between left events more one two
queues-append waiting between left (Wanted quiet (Submit command) ∷ Took answer ∷ events) more one two =
    queues-append (with_taken waiting answer) between left events more one two
queues-append waiting between left (Answered ticket end ∷ events) more (rest, first, one) two =
    (rest, first, queues-append rest between left events more one two)
queues-append waiting between left (Rested ∷ events) more one two =
    queues-append waiting between left events more one two
queues-append waiting between left (Wanted quiet (Submit command) ∷ []) more one two = absurd one
queues-append waiting between left (Wanted quiet (Submit command) ∷ Wanted again order ∷ events) more one
    two = absurd one
queues-append waiting between left (Wanted quiet (Submit command) ∷ Answered ticket end ∷ events) more one
    two = absurd one
queues-append waiting between left (Wanted quiet (Submit command) ∷ Rested ∷ events) more one two = absurd one
queues-append waiting between left (Took answer ∷ events) more one two = absurd one

-- a rest takes and answers none
rested-queue : (quiet : Bool) (waiting : List ℕ) → Queues waiting (rests_after quiet) waiting
rested-queue true waiting = refl
rested-queue false waiting = refl

-- the commands that wait at the end are answered as failed
failed-queue : (waiting : List Waiting) → Queues (tickets_of waiting) (failed_of waiting) []
failed-queue [] = refl
failed-queue (w ∷ waiting) = (tickets_of waiting, refl, failed-queue waiting)

-- ---- what is done before a turn, and a turn

module _ {D : Type 0} (disk_of : D → Disk) where
  submitted : (answer : Result ℕ SubmitFault) (before after : List ℕ) → before ++ ticket_in answer ≡ after
      → with_taken before answer ≡ after
  submitted (Ok ticket) before after is = is
  submitted (Err fault) before after is = sym (append-nil before) ∙ is

  order-queue : (quiet : Bool) (old new : EndpointValue D) (order : Order) (told : List DeskEvent)
      → Does disk_of order old told new
      → Queues (tickets_of old.waiting) (Wanted quiet order ∷ told) (tickets_of new.waiting)
  order-queue quiet old new Go told (none, same) =
      subst (λ (l : List DeskEvent). Queues (tickets_of old.waiting) (Wanted quiet Go ∷ l) (tickets_of new.waiting))
      (sym none) (ap (λ (e : EndpointValue D). tickets_of e.waiting) same)
  order-queue quiet old new End told (none, same) =
      subst (λ (l : List DeskEvent). Queues (tickets_of old.waiting) (Wanted quiet End ∷ l) (tickets_of new.waiting))
      (sym none) (ap (λ (e : EndpointValue D). tickets_of e.waiting) same)
  order-queue quiet old new (Submit command) told (answer, took, sound, call) =
      subst (λ (l : List DeskEvent). Queues (tickets_of old.waiting) (Wanted quiet (Submit command) ∷ l)
      (tickets_of new.waiting)) (sym took)
      (sym (submitted answer (tickets_of old.waiting) (tickets_of new.waiting)
      (submit-waits disk_of old new command answer call)))

  obeyed-queue : (quiet follows : Bool) (old new : EndpointValue D) (events : List DeskEvent)
      → Obeys disk_of quiet old events follows new
      → Queues (tickets_of old.waiting) events (tickets_of new.waiting)
  obeyed-queue quiet follows old new events (order, told, which, does, is) =
      subst (λ (l : List DeskEvent). Queues (tickets_of old.waiting) l (tickets_of new.waiting)) (sym is)
      (order-queue quiet old new order told does)

  step-queue : (progress : Option Progress) (waiting left : List ℕ)
      → waiting ≡ map (λ (e : Ended). e.ticket) (flat_map ended_by (answers_of progress)) ++ left
      → Queues waiting (answers_of progress) left
  step-queue None waiting left is = sym is
  step-queue (Some Idle) waiting left is = sym is
  step-queue (Some Worked) waiting left is = sym is
  step-queue (Some Reserved) waiting left is = sym is
  step-queue (Some (Done ticket result)) waiting left is = (left, is, refl)

  -- an attended turn
  turn-queues : (old between new : Relay D) (endpoint : EndpointValue D) (earlier before : List DeskEvent)
      (quiet : Bool) (progress : Option Progress) → Attended disk_of old earlier between
      → Obeys disk_of quiet between.endpoint before true endpoint
      → TakesTurn disk_of (Ok progress) (record between { endpoint = endpoint }) new
      → Queues (tickets_of between.endpoint.waiting) (before ++ answers_of progress) (tickets_of new.endpoint.waiting)
  turn-queues old between new endpoint earlier before quiet progress so_far obeyed turn =
      let on = obeys disk_of old between endpoint earlier before so_far
      (obeys-with disk_of quiet true between.endpoint endpoint before obeyed) in
      queues-append (tickets_of between.endpoint.waiting) (tickets_of endpoint.waiting)
      (tickets_of new.endpoint.waiting)
      before (answers_of progress) (obeyed-queue quiet true between.endpoint endpoint before obeyed)
      (step-queue progress (tickets_of endpoint.waiting) (tickets_of new.endpoint.waiting)
      (turn-queue disk_of old (record between { endpoint = endpoint }) new (earlier ++ before) (Ok progress) on turn))

  -- ---- turns

  turns-queue : (turns : ℕ) (old new : Relay D) (events : List DeskEvent) (quiet : Bool) → old.to_common ≡ empty_lane
      → old.to_controlled ≡ empty_lane → TakesAllAttended disk_of turns old events quiet new
      → Queues (tickets_of old.endpoint.waiting) events (tickets_of new.endpoint.waiting)
  turns-queue zero old new events quiet out back (none, is_quiet, same) =
      subst (λ (l : List DeskEvent). Queues (tickets_of old.endpoint.waiting) l (tickets_of new.endpoint.waiting))
      (sym none) (ap (λ (r : Relay D). tickets_of r.endpoint.waiting) same)
  turns-queue (suc turns) old new events quiet out back
      (between, earlier, was_quiet, last, progress, before, (wanted, endpoint, obeyed, turn, is_last), which, is) =
      subst (λ (l : List DeskEvent). Queues (tickets_of old.endpoint.waiting) l (tickets_of new.endpoint.waiting))
      (sym is)
      (queues-append (tickets_of old.endpoint.waiting) (tickets_of new.endpoint.waiting)
      (tickets_of new.endpoint.waiting) (earlier ++ last) (rests_after quiet)
      (subst (λ (l : List DeskEvent).
      Queues (tickets_of old.endpoint.waiting) (earlier ++ l) (tickets_of new.endpoint.waiting)) (sym is_last)
      (queues-append (tickets_of old.endpoint.waiting) (tickets_of between.endpoint.waiting)
      (tickets_of new.endpoint.waiting) earlier (wanted ++ answers_of progress)
      (turns-queue turns old between earlier was_quiet out back before)
      (turn-queues old between new endpoint earlier wanted was_quiet progress
      (all-turns disk_of turns old between earlier was_quiet out back before) obeyed turn)))
      (rested-queue quiet (tickets_of new.endpoint.waiting)))

  ended-queue : (turns : ℕ) (old new : Relay D) (events : List DeskEvent) (answer : Result (Unit {0}) StepFault)
      → old.to_common ≡ empty_lane → old.to_controlled ≡ empty_lane
      → AttendsTurns disk_of turns old events answer new
      → Queues (tickets_of old.endpoint.waiting) events (tickets_of new.endpoint.waiting)
  ended-queue turns old new events (Ok done) out back (taken, earlier, quiet, all, inl (every, is)) =
      subst (λ (l : List DeskEvent). Queues (tickets_of old.endpoint.waiting) l (tickets_of new.endpoint.waiting))
      (sym is) (turns-queue taken old new earlier quiet out back all)
  ended-queue turns old new events (Ok done) out back (taken, earlier, quiet, all, inr (fewer, is)) =
      subst (λ (l : List DeskEvent). Queues (tickets_of old.endpoint.waiting) l (tickets_of new.endpoint.waiting))
      (sym is) (queues-append (tickets_of old.endpoint.waiting) (tickets_of new.endpoint.waiting)
      (tickets_of new.endpoint.waiting) earlier (Wanted quiet End ∷ [])
      (turns-queue taken old new earlier quiet out back all) refl)
  ended-queue turns old new events (Err at) out back
      (taken, between, earlier, quiet, last, endpoint, fewer, all, obeyed, turn, is) =
      let so_far = all-turns disk_of taken old between earlier quiet out back all in
      let on = obeys disk_of old between endpoint earlier last so_far
      (obeys-with disk_of quiet true between.endpoint endpoint last obeyed) in
      let stays : tickets_of endpoint.waiting ≡ tickets_of new.endpoint.waiting =
      turn-queue disk_of old (record between { endpoint = endpoint }) new (earlier ++ last) (Err at) on turn in
      subst (λ (l : List DeskEvent). Queues (tickets_of old.endpoint.waiting) l (tickets_of new.endpoint.waiting))
      (sym is) (queues-append (tickets_of old.endpoint.waiting) (tickets_of between.endpoint.waiting)
      (tickets_of new.endpoint.waiting) earlier last (turns-queue taken old between earlier quiet out back all)
      (subst (λ (l : List ℕ). Queues (tickets_of between.endpoint.waiting) last l) stays
      (obeyed-queue quiet true between.endpoint endpoint last obeyed)))

  closed-queue : (old new : Relay D) (during events : List DeskEvent)
      → Queues (tickets_of old.endpoint.waiting) during (tickets_of new.endpoint.waiting)
      → events ≡ during ++ failed_of new.endpoint.waiting → Queues (tickets_of old.endpoint.waiting) events []
  closed-queue old new during events all is =
      subst (λ (l : List DeskEvent). Queues (tickets_of old.endpoint.waiting) l []) (sym is)
      (queues-append (tickets_of old.endpoint.waiting) (tickets_of new.endpoint.waiting) [] during
      (failed_of new.endpoint.waiting) all (failed-queue new.endpoint.waiting))

  -- over a whole relay: none waits at its end
  pub attended-queue : {T : Type 0} (turns : ℕ) (old new : Relay D) (events : List DeskEvent)
      (result : Result T RefillFault) → old.to_common ≡ empty_lane → old.to_controlled ≡ empty_lane
      → Attends disk_of turns old events result new → Queues (tickets_of old.endpoint.waiting) events []
  attended-queue turns old new events (Ok summary) out back (during, took, is) =
      closed-queue old new during events (ended-queue turns old new during (Ok tt) out back took) is
  attended-queue turns old new events (Err fault) out back (during, at, named, took, is) =
      closed-queue old new during events (ended-queue turns old new during (Err at) out back took) is
