-- An attended turn after others, and its parts.
use Rattle.std.proofs.Common.{◌≡◌, ◌+◌, ◌++◌, ◌↔◌, ◌<◌, ℕ, Bool, false, IsTrue, List, [], ◌∷◌, Option, Result, length}
use Rattle.std.proofs.Common.{take, get_or, refl, sym, ap, ◌∙◌, subst, add-one}
use Rattle.std.proofs.lemmas.List.{map_more}
use Rattle.macs_disk.specs.Disk.{Disk}
use Rattle.macs_endpoint.specs.Value.{EndpointValue}
use Rattle.macs_endpoint.specs.declared.fault.StepFault.{StepFault}
use Rattle.macs_endpoint.specs.declared.progress.Step.{Step as Progress}
use Rattle.macs_endpoint.specs.declared.queue.Waiting.{Waiting}
use Rattle.macs_edge.specs.Attending.{AttendsTurns, Does, Obeys, TakesAllAttended, TakesAttended, failed_of}
use Rattle.macs_commands.specs.InTurn.{InTurn}
use Rattle.macs_commands.proofs.InTurns.{and-then}
use Rattle.macs_edge.specs.Attending.{goes_on, rests_after}
use Rattle.macs_edge.specs.declared.attending.CommandEnd.TheVariants.{Failed}
use Rattle.macs_edge.specs.declared.attending.DeskEvent.{DeskEvent}
use Rattle.macs_edge.specs.declared.attending.DeskEvent.TheVariants.{Answered, Wanted}
use Rattle.macs_edge.specs.Relaying.{LaneValue, Relay, empty_lane, relay_of}
use Rattle.macs_edge.specs.Resting.{IsQuiet}
use Rattle.macs_edge.specs.Wires.{WireState}
use Rattle.macs_edge.specs.declared.attending.Order.{Order}
use Rattle.macs_edge.specs.declared.attending.Order.TheVariants.{Go, Submit, End}

-- ---- what a desk hears

module _ {K : Type 0} (hears : K → DeskEvent → K → Type 0) where
  -- of the pending commands one more is answered as failed
  pub hears-failed : (a b c : K) (waiting : List Waiting) (i : ℕ) (next : Waiting) → i < length waiting
      → next ≡ get_or waiting i next → InTurn hears a (failed_of (take i waiting)) b
      → hears b (Answered next.ticket Failed) c → InTurn hears a (failed_of (take (i + 1) waiting)) c
  hears-failed a b c waiting i next within is heard last =
      let event = λ (w : Waiting). Answered w.ticket Failed in
      subst (λ (l : List DeskEvent). InTurn hears a l c)
      (ap (λ (w : Waiting). failed_of (take i waiting) ++ event w ∷ []) is ∙ sym (map_more event waiting i next within))
      (and-then hears a b c (failed_of (take i waiting)) (event next ∷ []) heard (c, last, refl))

-- ---- turns

pub attended-more : {D : Type 0} (disk_of : D → Disk) (n : ℕ) (old between new : Relay D)
    (earlier last : List DeskEvent) (was_quiet quiet : Bool) (progress : Option Progress)
    → TakesAllAttended disk_of n old earlier was_quiet between
    → TakesAttended disk_of was_quiet between last progress new
    → (IsTrue quiet ↔ IsQuiet progress between new)
    → TakesAllAttended disk_of (n + 1) old (earlier ++ last ++ rests_after quiet) quiet new
attended-more disk_of n old between new earlier last was_quiet quiet progress before turn is =
    subst (λ (k : ℕ). TakesAllAttended disk_of k old (earlier ++ last ++ rests_after quiet) quiet new) (sym (add-one n))
    (between, earlier, was_quiet, last, progress, before, turn, is, refl)

-- turns of a relay whose ways were empty at first
pub attends-begun : {D : Type 0} (disk_of : D → Disk) (turns : ℕ) (endpoint : EndpointValue D)
    (controlled common : WireState) (out back : LaneValue)
    (events : List DeskEvent) (answer : Result (Unit {0}) StepFault) (new : Relay D) → out ≡ empty_lane
    → back ≡ empty_lane
    → AttendsTurns disk_of turns (relay_of endpoint controlled common out back) events answer new
    → AttendsTurns disk_of turns (relay_of endpoint controlled common empty_lane empty_lane) events answer new
attends-begun disk_of turns endpoint controlled common out back events answer new is_out is_back took =
    subst (λ (l : LaneValue). AttendsTurns disk_of turns (relay_of endpoint controlled common l empty_lane) events
    answer new) is_out
    (subst (λ (l : LaneValue). AttendsTurns disk_of turns (relay_of endpoint controlled common out l) events answer
    new) is_back took)

-- the order after which no turn follows is the end
end-of : {D : Type 0} (disk_of : D → Disk) (quiet : Bool) (order : Order) (old new : EndpointValue D)
    (told : List DeskEvent) → false ≡ goes_on order
    → Does disk_of order old told new → (Wanted quiet order ∷ told ≡ Wanted quiet End ∷ []) × (new ≡ old)
end-of disk_of quiet End old new told which does = (ap (λ (l : List DeskEvent). Wanted quiet End ∷ l) does.0, does.1)
end-of disk_of quiet Go old new told which does = absurd cc
end-of disk_of quiet (Submit command) old new told which does = absurd cc

pub obeys-end : {D : Type 0} (disk_of : D → Disk) (quiet : Bool) (old new : EndpointValue D) (events : List DeskEvent)
    → Obeys disk_of quiet old events false new → (events ≡ Wanted quiet End ∷ []) × (new ≡ old)
obeys-end disk_of quiet old new events (order, told, which, does, is) =
    let ends = end-of disk_of quiet order old new told which does in (is ∙ ends.0, ends.1)
