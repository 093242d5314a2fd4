-- A run leads from its endpoint to the one after it by calls, however it ends.
use Rattle.std.proofs.Common.{◌∷◌, ◌++◌, ℕ, zero, suc, Bool, true, List, [], Option, Some, None, Result, Ok, Err, inl}
use Rattle.std.proofs.Common.{inr, refl, ap, subst}
use Rattle.macs_disk.specs.Disk.{Disk}
use Rattle.macs_endpoint.specs.Lives.{LivesOn}
use Rattle.macs_endpoint.specs.State.{Submits, Submitted}
use Rattle.macs_endpoint.specs.Value.{EndpointValue}
use Rattle.macs_endpoint.specs.declared.fault.RefillFault.{RefillFault}
use Rattle.macs_endpoint.specs.declared.fault.StepFault.{StepFault}
use Rattle.macs_endpoint.specs.declared.progress.Step.{Step as Progress}
use Rattle.macs_edge.specs.Attending.{Attends, AttendsTurns, Does, IsAttended, Obeys, TakesAllAttended}
use Rattle.macs_edge.specs.declared.attending.DeskEvent.{DeskEvent}
use Rattle.macs_edge.specs.Settling.{call_on}
use Rattle.macs_edge.specs.CaptureRuns.{Run, RunsOver, RunsRecords, Stops}
use Rattle.macs_edge.specs.Relaying.{Carries, HandsWaiting, Relay, TakesTurn, Way, way_of}
use Rattle.macs_edge.specs.Wires.{WireState}
use Rattle.macs_edge.specs.declared.capture_runs.RunFault.{RunFault}
use Rattle.macs_edge.specs.declared.capture_runs.RunFault.TheVariants.{Device, Pcap}
use Rattle.macs_edge.specs.declared.capture_runs.Summary.{Summary}
use Rattle.macs_edge.specs.declared.relaying.RelaySummary.{RelaySummary}
use Rattle.macs_edge.specs.declared.attending.Order.{Order}
use Rattle.macs_edge.specs.declared.attending.Order.TheVariants.{Go, Submit, End}
use Rattle.macs_edge.specs.declared.settling.Side.{Side}
use Rattle.macs_edge.specs.declared.settling.Side.TheVariants.{Controlled, Common}
use Rattle.macs_edge.proofs.LastCalls.{last-calls, lives-append}

module _ {D : Type 0} (disk_of : D → Disk) where
  -- calls after calls
  behind : (old between new : EndpointValue D) → LivesOn disk_of old between → LivesOn disk_of between new
      → LivesOn disk_of old new
  behind old between new first second =
      (first.0 ++ second.0, lives-append disk_of old between new first.0 second.0 first.1 second.1)

  -- ---- captures

  lives-stops : (side : Side) (big : Bool) (count : ℕ) (old new : Run D) (fault : RunFault)
      → Stops disk_of side big count old fault new
      → LivesOn disk_of old.endpoint new.endpoint
  lives-stops side big count old new (Device fault) (taken, room, reads, halts, sink) = (halts.turns, halts.lives)
  lives-stops side big count old new (Pcap fault) (inl (room, reads, endpoint, sink)) = ([], endpoint)
  lives-stops side big count old new (Pcap fault) (inr (taken, frame, takes, writes)) =
      (takes.settled.turns, takes.settled.lives)

  lives-records : (side : Side) (big : Bool) (old new : Run D) (answer : Result Summary RunFault)
      → RunsRecords disk_of side big old answer new
      → LivesOn disk_of old.endpoint new.endpoint
  lives-records side big old new (Ok s) (records, passed, has, ends, counts) = (has.turns, has.lives)
  lives-records side big old new (Err fault) (records, passed, between, has, stops) =
      behind old.endpoint between.endpoint new.endpoint (has.turns, has.lives)
      (lives-stops side big _ between new fault stops)

  pub lives-run : (side : Side) (old new : Run D) (answer : Result Summary RunFault)
      → RunsOver disk_of side old answer new
      → LivesOn disk_of old.endpoint new.endpoint
  lives-run side old new answer (inl (fault, is, reads, endpoint, sink)) = ([], endpoint)
  lives-run side old new answer (inr (inl (header, reads, is, writes, endpoint))) = ([], endpoint)
  lives-run side old new answer (inr (inr (header, between, reads, writes, endpoint, runs))) =
      subst (λ (e : EndpointValue D). LivesOn disk_of e new.endpoint) endpoint
      (lives-records side header.big between new answer runs)

  -- ---- relays

  lives-hands : (side : Side) (waiting : Option (List ℕ)) (old new : Way D) → HandsWaiting disk_of side waiting old new
      → LivesOn disk_of old.endpoint new.endpoint
  lives-hands side None old new is = ([], ap (λ (w : Way D). w.endpoint) is)
  lives-hands side (Some frame) old new (reply, sound, call, from, becomes) =
      (record { call = call_on side frame; reply = reply; after = new.endpoint } ∷ [], (sound, call, refl))

  lives-carries : (side : Side) (old new : Way D) → Carries disk_of side old new
      → LivesOn disk_of old.endpoint new.endpoint
  lives-carries side old new (from, lane, fills, hands) =
      lives-hands side lane.waiting (way_of old.endpoint from old.to lane) new hands

  lives-turn : (answer : Result (Option Progress) StepFault) (old new : Relay D) → TakesTurn disk_of answer old new
      → LivesOn disk_of old.endpoint new.endpoint
  lives-turn answer old new (endpoint, (mid, controlled, common, one, two), sound, step) =
      behind old.endpoint endpoint new.endpoint
      (behind old.endpoint mid endpoint
      (lives-carries Controlled (way_of old.endpoint old.controlled old.common old.to_common)
      (way_of mid controlled common new.to_common) one)
      (lives-carries Common (way_of mid common controlled old.to_controlled)
      (way_of endpoint new.common new.controlled new.to_controlled) two))
      (let last = last-calls disk_of endpoint new.endpoint sound answer step in (last.calls, last.lives))

  -- ---- relays that are attended

  lives-does : (order : Order) (old new : EndpointValue D) (told : List DeskEvent) → Does disk_of order old told new
      → LivesOn disk_of old new
  lives-does Go old new told (none, same) = ([], same)
  lives-does End old new told (none, same) = ([], same)
  lives-does (Submit command) old new told (answer, took, sound, call) =
      (record { call = Submits command; reply = Submitted answer; after = new } ∷ [], (sound, call, refl))

  lives-obeys : (quiet follows : Bool) (old new : EndpointValue D) (events : List DeskEvent)
      → Obeys disk_of quiet old events follows new → LivesOn disk_of old new
  lives-obeys quiet follows old new events (order, told, which, does, is) = lives-does order old new told does

  lives-attended-turn : (quiet : Bool) (answer : Result (Option Progress) StepFault) (old new : Relay D)
      (endpoint : EndpointValue D) (events : List DeskEvent)
      → Obeys disk_of quiet old.endpoint events true endpoint
      → TakesTurn disk_of answer (record old { endpoint = endpoint }) new
      → LivesOn disk_of old.endpoint new.endpoint
  lives-attended-turn quiet answer old new endpoint events obeyed turn =
      behind old.endpoint endpoint new.endpoint (lives-obeys quiet true old.endpoint endpoint events obeyed)
      (lives-turn answer (record old { endpoint = endpoint }) new turn)

  lives-all-attended : (turns : ℕ) (old new : Relay D) (events : List DeskEvent) (quiet : Bool)
      → TakesAllAttended disk_of turns old events quiet new
      → LivesOn disk_of old.endpoint new.endpoint
  lives-all-attended zero old new events quiet (none, is_quiet, same) = ([], ap (λ (r : Relay D). r.endpoint) same)
  lives-all-attended (suc turns) old new events quiet
      (between, earlier, was_quiet, last, progress, before, (wanted, endpoint, obeyed, turn, is_last), which, is) =
      behind old.endpoint between.endpoint new.endpoint (lives-all-attended turns old between earlier was_quiet before)
      (lives-attended-turn was_quiet (Ok progress) between new endpoint wanted obeyed turn)

  lives-attends-turns : (turns : ℕ) (old new : Relay D) (events : List DeskEvent) (answer : Result (Unit {0}) StepFault)
      → AttendsTurns disk_of turns old events answer new → LivesOn disk_of old.endpoint new.endpoint
  lives-attends-turns turns old new events (Ok done) (taken, earlier, quiet, all, end) =
      lives-all-attended taken old new earlier quiet all
  lives-attends-turns turns old new events (Err at)
      (taken, between, earlier, quiet, last, endpoint, fewer, all, obeyed, turn, is) =
      behind old.endpoint between.endpoint new.endpoint (lives-all-attended taken old between earlier quiet all)
      (lives-attended-turn quiet (Err at) between new endpoint last obeyed turn)

  lives-attends : {T : Type 0} (turns : ℕ) (old new : Relay D) (events : List DeskEvent) (result : Result T RefillFault)
      → Attends disk_of turns old events result new → LivesOn disk_of old.endpoint new.endpoint
  lives-attends turns old new events (Ok summary) (during, took, is) =
      lives-attends-turns turns old new during (Ok tt) took
  lives-attends turns old new events (Err fault) (during, at, named, took, is) =
      lives-attends-turns turns old new during (Err at) took

  pub lives-attended : (turns : ℕ) (old : Relay D) (events : List DeskEvent)
      (result : Result RelaySummary RefillFault) (endpoint : EndpointValue D)
      (controlled common : WireState) → IsAttended disk_of turns old events result endpoint controlled common
      → LivesOn disk_of old.endpoint endpoint
  lives-attended turns old events result endpoint controlled common (to_common, to_controlled, attends, told) =
      lives-attends turns old (record {
        endpoint = endpoint;
        controlled = controlled;
        common = common;
        to_common = to_common;
        to_controlled = to_controlled;
      }) events result attends
