-- A relay whose desk only ever says that it continues is a relay without a desk.
use Rattle.std.proofs.Common.{◌≡◌, ◌++◌, ◌∷◌, ℕ, zero, suc, Bool, true, List, [], Option, Result, Ok, Err, inl, inr}
use Rattle.std.proofs.Common.{subst}
use Rattle.macs_disk.specs.Disk.{Disk}
use Rattle.macs_endpoint.specs.Value.{EndpointValue}
use Rattle.macs_endpoint.specs.declared.fault.RefillFault.{RefillFault}
use Rattle.macs_edge.specs.Attending.{Attends, IsAttended, Obeys, TakesAllAttended, answers_of, failed_of, rests_after}
use Rattle.macs_commands.specs.InTurn.{InTurn}
use Rattle.macs_edge.specs.declared.attending.DeskEvent.{DeskEvent}
use Rattle.macs_edge.specs.declared.attending.DeskEvent.TheVariants.{Answered, Rested, Took, Wanted}
use Rattle.macs_edge.specs.declared.attending.Order.TheVariants.{Go, Submit, End}
use Rattle.macs_edge.specs.Relaying.{IsRelayed, Relay, Relays, TakesTurn, TakesTurns, relay_of}
use Rattle.macs_edge.specs.Resting.{PassesUnattended}
use Rattle.macs_edge.specs.Wires.{WireState}
use Rattle.macs_edge.specs.declared.relaying.RelaySummary.{RelaySummary}

-- the order of an event, if it has one, is that the relay continues
abbrev ContinuesAt : DeskEvent → Type 0
ContinuesAt (Wanted was_quiet order) = order ≡ Go
ContinuesAt event = Unit {0}

-- each order is that the relay continues
abbrev Continues : List DeskEvent → Type 0
Continues [] = Unit {0}
Continues (event ∷ events) = ContinuesAt event × Continues events

continues-front : (front back : List DeskEvent) → Continues (front ++ back) → Continues front
continues-front [] back are = tt
continues-front (event ∷ front) back (is, are) = (is, continues-front front back are)

continues-back : (front back : List DeskEvent) → Continues (front ++ back) → Continues back
continues-back [] back are = are
continues-back (event ∷ front) back (is, are) = continues-back front back are

continues-unattended : (event : DeskEvent) (old new : Option ℕ) → PassesUnattended event old new → ContinuesAt event
continues-unattended (Wanted was_quiet order) old new passes = passes.0
continues-unattended (Took answer) old new passes = tt
continues-unattended (Answered ticket ended) old new passes = tt
continues-unattended Rested old new passes = tt

all-unattended : {K : Type 0} (sleeps : K → Option ℕ) (old new : K) (events : List DeskEvent)
    → InTurn (λ (a : K) (event : DeskEvent) (b : K). PassesUnattended event (sleeps a) (sleeps b)) old events new
    → Continues events
all-unattended sleeps old new [] same = tt
all-unattended sleeps old new (event ∷ events) (between, first, rest) = (
  continues-unattended event (sleeps old) (sleeps between) first,
  all-unattended sleeps between new events rest,
)

module _ {D : Type 0} (disk_of : D → Disk) where
  obeys-go : (quiet : Bool) (old new : EndpointValue D) (events : List DeskEvent)
      → Obeys disk_of quiet old events true new → Continues events → new ≡ old
  obeys-go quiet old new events (Go, told, which, does, is) are = does.1
  obeys-go quiet old new events (End, told, which, does, is) are =
      absurd (let no : End ≡ Go = (subst Continues is are).0 in cc)
  obeys-go quiet old new events (Submit command, told, which, does, is) are =
      absurd (let no : Submit command ≡ Go = (subst Continues is are).0 in cc)

  unattended-turns : (turns : ℕ) (old new : Relay D) (events : List DeskEvent) (quiet : Bool)
      → TakesAllAttended disk_of turns old events quiet new → Continues events → TakesTurns disk_of turns old new
  unattended-turns zero old new events quiet (none, rests, same) are = same
  unattended-turns (suc turns) old new events quiet
      (between, earlier, was_quiet, last, progress, before, (orders, endpoint, obeys, turn, is_last), which, is) are =
      let all : Continues (earlier ++ last) = continues-front (earlier ++ last) (rests_after quiet)
      (subst Continues is are) in
      let ends : Continues (orders ++ answers_of progress) = subst Continues is_last
      (continues-back earlier last all) in
      let same : endpoint ≡ between.endpoint = obeys-go was_quiet between.endpoint endpoint orders obeys
      (continues-front orders (answers_of progress) ends) in (
        between,
        progress,
        unattended-turns turns old between earlier was_quiet before (continues-front earlier last all),
        subst
            (λ (e : EndpointValue D). TakesTurn disk_of (Ok progress) (record between { endpoint = e }) new) same turn,
      )

  unattended-relays : {T : Type 0} (turns : ℕ) (old new : Relay D) (events : List DeskEvent)
      (result : Result T RefillFault)
      → Attends disk_of turns old events result new → Continues events → Relays disk_of turns old result new
  unattended-relays turns old new events (Ok summary)
      (during, (taken, earlier, quiet, takes, inl (all, same)), is) are =
      let told : Continues during = continues-front during (failed_of new.endpoint.waiting) (subst Continues is are) in
      subst (λ (n : ℕ). TakesTurns disk_of n old new) all
      (unattended-turns taken old new earlier quiet takes (subst Continues same told))
  unattended-relays turns old new events (Ok summary)
      (during, (taken, earlier, quiet, takes, inr (few, ends)), is) are =
      let told : Continues during = continues-front during (failed_of new.endpoint.waiting) (subst Continues is are) in
      absurd (let no : End ≡ Go = (continues-back earlier (Wanted quiet End ∷ []) (subst Continues ends
      told)).0 in cc)
  unattended-relays turns old new events (Err fault)
      (during, at, named, (taken, between, earlier, quiet, last, endpoint, few, takes, obeys, turn, all), is) are =
      let told : Continues during = continues-front during (failed_of new.endpoint.waiting) (subst Continues is are) in
      let both : Continues (earlier ++ last) = subst Continues all told in
      let same : endpoint ≡ between.endpoint = obeys-go quiet between.endpoint endpoint last obeys
      (continues-back earlier last both) in (
        taken,
        between,
        at,
        named,
        few,
        unattended-turns taken old between earlier quiet takes (continues-front earlier last both),
        subst (λ (e : EndpointValue D). TakesTurn disk_of (Err at) (record between { endpoint = e }) new) same turn,
      )

  pub unattended-relayed : {K : Type 0} (sleeps : K → Option ℕ) (before after : K) (turns : ℕ) (old : Relay D)
      (events : List DeskEvent) (result : Result RelaySummary RefillFault)
      (endpoint : EndpointValue D) (controlled common : WireState)
      → IsAttended disk_of turns old events result endpoint controlled common
      → InTurn (λ (a : K) (event : DeskEvent) (b : K). PassesUnattended event (sleeps a) (sleeps b)) before events
      after
      → IsRelayed disk_of turns old result endpoint controlled common
  unattended-relayed sleeps before after turns old events result endpoint controlled common
      (to_common, to_controlled, attends, summed) heard = (
        to_common,
        to_controlled,
        unattended-relays turns old (relay_of endpoint controlled common to_common to_controlled) events result attends
            (all-unattended sleeps before after events heard),
        summed,
      )
