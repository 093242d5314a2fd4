-- What is done with a disk, by contracts of calls, are events.
use Rattle.std.proofs.Common.{◌++◌, List, [], ◌∷◌, map, Some, None, Ok, Err, refl, ap, subst}
use Rattle.macs_disk.specs.Disk.{Disk}
use Rattle.macs_endpoint.specs.Lives.{Lives, Transition, exchange_of}
use Rattle.macs_endpoint.specs.Step.{Exchange}
use Rattle.macs_endpoint.specs.Value.{EndpointValue}
use Rattle.macs_headline.specs.Deeds.{Deed, Does, Formatting, FormattingCut, Living, OpeningCut, PassingOn, Refusing}
use Rattle.macs_theorem.specs.Events.{Answers, Calls, Closes, Ends, EndsIn, Event, Formats, Happen, Holds, HoldsDisk}
use Rattle.macs_theorem.specs.Events.{HoldsEndpoint, Opens}
use Rattle.macs_theorem.specs.Examples.{DeedsHappen}
use Rattle.macs_theorem.specs.Shown.{Shown, shown_by}

module _ {D : Type 0} (disk_of : D → Disk) where
  pub happen_on : (events more : List (Event Shown)) (old mid new : Holds D) → Happen disk_of shown_by old events mid
      → Happen disk_of shown_by mid more new → Happen disk_of shown_by old (events ++ more) new
  happen_on [] more old mid new same rest = subst (λ (h : Holds D). Happen disk_of shown_by h more new) same rest
  happen_on (event ∷ events) more old mid new (next, is, on) rest =
      (next, is, happen_on events more next mid new on rest)

  abbrev as_event : Exchange → Event Shown
  as_event e = Answers (Calls e.call e.reply)

  calls_happen : (turns : List (Transition D)) (old new : EndpointValue D) → Lives disk_of old turns new
      → Happen disk_of shown_by (HoldsEndpoint old) (map as_event (map exchange_of turns)) (HoldsEndpoint new)
  calls_happen [] old new same = ap (λ (e : EndpointValue D). HoldsEndpoint e) same
  calls_happen (turn ∷ turns) old new (kept, call, rest) =
      (HoldsEndpoint turn.after, (kept, call), calls_happen turns turn.after new rest)

  deed_happens : (old : D) (deed : Deed D) (new : D) → Does disk_of old deed new
      → (events : List (Event Shown)) × Happen disk_of shown_by (HoldsDisk old) events (HoldsDisk new)
  deed_happens old (Formatting identity result) new does =
      (Answers (Formats identity result) ∷ [], (HoldsDisk new, does, refl))
  deed_happens old (FormattingCut identity) new (result, ran, format, passed) =
      (EndsIn (Formats identity result) ∷ [], (HoldsDisk new, (HoldsDisk ran, format, passed), refl))
  deed_happens old (Refusing fault) new does = (Answers (Opens (Err fault)) ∷ [], (HoldsDisk new, does, refl))
  deed_happens old OpeningCut new (Ok e, opening, passed) =
      (EndsIn (Opens (Ok tt)) ∷ [], (HoldsDisk new, (HoldsEndpoint e, opening, passed), refl))
  deed_happens old OpeningCut new (Err refused, opening, passed) =
      (EndsIn (Opens (Err refused.fault)) ∷ [], (HoldsDisk new, (HoldsDisk refused.disk, opening, passed), refl))
  deed_happens old (Living first turns last None) new ((opening, lives), same) =
      let calls = map as_event (map exchange_of turns) in (
        Answers (Opens (Ok tt)) ∷ calls ++ Answers Closes ∷ [],
        (
          HoldsEndpoint first,
          opening,
          happen_on calls (Answers Closes ∷ []) (HoldsEndpoint first) (HoldsEndpoint last) (HoldsDisk new)
              (calls_happen turns first last lives) (HoldsDisk new, same, refl),
        ),
      )
  deed_happens old (Living first turns last (Some call)) new ((opening, lives), kept, reply, after, is, passed) =
      let calls = map as_event (map exchange_of turns) in (
        Answers (Opens (Ok tt)) ∷ calls ++ EndsIn (Calls call reply) ∷ [],
        (
          HoldsEndpoint first,
          opening,
          happen_on calls (EndsIn (Calls call reply) ∷ []) (HoldsEndpoint first) (HoldsEndpoint last) (HoldsDisk new)
              (calls_happen turns first last lives) (HoldsDisk new, (HoldsEndpoint after, (kept, is), passed), refl),
        ),
      )
  deed_happens old PassingOn new does = (Ends ∷ [], (HoldsDisk new, does, refl))

  pub deeds-happen : DeedsHappen disk_of
  deeds-happen old new [] same = ([], ap (λ (d : D). HoldsDisk d) same)
  deeds-happen old new (link ∷ links) (does, rest) =
      let first = deed_happens old link.deed link.after does in
      let later = deeds-happen link.after new links rest in (
        first.0 ++ later.0,
        happen_on first.0 later.0 (HoldsDisk old) (HoldsDisk link.after) (HoldsDisk new) first.1 later.1,
      )
