-- A program is run.
use Rattle.std.proofs.Common.{◌≡◌, ◌≤◌, ◌++◌, inl, inr, ℕ, List, [], ◌∷◌, Ok, Err, arith, le_refl, refl, sym, subst}
use Rattle.macs_disk.specs.Disk.{Disk, IsHonest, now}
use Rattle.macs_disk.specs.States.{IsSound}
use Rattle.macs_endpoint.specs.Value.{EndpointValue, disk_in}
use Rattle.macs_headline.specs.Binding.{IsNewDisk}
use Rattle.macs_headline.specs.Deeds.{IsPassedOn}
use Rattle.macs_headline.specs.Endings.{LosesPower}
use Rattle.macs_headline.proofs.Endings.{power-losses-pass-on}
use Rattle.macs_theorem.proofs.Deeds.{happen_on}
use Rattle.macs_theorem.proofs.Events.{all-is-expected}
use Rattle.macs_theorem.specs.Events.{Answer, Calls, Closes, Event, Formats, Happen, Holds, HoldsDisk, HoldsEndpoint}
use Rattle.macs_theorem.specs.Events.{IsAnswered, Opens, Shows, disk_held}
use Rattle.macs_theorem.specs.Shown.{Shown, shown_by}
use Rattle.macs_theorem.specs.Programs.{Hears, HearsExpected, HearsOrPassesOver}
use Rattle.macs_theorem.specs.declared.asking.Ask.{Ask}

-- a program keeps what happened since it held this disk
abbrev pub IsKept : {D : Type 0} → (D → Disk) → D → (List (Event Shown) → Type 0) → Holds D → Type 0
IsKept disk_of disk keeps new = (events : List (Event Shown)) × keeps events
    × Happen disk_of shown_by (HoldsDisk disk) events new

module _ {D : Type 0} (disk_of : D → Disk) where
  -- what was requested happened, or was passed over
  pub heard : (old new : Holds D) (asked : Ask) (before after : List (Event Shown) → Type 0)
      → Hears disk_of old asked before after new → HearsOrPassesOver disk_of old before after new
  heard old new asked before after (inl (event, is, keeps, happens)) = inl (event, keeps, happens)
  heard old new asked before after (inr (passed, keeps, same)) = inr (keeps, same)

  -- one event more, or none
  pub hears-on : (disk : D) (old new : Holds D) (before after : List (Event Shown) → Type 0)
      → IsKept disk_of disk before old
      → HearsOrPassesOver disk_of old before after new → IsKept disk_of disk after new
  hears-on disk old new before after (events, kept, happen) (inl (event, keeps, happens)) = (
    events ++ event ∷ [],
    keeps events kept,
    happen_on disk_of events (event ∷ []) (HoldsDisk disk) old new happen (new, happens, refl),
  )
  hears-on disk old new before after (events, kept, happen) (inr (keeps, same)) = (
    events,
    keeps events kept,
    subst (λ (h : Holds D). Happen disk_of shown_by (HoldsDisk disk) events h) (sym same) happen,
  )

  -- the events of a program that began with a new disk are expected
  pub expected-run : ((it : D) → IsHonest (disk_of it) → IsSound (now (disk_of it)))
      → (disk : D) (keeps : List (Event Shown) → Type 0) (held : Holds D)
      → IsNewDisk (disk_of disk) → IsKept disk_of disk keeps held → HearsExpected disk_of disk keeps held
  expected-run sound disk keeps held new (events, kept, happen) =
      (events, kept, happen, all-is-expected disk_of sound disk events held new happen)

  -- an endpoint shows what its readers show
  pub showing : (held : Holds D) (e : EndpointValue D) → held ≡ HoldsEndpoint e
      → IsAnswered disk_of shown_by held (Shows (shown_by e)) (HoldsEndpoint e)
  showing held e is =
      subst (λ (h : Holds D). IsAnswered disk_of shown_by h (Shows (shown_by e)) (HoldsEndpoint e)) (sym is)
      (refl, refl)

  -- the clock of the disk does not fall in a call
  pub answered-later : (old : Holds D) (answer : Answer Shown) (new : Holds D)
      → IsAnswered disk_of shown_by old answer new
      → (disk_held disk_of old).clock ≤ (disk_held disk_of new).clock
  answered-later (HoldsDisk old) (Formats identity result) (HoldsDisk new) is = is.device.work.works.later
  answered-later (HoldsDisk old) (Opens (Ok done)) (HoldsEndpoint new) is = is.device.works.later
  answered-later (HoldsDisk old) (Opens (Err fault)) (HoldsDisk new) is = is.refused.works.later
  answered-later (HoldsEndpoint old) (Calls call reply) (HoldsEndpoint new) is = is.1.device.works.later
  answered-later (HoldsEndpoint old) (Shows shown) (HoldsEndpoint new) is =
      subst (λ (e : EndpointValue D). (disk_in disk_of old).clock ≤ (disk_in disk_of e).clock) (sym is.1)
      (le_refl (disk_in disk_of old).clock)
  answered-later (HoldsEndpoint old) Closes (HoldsDisk new) is =
      subst (λ (d : D). (disk_in disk_of old).clock ≤ (disk_of d).clock) (sym is) (le_refl (disk_in disk_of old).clock)
  answered-later old answer new is = absurd is

-- a medium is passed on as well since an earlier moment
pub passed-since : (ran : Disk) (since earlier : ℕ) (new : Disk) → earlier ≤ since → IsPassedOn ran since new
    → IsPassedOn ran earlier new
passed-since ran since earlier new before is = record {
  moment = is.moment;
  later = let later = is.later in omega (arith, before, later);
  within = is.within;
  sectors = is.sectors;
  honest = is.honest;
  images = is.images;
}

-- power that is lost passes the medium on
pub lost-passes : (held disk left : Disk) → disk ≡ held → LosesPower disk disk.clock left
    → IsPassedOn held held.clock left
lost-passes held disk left same lost =
    subst (λ (d : Disk). IsPassedOn d d.clock left) same (power-losses-pass-on disk left disk.clock lost)
