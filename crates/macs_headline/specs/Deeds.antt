-- What is done with a disk, by the contracts of `format`, of `Endpoint::open` and of an endpoint's calls, and the lives
-- that result.
use Rattle.std.specs.Prelude.{◌≡◌, ◌≤◌, ◌++◌, ℕ, false, is_ok, List, [], ◌∷◌, map, Option, Some, None, Result, Ok, Err}
use Rattle.macs_config.specs.Config.{this_edition}
use Rattle.macs_config.specs.Identity.{Identity}
use Rattle.macs_disk.specs.Disk.{Disk, MayLeave, now}
use Rattle.macs_disk.specs.States.{Image, IsImage}
use Rattle.macs_journal.specs.declared.fault.JournalFault.{JournalFault}
use Rattle.macs_journal.specs.declared.recovery.RecoverRefused.{RecoverRefused}
use Rattle.macs_endpoint.specs.Calls.{IsCall}
use Rattle.macs_endpoint.specs.Formatting.{IsFormat}
use Rattle.macs_endpoint.specs.Lives.{Lives, Transition, exchange_of}
use Rattle.macs_endpoint.specs.Opening.{IsOpening}
use Rattle.macs_endpoint.specs.State.{Call, Reply}
use Rattle.macs_endpoint.specs.Value.{EndpointValue, IsSoundEndpoint, device_in, disk_in}
use Rattle.macs_headline.specs.History.{Formats, Life, Refuses, Serves}

-- ---- how a program ends

-- Calls that began at `since` and would have led to `ran` end at a moment on the way, and another disk has the medium
-- from then on. No matter what happened to the sectors that were pending, a power loss leaves nothing of it that it
-- could not have left at that moment. A power loss is one way to end; others are that the program is killed, or drops
-- its disk.
pub record IsPassedOn (ran : Disk) (since : ℕ) (new : Disk) : Type 0 where
  pub moment : ℕ
  pub later : since ≤ moment
  pub within : moment ≤ ran.clock
  pub sectors : new.sectors ≡ ran.sectors
  pub honest : new.honest ≡ ran.honest
  pub images : (image : Image) → MayLeave new image → IsImage (ran.past moment) image

-- ---- deeds

-- What is done with a disk: a `format`, completed or interrupted; an opening that fails, or is interrupted; the life of
-- an endpoint, from its opening to the end of its last call or into a call that is interrupted; or nothing, while the
-- medium is passed on to another disk
pub data Deed (D : Type 0) : Type 0 where
  Formatting : (identity : Identity) (result : Result (Unit {0}) JournalFault) → Deed D
  FormattingCut : (identity : Identity) → Deed D
  Refusing : (fault : JournalFault) → Deed D
  OpeningCut : Deed D
  Living : (first : EndpointValue D) (turns : List (Transition D)) (last : EndpointValue D) (cut : Option Call) → Deed D
  PassingOn : Deed D

-- the disk after an opening, successful or not
abbrev pub disk_after_opening : {D : Type 0} → (D → Disk) → Result (EndpointValue D) (RecoverRefused D) → Disk
disk_after_opening disk_of (Ok e) = disk_in disk_of e
disk_after_opening disk_of (Err refused) = disk_of refused.disk

-- A disk is opened as this endpoint, whose calls lead to that one.
abbrev pub LivesFrom : {D : Type 0} → (D → Disk) → D → EndpointValue D → List (Transition D) → EndpointValue D → Type 0
LivesFrom disk_of disk first turns last = IsOpening disk_of disk (Ok first) × Lives disk_of first turns last

-- A deed leads from a disk to a disk. What is interrupted would have returned, and the medium is passed on at some
-- moment of it. If no call is interrupted, an endpoint returns its device unchanged.
abbrev pub Does : {D : Type 0} → (D → Disk) → D → Deed D → D → Type 0
Does disk_of old (Formatting identity result) new = IsFormat disk_of old identity result new
Does {D} disk_of old (FormattingCut identity) new =
    (result : Result (Unit {0}) JournalFault) × (ran : D) × IsFormat disk_of old identity result ran
    × IsPassedOn (disk_of ran) (disk_of old).clock (disk_of new)
Does disk_of old (Refusing fault) new = IsOpening disk_of old (Err (record { disk = new; fault = fault }))
Does {D} disk_of old OpeningCut new =
    (result : Result (EndpointValue D) (RecoverRefused D)) × IsOpening disk_of old result
    × IsPassedOn (disk_after_opening disk_of result) (disk_of old).clock (disk_of new)
Does disk_of old (Living first turns last None) new = LivesFrom disk_of old first turns last × (new ≡ device_in last)
Does {D} disk_of old (Living first turns last (Some call)) new =
    LivesFrom disk_of old first turns last × IsSoundEndpoint last
    × (reply : Reply) × (after : EndpointValue D) × IsCall disk_of last call reply after
    × IsPassedOn (disk_in disk_of after) (disk_in disk_of last).clock (disk_of new)
Does disk_of old PassingOn new = IsPassedOn (disk_of old) (disk_of old).clock (disk_of new)

-- ---- one after another

-- a deed, and the disk after it
pub record Link (D : Type 0) : Type 0 where
  pub deed : Deed D
  pub after : D

-- deeds, one after another, lead from a disk to a disk
abbrev pub Chain : {D : Type 0} → (D → Disk) → D → List (Link D) → D → Type 0
Chain disk_of old [] new = new ≡ old
Chain disk_of old (link ∷ links) new = Does disk_of old link.deed link.after × Chain disk_of link.after links new

-- ---- the resulting lives

-- those of a deed with a disk from which reads give this
abbrev pub lives_of_deed : {D : Type 0} → Image → Deed D → List Life
lives_of_deed seen (Formatting identity result) = Formats this_edition identity (is_ok result) ∷ []
lives_of_deed seen (FormattingCut identity) = Formats this_edition identity false ∷ []
lives_of_deed seen (Refusing fault) = Refuses this_edition seen fault ∷ []
lives_of_deed seen OpeningCut = []
lives_of_deed seen (Living first turns last cut) = Serves this_edition seen (map exchange_of turns) cut ∷ []
lives_of_deed seen PassingOn = []

-- those of deeds, starting with this disk
abbrev pub lives_of_links : {D : Type 0} → (D → Disk) → D → List (Link D) → List Life
lives_of_links disk_of old [] = []
lives_of_links disk_of old (link ∷ links) =
    lives_of_deed (now (disk_of old)).seen link.deed ++ lives_of_links disk_of link.after links
