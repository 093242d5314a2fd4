-- What programs do with a disk by calls of `format`, of `Endpoint::open` and of an endpoint, as seen from outside.
use Rattle.std.specs.Prelude.{◌≡◌, List, [], ◌∷◌, Result, Ok, Err}
use Rattle.macs_config.specs.Identity.{Identity}
use Rattle.macs_disk.specs.Disk.{Disk}
use Rattle.macs_journal.specs.declared.fault.JournalFault.{JournalFault}
use Rattle.macs_endpoint.specs.Calls.{IsCall}
use Rattle.macs_endpoint.specs.Formatting.{IsFormat}
use Rattle.macs_endpoint.specs.Opening.{IsOpening}
use Rattle.macs_endpoint.specs.State.{Call, Reply}
use Rattle.macs_endpoint.specs.Value.{EndpointValue, IsSoundEndpoint, device_in, disk_in}
use Rattle.macs_headline.specs.Deeds.{IsPassedOn}

-- ---- events

-- A call returns: `format`; `Endpoint::open`; a call of an endpoint; its readers, which show a value of type V; or
-- `into_disk`.
pub data Answer (V : Type 0) : Type 0 where
  Formats : (identity : Identity) (result : Result (Unit {0}) JournalFault) → Answer V
  Opens : (result : Result (Unit {0}) JournalFault) → Answer V
  Calls : (call : Call) (reply : Reply) → Answer V
  Shows : (shown : V) → Answer V
  Closes : Answer V

-- A call returns; or a program ends inside a call, before it sees this answer; or it ends between two calls. It may end
-- because power is lost, because it is killed, or in any other way.
pub data Event (V : Type 0) : Type 0 where
  Answers : Answer V → Event V
  EndsIn : Answer V → Event V
  Ends : Event V

-- ---- what happens

-- a program holds its disk, or an endpoint that holds it
pub data Holds (D : Type 0) : Type 0 where
  HoldsDisk : (disk : D) → Holds D
  HoldsEndpoint : (endpoint : EndpointValue D) → Holds D

-- the disk that it holds; `disk_of` gives the disk of a device of type D
abbrev pub disk_held : {D : Type 0} → (D → Disk) → Holds D → Disk
disk_held disk_of (HoldsDisk disk) = disk_of disk
disk_held disk_of (HoldsEndpoint endpoint) = disk_in disk_of endpoint

-- A call returns an answer allowed by the contract of its function, which the function is proved to meet; `show` gives
-- what the readers of an endpoint show.
abbrev pub IsAnswered : {D V : Type 0} → (D → Disk) → (show : EndpointValue D → V) → Holds D → Answer V
    → Holds D → Type 0
IsAnswered disk_of show (HoldsDisk old) (Formats identity result) (HoldsDisk new) =
    IsFormat disk_of old identity result new
IsAnswered disk_of show (HoldsDisk old) (Opens (Ok done)) (HoldsEndpoint new) = IsOpening disk_of old (Ok new)
IsAnswered disk_of show (HoldsDisk old) (Opens (Err fault)) (HoldsDisk new) =
    IsOpening disk_of old (Err (record { disk = new; fault = fault }))
IsAnswered disk_of show (HoldsEndpoint old) (Calls call reply) (HoldsEndpoint new) =
    IsSoundEndpoint old × IsCall disk_of old call reply new
IsAnswered disk_of show (HoldsEndpoint old) (Shows shown) (HoldsEndpoint new) = (shown ≡ show old) × (new ≡ old)
IsAnswered disk_of show (HoldsEndpoint old) Closes (HoldsDisk new) = new ≡ device_in old
IsAnswered disk_of show old answer new = ⊥

-- An event happens. If a program ends, the next one holds a disk with what was left at some moment of the call.
abbrev pub Happens : {D V : Type 0} → (D → Disk) → (show : EndpointValue D → V) → Holds D → Event V → Holds D → Type 0
Happens disk_of show old (Answers answer) new = IsAnswered disk_of show old answer new
Happens {D} disk_of show old (EndsIn answer) (HoldsDisk new) =
    (ran : Holds D) × IsAnswered disk_of show old answer ran
    × IsPassedOn (disk_held disk_of ran) (disk_held disk_of old).clock (disk_of new)
Happens disk_of show old Ends (HoldsDisk new) =
    IsPassedOn (disk_held disk_of old) (disk_held disk_of old).clock (disk_of new)
Happens disk_of show old event new = ⊥

-- these events happen, one after another
abbrev pub Happen : {D V : Type 0} → (D → Disk) → (show : EndpointValue D → V) → Holds D → List (Event V) → Holds D
    → Type 0
Happen disk_of show old [] new = new ≡ old
Happen {D} disk_of show old (event ∷ events) new =
    (mid : Holds D) × Happens disk_of show old event mid × Happen disk_of show mid events new
