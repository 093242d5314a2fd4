-- A relay over the disk of a keeper.
use Rattle.std.specs.Prelude.{◌≡◌, ◌⊎◌, ℕ, ℤ, Bool, List, [], ◌∷◌, Option, None, Some, Ok}
use Rattle.std.specs.Borrow.{Bor}
use Rattle.macs_disk.specs.Files.{FileState}
use Rattle.macs_control.specs.Calls.{with_calls}
use Rattle.macs_control.specs.KeptDisks.{Connects, GreetsNot, IsOpened, KeeperCall, KeptDiskValue, kept_disk}
use Rattle.macs_control.specs.Links.{Line, line_of}
use Rattle.macs_control.specs.Links.{Link}
use Rattle.macs_edge.specs.Relaying.{empty_lane, relay_of}
use Rattle.macs_edge.specs.Wires.{WireState}
use Rattle.macs_edge.specs.declared.relaying.RelaySummary.{RelaySummary}
use Rattle.macs_endpoint.specs.Opening.{Opens, RefusesOpening}
use Rattle.macs_endpoint.specs.Value.{EndpointValue}
use Rattle.macs_journal.specs.declared.fault.JournalFault.{JournalFault}
use Rattle.macs_journal.specs.declared.fault.JournalFault.TheVariants.{Disk}
use Rattle.macs_cli.specs.Failing.{failure_of_journal}
use Rattle.macs_cli.specs.declared.failure.Failure.{Failure}
use Rattle.macs_cli.specs.declared.failure.Failure.TheVariants.{Memory, Wire}
use Rattle.macs_program.specs.Relaying.{ComesTo, Course, IsRun, RelayEnds, RelayFailsIn, new_wire}

-- ---- the keeper

-- One connection was asked for, to the keeper with this name. It came, and its keeper greeted: this is the disk, and
-- the number of the connection's descriptor
pub record IsKeptAt {C : Type 0} (link : C → Option Link) (steady : C → Bool) (number : C → ℤ) (path : List ℕ)
    (asked : Option (List KeeperCall)) (disk : KeptDiskValue) (socket : ℤ) (now : Option (List KeeperCall))
    : Type 0 where
  pub connection : C
  pub found : now ≡ with_calls asked (Connects path (Some (line_of link steady connection)) ∷ [])
  pub opened : IsOpened (link connection) disk
  pub number_is : socket ≡ number connection

-- one was asked for, and did not come; or it came, and no greeting did
abbrev pub IsNotKept : List ℕ → Option (List KeeperCall) → Option (List KeeperCall) → Type 0
IsNotKept path asked now = (now ≡ with_calls asked (Connects path None ∷ []))
    ⊎ ((line : Line) × (now ≡ with_calls asked (Connects path (Some line) ∷ []))
    × GreetsNot line.link line.steady)

-- ---- the relay

-- an endpoint was opened on the disk of a keeper
pub record IsKeptEndpoint (endpoint : EndpointValue KeptDiskValue) : Type 0 where
  pub disk : KeptDiskValue
  pub opens : Opens kept_disk disk endpoint

-- from such an endpoint a relay between two new wires ends with this summary
pub record ComesToKept (course : Course) (summary : RelaySummary) : Type 0 where
  pub old : EndpointValue KeptDiskValue
  pub new : EndpointValue KeptDiskValue
  pub controlled : WireState
  pub common : WireState
  pub endpoint : IsKeptEndpoint old
  pub relayed : IsRun kept_disk course (relay_of old new_wire new_wire empty_lane empty_lane) (Ok summary) new
      controlled common

-- the disk of a keeper is refused
pub record IsRefusedByKeeper (failure : Failure) : Type 0 where
  pub disk : KeptDiskValue
  pub left : KeptDiskValue
  pub fault : JournalFault
  pub refuses : RefusesOpening kept_disk disk left fault
  pub is : failure ≡ failure_of_journal fault

-- no endpoint is opened: no keeper greets, or its disk is refused
abbrev pub KeepingFails : Failure → Type 0
KeepingFails failure = (failure ≡ failure_of_journal Disk) ⊎ IsRefusedByKeeper failure

-- the two wires cannot both be bound, or there is no memory for them
abbrev pub HasNoWires : Failure → Type 0
HasNoWires failure = (failure ≡ Memory) ⊎ (failure ≡ Wire)

-- such an endpoint was opened, and how its relay fails
pub record RelayEndsKept (course : Course) (failure : Failure) : Type 0 where
  pub old : EndpointValue KeptDiskValue
  pub new : EndpointValue KeptDiskValue
  pub endpoint : IsKeptEndpoint old
  pub ends : RelayEnds kept_disk course old failure new

-- how it fails after the addresses
abbrev pub RelayFailsKept : Course → Failure → Type 0
RelayFailsKept course failure = HasNoWires failure ⊎ KeepingFails failure ⊎ RelayEndsKept course failure

-- ---- whoever has the disk

-- the result of a relay over the disk of a keeper, or in a file if none is named
abbrev pub ComesToBy : {F : Type 0} → (F → FileState) → Option (Bor (List ℕ)) → Course → RelaySummary → Type 0
ComesToBy file None course summary = ComesTo file course summary
ComesToBy file (Some keeper) course summary = ComesToKept course summary

-- how it fails after the addresses
abbrev pub RelayFailsBy : {F : Type 0} → (F → FileState) → Option (Bor (List ℕ)) → Course → Failure → Type 0
RelayFailsBy file None course failure = RelayFailsIn file course failure
RelayFailsBy file (Some keeper) course failure = RelayFailsKept course failure
