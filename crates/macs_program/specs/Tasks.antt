-- What a subcommand does with the endpoint that it opens, and the result on a disk in a file.
use Rattle.std.specs.Prelude.{◌≡◌, ◌≢◌, ◌⊎◌, ℕ, Bool, true, List, Option, Result, Err, IfErr, IfOk}
use Rattle.std.specs.Io.KnownBytes.{Appends}
use Rattle.macs_disk.specs.Disk.{Disk}
use Rattle.macs_disk.specs.Files.{FileState}
use Rattle.macs_disk.specs.declared.file.FileDisk.{FileDisk}
use Rattle.macs_edge.specs.declared.capture_runs.Summary.{Summary}
use Rattle.macs_edge.specs.declared.relaying.RelaySummary.{RelaySummary}
use Rattle.macs_edge.specs.declared.settling.Side.{Side}
use Rattle.macs_endpoint.specs.Opening.{Opens, RefusesOpening}
use Rattle.macs_endpoint.specs.Value.{EndpointValue}
use Rattle.macs_journal.specs.declared.fault.JournalFault.{JournalFault}
use Rattle.macs_program.specs.Endpoints.{AppliesFile, BreaksOff, PassEnds, PassesBetween}
use Rattle.macs_offline.specs.Openings.{IsEndpointIn, OpeningFails}
use Rattle.macs_program.specs.Endpoints.{shown_text}
use Rattle.macs_cli.specs.Failing.{failure_of_journal, failure_status}
use Rattle.macs_program.specs.Relaying.{Course, IsAfterAddresses, RelayEnds, Relays}
use Rattle.macs_program.specs.Summing.{pass_status, relay_line, summary_line}
use Rattle.macs_cli.specs.declared.failure.Failure.{Failure}
use Rattle.macs_cli.specs.declared.failure.Failure.TheVariants.{Memory, Output}
use Rattle.macs_cli.specs.declared.status.Status.{Status}
use Rattle.macs_cli.specs.declared.status.Status.TheVariants as ends

-- what is done with an endpoint and a stream: both before, the answer, both after
abbrev pub Doing : Type 0 → Type 0 → Type 1
Doing D W = EndpointValue D → W → Result Status Failure → EndpointValue D → W → Type 0

-- ---- on a disk

-- the disk is refused, which is the failure, and nothing is printed
pub record IsRefusedOn {D W : Type 0} (disk_of : D → Disk) (disk : D) (before : W) (result : Result Status Failure)
    (after : W) : Type 0 where
  pub left : D
  pub fault : JournalFault
  pub refuses : RefusesOpening disk_of disk left fault
  pub is : result ≡ Err (failure_of_journal fault)
  pub silent : after ≡ before

-- an endpoint is opened there, and this is done with it
pub record IsDoneOn {D W : Type 0} (disk_of : D → Disk) (done : Doing D W) (disk : D) (before : W)
    (result : Result Status Failure) (after : W) : Type 0 where
  pub old : EndpointValue D
  pub new : EndpointValue D
  pub opens : Opens disk_of disk old
  pub does : done old before result new after

-- either of the two
abbrev pub IsRunOn : {D W : Type 0} → (D → Disk) → Doing D W → D → W → Result Status Failure → W → Type 0
IsRunOn disk_of done disk before result after =
    IsRefusedOn disk_of disk before result after ⊎ IsDoneOn disk_of done disk before result after

-- ---- on a disk in a file

-- no endpoint is opened there, which is the failure, and nothing is printed
pub record IsNotOpened {F W : Type 0} (file : F → FileState) (before : W) (result : Result Status Failure)
    (after : W) : Type 0 where
  pub failure : Failure
  pub is : result ≡ Err failure
  pub fails : OpeningFails file failure
  pub silent : after ≡ before

-- an endpoint is opened there, and this is done with it
pub record IsDoneWith {F W : Type 0} (file : F → FileState) (done : Doing (FileDisk F) W) (before : W)
    (result : Result Status Failure)
    (after : W) : Type 0 where
  pub old : EndpointValue (FileDisk F)
  pub new : EndpointValue (FileDisk F)
  pub endpoint : IsEndpointIn file old
  pub does : done old before result new after

-- either of the two
abbrev pub IsRunIn : {F W : Type 0} → (F → FileState) → Doing (FileDisk F) W → W → Result Status Failure → W → Type 0
IsRunIn file done before result after = IsNotOpened file before result after ⊎ IsDoneWith file done before result after

-- ---- what each does

-- `apply`: the commands of a file are given to the endpoint, all or only some
pub record DoesApply {F D W : Type 0} (left_in : F → Option (List ℕ)) (disk_of : D → Disk)
    (contents : W → Option (List ℕ)) (has_failed : W → Bool) (old : EndpointValue D) (before : W)
    (result : Result Status Failure) (new : EndpointValue D) (after : W) : Type 0 where
  pub printed : IfOk result (λ status. AppliesFile left_in disk_of old (contents before) (contents after) status new)
  pub ended : IfErr result (λ failure. BreaksOff left_in disk_of old (contents before) (contents after) failure new)
  pub broken : IfErr result (λ failure. failure ≡ Output → has_failed after ≡ true)

-- `show`: the text of the endpoint is printed, and the endpoint is unchanged
pub record DoesShow {D W : Type 0} (contents : W → Option (List ℕ)) (has_failed : W → Bool) (old : EndpointValue D)
    (before : W)
    (result : Result Status Failure) (new : EndpointValue D) (after : W) : Type 0 where
  pub same : new ≡ old
  pub printed : IfOk result
      (λ status. Appends (contents before) (contents after) (shown_text old) × (status ≡ ends.Done))
  pub ended : IfErr result (λ failure. (failure ≡ Memory) ⊎ (failure ≡ Output))
  pub silent : IfErr result (λ failure. failure ≢ Output → after ≡ before)
  pub broken : IfErr result (λ failure. failure ≡ Output → has_failed after ≡ true)

-- `protect` and `validate`: a capture is passed through the endpoint into another capture, or not whole
pub record DoesPass {D W : Type 0} (disk_of : D → Disk) (contents : W → Option (List ℕ)) (has_failed : W → Bool)
    (side : Side) (is_all : Bool)
    (old : EndpointValue D) (before : W) (result : Result Status Failure) (new : EndpointValue D)
    (after : W) : Type 0 where
  pub printed : IfOk result (λ status. (summary : Summary) × PassesBetween disk_of side old summary new
      × Appends (contents before) (contents after) (summary_line side summary) × (status ≡ pass_status is_all summary))
  pub ended : IfErr result (λ failure. PassEnds disk_of side old failure new)
  pub failed : IfErr result (λ failure. failure_status failure ≢ ends.Usage)
  pub silent : IfErr result (λ failure. failure ≢ Output → after ≡ before)
  pub broken : IfErr result (λ failure. failure ≡ Output → has_failed after ≡ true)

-- `relay`: frames are relayed through the endpoint between two wires
pub record DoesRelay {D W : Type 0} (disk_of : D → Disk) (contents : W → Option (List ℕ)) (has_failed : W → Bool)
    (course : Course)
    (old : EndpointValue D) (before : W) (result : Result Status Failure) (new : EndpointValue D)
    (after : W) : Type 0 where
  pub printed : IfOk result (λ status. (summary : RelaySummary) × Relays disk_of course old summary new
      × Appends (contents before) (contents after) (relay_line summary) × (status ≡ ends.Done))
  pub ended : IfErr result (λ failure. RelayEnds disk_of course old failure new)
  pub failed : IfErr result IsAfterAddresses
  pub silent : IfErr result (λ failure. failure ≢ Output → after ≡ before)
  pub broken : IfErr result (λ failure. failure ≡ Output → has_failed after ≡ true)
