-- Which files become the disk of a new endpoint, depending on their contents.
use Rattle.std.specs.Prelude.{◌≡◌, ◌≢◌, ◌⊎◌, ◌/◌, if◌then◌else◌, ⊤, ℕ, Bool, true, List, Option, Some, None, Result, Ok}
use Rattle.std.specs.Prelude.{Err, IfErr, IfOk, codes}
use Rattle.std.specs.Io.KnownBytes.{Appends}
use Rattle.macs_config.specs.Identity.{Identity}
use Rattle.macs_disk.specs.FileDisks.{IsBlank, disk_in_file, file_given, file_left}
use Rattle.macs_disk.specs.Files.{Behaves, FileState, IsEmpty}
use Rattle.macs_disk.specs.declared.file.FileDisk.{FileDisk}
use Rattle.macs_disk.specs.declared.layout.Layout.{Layout}
use Rattle.macs_disk.specs.declared.file_fault.FileFault.{FileFault}
use Rattle.macs_endpoint.specs.Formatting.{IsFormat}
use Rattle.macs_journal.specs.declared.fault.JournalFault.{JournalFault}
use Rattle.macs_journal.specs.declared.fault.JournalFault.TheVariants as journal
use Rattle.macs_journal.specs.Contents.{ContentsAre}
use Rattle.macs_cli.specs.Failing.{failure_of_file, failure_of_journal}
use Rattle.macs_texts.specs.Lines.{line}
use Rattle.macs_journal.specs.declared.contents.Contents.{Contents}
use Rattle.macs_journal.specs.declared.contents.Contents.TheVariants as contents
use Rattle.macs_cli.specs.declared.failure.DiskFault.{DiskFault}
use Rattle.macs_cli.specs.declared.failure.DiskFault.TheVariants as disk
use Rattle.macs_cli.specs.declared.failure.Failure.{Failure}
use Rattle.macs_cli.specs.declared.failure.Failure.TheVariants as failures
use Rattle.macs_cli.specs.declared.status.Status.{Status}
use Rattle.macs_cli.specs.declared.status.Status.TheVariants as ends

-- why a file with these contents is not overwritten, if it is not
abbrev pub refusal_of : Contents → Bool → Option DiskFault
refusal_of contents.Blank is_over = None
refusal_of contents.Endpoint is_over = Some (disk.Journal journal.AlreadyFormatted)
refusal_of contents.Other is_over = if is_over then None else Some disk.File

-- a file of `sectors` sectors holds something that is not overwritten for this reason, or with None something that may
-- be overwritten
abbrev pub Permits : Bool → FileState → ℕ → Option DiskFault → Type 0
Permits is_over file sectors refusal = (held : Contents) × ContentsAre file sectors held
    × (refusal_of held is_over ≡ refusal)

-- a file may become that of a new endpoint: it holds no endpoint, and nothing else unless it may be overwritten
abbrev pub IsFree : Bool → FileState → Type 0
IsFree is_over file = Permits is_over file (file.size / 512) None

-- a blank disk of this layout was made in a file, and formatted
pub record MakesEndpoint {F : Type 0} (file : F → FileState) (made : F) (layout : Layout) (identity : Identity)
    : Type 0 where
  pub blank : FileDisk F
  pub given : file_given blank ≡ made
  pub is_blank : IsEmpty (file made) → IsBlank (file made) (file (file_left blank)) layout (disk_in_file file blank)
  pub new : FileDisk F
  pub formats : IsFormat (disk_in_file file) blank identity (Ok tt) new

-- a file that was free for it was replaced by one made for a new endpoint
pub record Formats {F : Type 0} (file : F → FileState) (is_over : Bool) (layout : Layout)
    (identity : Identity) : Type 0 where
  pub old : F
  pub free : Behaves (file old) → IsFree is_over (file old)
  pub made : F
  pub makes : MakesEndpoint file made layout identity

-- a file may not become that of a new endpoint for this fault, because of its contents
abbrev pub IsTaken : Bool → FileState → DiskFault → Type 0
IsTaken is_over file fault = Permits is_over file (file.size / 512) (Some fault)

-- Why a file is not free: it cannot be the file of a disk, for this fault; or it cannot be examined, or holds something
-- that is not overwritten
abbrev pub BlankFails : Bool → FileState → Failure → Type 0
BlankFails is_over file failure =
    ((fault : FileFault) × (failure ≡ failure_of_file fault))
    ⊎ ((fault : DiskFault) × (failure ≡ failures.Disk fault)
    × (Behaves file → (fault ≡ disk.Journal journal.Disk) ⊎ IsTaken is_over file fault))

-- why no endpoint is made in a new file: it cannot be written or synced; or formatting the blank disk in it fails, for
-- this fault
abbrev pub EndpointFails : {F : Type 0} → (F → FileState) → Identity → Failure → Type 0
EndpointFails {F} file identity failure =
    ((fault : FileFault) × (failure ≡ failure_of_file fault))
    ⊎ ((blank : FileDisk F) × (left : FileDisk F) × (fault : JournalFault) × (failure ≡ failure_of_journal fault)
    × IsFormat (disk_in_file file) blank identity (Err fault) left)

-- Why no file becomes the disk of a new endpoint: no file can be that of a disk, or it cannot be replaced; or it is not
-- free; or no endpoint is made
abbrev pub FormatFails : {F : Type 0} → (F → FileState) → Bool → Identity → Failure → Type 0
FormatFails {F} file is_over identity failure =
    ((fault : FileFault) × (failure ≡ failure_of_file fault))
    ⊎ ((given : F) × BlankFails is_over (file given) failure)
    ⊎ EndpointFails file identity failure

-- the failures after those of the values: disk, memory and standard output
abbrev pub IsAfterValues : Failure → Type 0
IsAfterValues (failures.Disk fault) = ⊤
IsAfterValues failures.Memory = ⊤
IsAfterValues failures.Output = ⊤
IsAfterValues other = ⊥

-- a file becomes the disk of a new endpoint and a line says so; or none does, or the line cannot be written
pub record MakesDisk {F W : Type 0} (file : F → FileState) (contents : W → Option (List ℕ)) (has_failed : W → Bool)
    (is_over : Bool) (layout : Layout)
    (identity : Identity) (before : W) (result : Result Status Failure) (after : W) : Type 0 where
  pub printed : IfOk result (λ status. Formats file is_over layout identity
      × Appends (contents before) (contents after) (line (codes "formatted")) × (status ≡ ends.Done))
  pub ended : IfErr result (λ failure. FormatFails file is_over identity failure ⊎ (failure ≡ failures.Output))
  pub failed : IfErr result IsAfterValues
  pub silent : IfErr result (λ failure. failure ≢ failures.Output → after ≡ before)
  pub broken : IfErr result (λ failure. failure ≡ failures.Output → has_failed after ≡ true)
