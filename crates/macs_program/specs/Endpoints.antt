-- What a subcommand does with the endpoint that it opens on a disk in a file.
use Rattle.std.specs.Prelude.{◌≡◌, ◌⊎◌, ℕ, true, List, Option, Ok}
use Rattle.std.specs.Io.KnownBytes.{Appends}
use Rattle.macs_config.specs.declared.command.Command.{Command}
use Rattle.macs_disk.specs.Disk.{Disk}
use Rattle.macs_disk.specs.FileDisks.{disk_in_file}
use Rattle.macs_disk.specs.Files.{FileState}
use Rattle.macs_disk.specs.declared.file.FileDisk.{FileDisk}
use Rattle.macs_edge.specs.CaptureRuns.{run_of}
use Rattle.macs_edge.specs.declared.capture_runs.Summary.{Summary}
use Rattle.macs_edge.specs.declared.settling.Side.{Side}
use Rattle.macs_endpoint.specs.State.{no_logs}
use Rattle.macs_endpoint.specs.Value.{EndpointValue, state_of}
use Rattle.macs_pcap.specs.States.{SinkState, SourceState}
use Rattle.macs_offline.specs.Applying.{AppliesAll, AppliesSome, SaidByFile, SaysCommands, is_for, own_sci}
use Rattle.macs_program.specs.Capturing.{EndsPass, PassesCapture}
use Rattle.macs_offline.specs.Openings.{IsEndpointIn}
use Rattle.macs_texts.specs.Showing.{show_text}
use Rattle.macs_cli.specs.declared.failure.Failure.{Failure}
use Rattle.macs_cli.specs.declared.failure.Failure.TheVariants as failures
use Rattle.macs_cli.specs.declared.status.Status.{Status}

-- ---- the commands of a file, whose unread octets `left_in` gives, where known

-- all commands of some command file are given to an endpoint that the file is for, and a line is printed for each
pub record AppliesFile {F D : Type 0} (left_in : F → Option (List ℕ)) (disk_of : D → Disk) (old : EndpointValue D)
    (before after : Option (List ℕ)) (status : Status) (new : EndpointValue D) : Type 0 where
  pub octets : List ℕ
  pub end : Option (List ℕ)
  pub commands : List Command
  pub says : SaysCommands octets end commands
  pub by_file : SaidByFile left_in end commands
  pub own : is_for end (own_sci old) ≡ true
  pub applies : AppliesAll disk_of old commands before after status new

-- the commands of some command file that is for the endpoint end at one of them
pub record AppliesFront {F D : Type 0} (left_in : F → Option (List ℕ)) (disk_of : D → Disk) (old : EndpointValue D)
    (before after : Option (List ℕ)) (failure : Failure) (new : EndpointValue D) : Type 0 where
  pub octets : List ℕ
  pub end : Option (List ℕ)
  pub commands : List Command
  pub says : SaysCommands octets end commands
  pub by_file : SaidByFile left_in end commands
  pub own : is_for end (own_sci old) ≡ true
  pub applies : AppliesSome disk_of old commands before after failure new

-- there is no command file for the endpoint, or memory runs out, and nothing is done or printed; or its commands end at
-- one of them
abbrev pub BreaksOff : {F D : Type 0} → (F → Option (List ℕ)) → (D → Disk) → EndpointValue D → Option (List ℕ)
    → Option (List ℕ) → Failure → EndpointValue D → Type 0
BreaksOff left_in disk_of old before after failure new =
    (((failure ≡ failures.Memory) ⊎ (failure ≡ failures.Commands)) × (new ≡ old) × (after ≡ before))
    ⊎ AppliesFront left_in disk_of old before after failure new

-- the commands of a file are given to an endpoint on a disk in a file, and their lines are printed
pub record AppliesIn {F : Type 0} (file : F → FileState) (left_in : F → Option (List ℕ))
    (before after : Option (List ℕ)) (status : Status) : Type 0 where
  pub old : EndpointValue (FileDisk F)
  pub new : EndpointValue (FileDisk F)
  pub endpoint : IsEndpointIn file old
  pub applies : AppliesFile left_in (disk_in_file file) old before after status new

-- they are not, or not all of them
pub record BreaksOffIn {F : Type 0} (file : F → FileState) (left_in : F → Option (List ℕ))
    (before after : Option (List ℕ)) (failure : Failure) : Type 0 where
  pub old : EndpointValue (FileDisk F)
  pub new : EndpointValue (FileDisk F)
  pub endpoint : IsEndpointIn file old
  pub ends : BreaksOff left_in (disk_in_file file) old before after failure new

-- ---- the output of `show`

-- the text of an endpoint
abbrev pub shown_text : {D : Type 0} → EndpointValue D → List ℕ
shown_text endpoint = show_text (state_of endpoint no_logs)

-- the text of an endpoint on a disk in a file is printed, as it was opened
pub record ShowsIn {F : Type 0} (file : F → FileState) (before after : Option (List ℕ)) : Type 0 where
  pub shown : EndpointValue (FileDisk F)
  pub endpoint : IsEndpointIn file shown
  pub printed : Appends before after (shown_text shown)

-- ---- captures

-- a capture is passed through an endpoint into another capture
pub record PassesBetween {D : Type 0} (disk_of : D → Disk) (side : Side) (old : EndpointValue D) (summary : Summary)
    (new : EndpointValue D) : Type 0 where
  pub source : SourceState
  pub source_left : SourceState
  pub sink : SinkState
  pub sink_left : SinkState
  pub passes : PassesCapture disk_of side (run_of old source sink) (Ok summary) (run_of new source_left sink_left)

-- the same through an endpoint on a disk in a file
pub record PassesIn {F : Type 0} (file : F → FileState) (side : Side) (summary : Summary) : Type 0 where
  pub old : EndpointValue (FileDisk F)
  pub new : EndpointValue (FileDisk F)
  pub endpoint : IsEndpointIn file old
  pub passes : PassesBetween (disk_in_file file) side old summary new

-- it is not passed, or not whole
pub record StopsBetween {D : Type 0} (disk_of : D → Disk) (side : Side) (old : EndpointValue D) (failure : Failure)
    (new : EndpointValue D) : Type 0 where
  pub source : SourceState
  pub source_left : SourceState
  pub sink : SinkState
  pub sink_left : SinkState
  pub ends : EndsPass disk_of side (run_of old source sink) failure (run_of new source_left sink_left)

-- a capture cannot be opened, or memory runs out, and nothing is done with the endpoint; or the run ends
abbrev pub PassEnds : {D : Type 0} → (D → Disk) → Side → EndpointValue D → Failure → EndpointValue D → Type 0
PassEnds disk_of side old failure new =
    (((failure ≡ failures.Memory) ⊎ (failure ≡ failures.Capture)) × (new ≡ old))
    ⊎ StopsBetween disk_of side old failure new

-- the same with an endpoint on a disk in a file
pub record PassEndsIn {F : Type 0} (file : F → FileState) (side : Side) (failure : Failure) : Type 0 where
  pub old : EndpointValue (FileDisk F)
  pub new : EndpointValue (FileDisk F)
  pub endpoint : IsEndpointIn file old
  pub ends : PassEnds (disk_in_file file) side old failure new
