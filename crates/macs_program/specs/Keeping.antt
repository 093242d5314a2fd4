-- What a keeper does for its one client, at which socket, and what comes of it on a disk in a file.
use Rattle.std.specs.Prelude.{◌≡◌, ◌⊎◌, ◌++◌, ℕ, Bool, true, false, List, [], ◌∷◌, Option, Some, None, Result, Ok, Err}
use Rattle.macs_disk.specs.Disk.{Disk}
use Rattle.macs_disk.specs.FileDisks.{disk_in_file}
use Rattle.macs_disk.specs.Files.{FileState}
use Rattle.macs_disk.specs.declared.file.FileDisk.{FileDisk}
use Rattle.macs_disk.specs.declared.file_fault.FileFault.{FileFault}
use Rattle.macs_control.specs.Calls.{with_calls}
use Rattle.macs_control.specs.Keepers.{Keeps}
use Rattle.macs_control.specs.Links.{Line, Link}
use Rattle.macs_control.specs.declared.keeping.keeper.KeepEnd.{KeepEnd}
use Rattle.macs_control.specs.declared.keeping.keeper.KeepEnd.TheVariants.{Ungreeted, Ended, Gone, Malformed, Outside}
use Rattle.macs_control.specs.declared.keeping.keeper.KeepEnd.TheVariants.{Unanswered}
use Rattle.macs_offline.specs.Openings.{IsDiskIn}
use Rattle.macs_cli.specs.Failing.{failure_of_file}
use Rattle.macs_cli.specs.declared.failure.Failure.{Failure}
use Rattle.macs_cli.specs.declared.failure.Failure.TheVariants.{Control}
use Rattle.macs_cli.specs.declared.status.Status.{Status}
use Rattle.macs_cli.specs.declared.status.Status.TheVariants.{Done}

-- ---- the socket

-- a call at the socket of a keeper, and its result: it is bound to a name; the program's parent is notified; a client is
-- waited for, whose connection is known or not; it is closed, and the name removed
pub data EntranceCall : Type 0 where
  Binds : (path : List ℕ) → (done : Bool) → EntranceCall
  Notifies : EntranceCall
  LetsIn : (client : Option Line) → EntranceCall
  Closes : (path : List ℕ) → EntranceCall

-- the calls that let one client in: once it has come, nobody else can
abbrev pub one_let_in : List ℕ → Line → List EntranceCall
one_let_in path client = Binds path true ∷ Notifies ∷ LetsIn (Some client) ∷ Closes path ∷ []

-- those that let nobody in: the name cannot be bound, or nobody can be waited for
abbrev pub LetsNobodyIn : List ℕ → Option (List EntranceCall) → Option (List EntranceCall) → Type 0
LetsNobodyIn path before after = (after ≡ with_calls before (Binds path false ∷ []))
    ⊎ (after ≡ with_calls before (Binds path true ∷ Notifies ∷ LetsIn None ∷ Closes path ∷ []))

-- ---- what comes of it

-- A client that is gone ends the work of its keeper, whenever that is. What is not a request, one for a sector that the
-- disk does not have, and a connection that fails are failures
abbrev pub outcome_of : KeepEnd → Result Status Failure
outcome_of Ungreeted = Ok Done
outcome_of Ended = Ok Done
outcome_of Unanswered = Ok Done
outcome_of Gone = Err Control
outcome_of Malformed = Err Control
outcome_of Outside = Err Control

-- one client is let in, and a disk is kept for it to this end
pub record KeepsOne (path : List ℕ) (asked : Option (List EntranceCall)) (before : Disk) (end : KeepEnd)
    (now : Option (List EntranceCall)) (after : Disk) : Type 0 where
  pub client : Line
  pub left : Option Link
  pub let_in : now ≡ with_calls asked (one_let_in path client)
  pub keeps : Keeps before client end after left

-- a disk is kept for one client; or nobody is let in, no call of the disk is made, and that is a failure
abbrev pub KeepsFor : List ℕ → Option (List EntranceCall) → Disk → Result Status Failure → Option (List EntranceCall)
    → Disk → Type 0
KeepsFor path asked before result now after =
    ((result ≡ Err Control) × (after ≡ before) × LetsNobodyIn path asked now)
    ⊎ ((end : KeepEnd) × (result ≡ outcome_of end) × KeepsOne path asked before end now after)

-- ---- on a disk in a file

-- it was opened there, and kept for one client to this end
pub record IsKeptIn {F : Type 0} (file : F → FileState) (end : KeepEnd) : Type 0 where
  pub disk : FileDisk F
  pub left : FileDisk F
  pub old : Line
  pub new : Option Link
  pub is_disk : IsDiskIn file disk
  pub keeps : Keeps (disk_in_file file disk) old end (disk_in_file file left) new

-- a disk was kept there, and this status is what came of it
abbrev pub KeepsIn : {F : Type 0} → (F → FileState) → Status → Type 0
KeepsIn file status = (end : KeepEnd) × (outcome_of end ≡ Ok status) × IsKeptIn file end

-- nobody was let in to a disk that was opened there
pub record IsUnvisited {F : Type 0} (file : F → FileState) (failure : Failure) : Type 0 where
  pub disk : FileDisk F
  pub is_disk : IsDiskIn file disk
  pub is : failure ≡ Control

-- there is no disk in the file; nobody was let in; or it was kept, and this failure is what came of it
abbrev pub FailsToKeep : {F : Type 0} → (F → FileState) → Failure → Type 0
FailsToKeep file failure = ((fault : FileFault) × (failure ≡ failure_of_file fault)) ⊎ IsUnvisited file failure
    ⊎ ((end : KeepEnd) × (outcome_of end ≡ Err failure) × IsKeptIn file end)
