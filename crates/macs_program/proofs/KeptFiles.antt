-- What comes of a keeper of a disk in a file.
use Rattle.std.proofs.Common.{◌≡◌, inl, inr, ℕ, List, Option, Result, Ok, Err, IfErr, IfOk, sym}
use Rattle.macs_disk.specs.FileDisks.{disk_in_file}
use Rattle.macs_disk.specs.Files.{FileState}
use Rattle.macs_disk.specs.declared.file.FileDisk.{FileDisk}
use Rattle.macs_control.specs.declared.keeping.keeper.KeepEnd.{KeepEnd}
use Rattle.macs_offline.specs.Openings.{IsDiskIn}
use Rattle.macs_cli.specs.declared.failure.Failure.{Failure}
use Rattle.macs_cli.specs.declared.failure.Failure.TheVariants.{Control}
use Rattle.macs_cli.specs.declared.status.Status.{Status}
use Rattle.macs_program.specs.Keeping.{EntranceCall, FailsToKeep, IsKeptIn, KeepsFor, KeepsIn, KeepsOne}

module _ {F : Type 0} (file : F → FileState) (disk left : FileDisk F) (path : List ℕ)
    (asked now : Option (List EntranceCall)) where
  one-kept : (end : KeepEnd) → IsDiskIn file disk
      → KeepsOne path asked (disk_in_file file disk) end now (disk_in_file file left) → IsKeptIn file end
  one-kept end there one = record {
    disk = disk;
    left = left;
    old = one.client;
    new = one.left;
    is_disk = there;
    keeps = one.keeps;
  }

  pub kept-in : (result : Result Status Failure) → IsDiskIn file disk
      → KeepsFor path asked (disk_in_file file disk) result now (disk_in_file file left)
      → IfOk result (KeepsIn file)
  kept-in (Ok status) there (inl (is, same, nobody)) = absurd (let e : Ok status ≡ Err Control = is in cc)
  kept-in (Ok status) there (inr (end, is, one)) = (end, sym is, one-kept end there one)
  kept-in (Err failure) there kept = tt

  pub failed-in : (result : Result Status Failure) → IsDiskIn file disk
      → KeepsFor path asked (disk_in_file file disk) result now (disk_in_file file left)
      → IfErr result (FailsToKeep file)
  failed-in (Ok status) there kept = tt
  failed-in (Err failure) there (inl (is, same, nobody)) = inr (inl (record {
    disk = disk;
    is_disk = there;
    is = let e : Err failure ≡ Err Control = is in cc;
  }))
  failed-in (Err failure) there (inr (end, is, one)) = inr (inr (end, sym is, one-kept end there one))
