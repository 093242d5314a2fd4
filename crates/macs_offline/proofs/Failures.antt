-- Failures that are not of standard output, and no wrong usage.
use Rattle.std.proofs.Common.{◌≡◌, ◌≢◌, ◌⊎◌, ◌∙◌, inl, inr, ap, sym, ℕ, List}
use Rattle.macs_disk.specs.declared.file_fault.FileFault.{FileFault}
use Rattle.macs_disk.specs.declared.file_fault.FileFault.TheVariants as file_faults
use Rattle.macs_disk.specs.Files.{FileState}
use Rattle.macs_journal.specs.declared.fault.JournalFault.TheVariants as journal
use Rattle.macs_offline.specs.Copying.{CopyFails}
use Rattle.macs_offline.specs.Openings.{OpeningFails}
use Rattle.macs_cli.specs.Failing.{failure_of_file, failure_status}
use Rattle.macs_cli.specs.declared.failure.DiskFault.{DiskFault}
use Rattle.macs_cli.specs.declared.failure.DiskFault.TheVariants as disk_faults
use Rattle.macs_cli.specs.declared.failure.Failure.{Failure}
use Rattle.macs_cli.specs.declared.failure.Failure.TheVariants.{Capture, Commands, Disk, DiskFile, Memory}
use Rattle.macs_cli.specs.declared.failure.Failure.TheVariants.{Output}
use Rattle.macs_cli.specs.Reasons.{ComplainsOfDisk, IsNotRead, Tells, reason_text}
use Rattle.std.specs.declared.io.ErrorKind.{ErrorKind}
use Rattle.std.proofs.Common.{codes}
use Rattle.macs_cli.specs.declared.status.Status.TheVariants.{Usage}

-- ---- want of memory, or one other failure

-- one or the other
abbrev pub MemoryOr : Failure → Failure → Type 0
MemoryOr other failure = (failure ≡ Memory) ⊎ (failure ≡ other)

pub commands-no-output : (failure : Failure) → MemoryOr Commands failure → failure ≢ Output
commands-no-output failure (inl memory) is = let e = sym memory ∙ is in cc
commands-no-output failure (inr same) is = let e = sym same ∙ is in cc

pub commands-no-usage : (failure : Failure) → MemoryOr Commands failure → failure_status failure ≢ Usage
commands-no-usage failure (inl memory) is = let e = ap failure_status (sym memory) ∙ is in cc
commands-no-usage failure (inr same) is = let e = ap failure_status (sym same) ∙ is in cc

pub capture-no-output : (failure : Failure) → MemoryOr Capture failure → failure ≢ Output
capture-no-output failure (inl memory) is = let e = sym memory ∙ is in cc
capture-no-output failure (inr same) is = let e = sym same ∙ is in cc

pub capture-no-usage : (failure : Failure) → MemoryOr Capture failure → failure_status failure ≢ Usage
capture-no-usage failure (inl memory) is = let e = ap failure_status (sym memory) ∙ is in cc
capture-no-usage failure (inr same) is = let e = ap failure_status (sym same) ∙ is in cc

pub output-no-usage : (failure : Failure) → MemoryOr Output failure → failure_status failure ≢ Usage
output-no-usage failure (inl memory) is = let e = ap failure_status (sym memory) ∙ is in cc
output-no-usage failure (inr same) is = let e = ap failure_status (sym same) ∙ is in cc

-- ---- want of memory, or a fault of the disk

-- one or the other
abbrev pub IsOfDisk : Failure → Type 0
IsOfDisk failure = (failure ≡ Memory) ⊎ ((fault : DiskFault) × (failure ≡ Disk fault))

pub disk-no-output : (failure : Failure) → IsOfDisk failure → failure ≢ Output
disk-no-output failure (inl memory) is = let e = sym memory ∙ is in cc
disk-no-output failure (inr (fault, same)) is = let e = sym same ∙ is in cc

pub disk-no-usage : (failure : Failure) → IsOfDisk failure → failure_status failure ≢ Usage
disk-no-usage failure (inl memory) is = let e = ap failure_status (sym memory) ∙ is in cc
disk-no-usage failure (inr (fault, same)) is = let e = ap failure_status (sym same) ∙ is in cc

pub of-file : (fault : FileFault) (failure : Failure) → failure ≡ failure_of_file fault → IsOfDisk failure
of-file file_faults.Open failure is = inr (disk_faults.File, is)
of-file file_faults.Length failure is = inr (disk_faults.Length, is)
of-file file_faults.Device failure is = inr (disk_faults.Journal journal.Disk, is)
of-file file_faults.Memory failure is = inl is

-- an endpoint that is not opened
pub of-opening : {F : Type 0} (file : F → FileState) (failure : Failure) → OpeningFails file failure → IsOfDisk failure
of-opening file failure (inl (fault, is)) = of-file fault failure is
of-opening file failure (inr refused) = inr (disk_faults.Journal refused.fault, refused.is)

-- ---- a disk that is copied

-- so it is, or its file is not opened to be read
abbrev pub IsOfCopy : Failure → Type 0
IsOfCopy failure = IsOfDisk failure ⊎ ((text : _) × (failure ≡ DiskFile text))

pub of-copy : (file : FileState) (failure : Failure) → CopyFails file failure → IsOfDisk failure
of-copy file failure (inl (fault, is, length)) = of-file fault failure is
of-copy file failure (inr (is, few)) = inr (disk_faults.Journal journal.TooSmall, is)

pub of-unread : (name : List ℕ) (failure : Failure) → IsNotRead name failure → IsOfCopy failure
of-unread name failure (inl memory) = inl (inl memory)
of-unread name failure (inr (text, is, said)) = inr (text, is)

-- it is not opened, for this reason
pub not-read-for : (name : List ℕ) (kind : ErrorKind) (failure : Failure)
    → ComplainsOfDisk (Tells (codes "disk file") name (reason_text kind)) failure → IsNotRead name failure
not-read-for name kind failure (inl memory) = inl memory
not-read-for name kind failure (inr (text, is, tells)) = inr (text, is, (kind, tells))

pub copy-no-output : (failure : Failure) → IsOfCopy failure → failure ≢ Output
copy-no-output failure (inl ours) is = disk-no-output failure ours is
copy-no-output failure (inr (text, same)) is = let e = sym same ∙ is in cc

pub copy-no-usage : (failure : Failure) → IsOfCopy failure → failure_status failure ≢ Usage
copy-no-usage failure (inl ours) is = disk-no-usage failure ours is
copy-no-usage failure (inr (text, same)) is = let e = ap failure_status (sym same) ∙ is in cc
