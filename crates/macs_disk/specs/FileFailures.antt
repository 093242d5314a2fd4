-- Which calls of a file failed, and which fault of an opening results.
use Rattle.std.specs.Prelude.{◌≡◌, ◌≢◌, ◌↔◌, ◌⊎◌, ◌++◌, ⊤, List, [], ◌∷◌, Option, Some, None, Result, Ok, Err}
use Rattle.std.specs.declared.io.ErrorKind.{ErrorKind}
use Rattle.std.specs.List.{All}
use Rattle.std.specs.declared.io.ErrorKind.TheVariants.{Interrupted, OutOfMemory}
use Rattle.macs_disk.specs.declared.file_fault.FileFault.{FileFault}
use Rattle.macs_disk.specs.declared.file_fault.FileFault.TheVariants as fault

-- a call of a file
pub data FileCall : Type 0 where
  Claims : FileCall
  Measures : FileCall
  Reads : FileCall
  Writes : FileCall
  Syncs : FileCall

-- a call that failed, with the kind of its error
pub record FailedCall : Type 0 where
  pub call : FileCall
  pub kind : ErrorKind

-- one more call was answered: if it is known which calls failed, this one is added if and only if it failed
abbrev pub NotesFailure : {T E : Type 0} → Option (List FailedCall) → Option (List FailedCall) → FileCall
    → (E → ErrorKind) → Result T E → Type 0
NotesFailure None after call kind answer = ⊤
NotesFailure (Some before) after call kind (Ok value) = after ≡ Some before
NotesFailure (Some before) after call kind (Err error) =
    after ≡ Some (before ++ record { call = call; kind = kind error } ∷ [])

-- no call has failed in between
abbrev pub NoneFailed : Option (List FailedCall) → Option (List FailedCall) → Type 0
NoneFailed None after = ⊤
NoneFailed (Some before) after = after ≡ Some before

-- this call has failed in between, and no other
abbrev pub OneFailed : Option (List FailedCall) → Option (List FailedCall) → FileCall → ErrorKind → Type 0
OneFailed None after call kind = ⊤
OneFailed (Some before) after call kind = after ≡ Some (before ++ record { call = call; kind = kind } ∷ [])

-- the fault for an error of this kind in a call without which the file cannot be opened: `Memory` if memory ran out,
-- else `Open`
abbrev pub IsFaultOfKind : ErrorKind → FileFault → Type 0
IsFaultOfKind kind it = (it ≢ fault.Length) × (it ≢ fault.Device) × ((it ≡ fault.Memory) ↔ (kind ≡ OutOfMemory))

-- a file is not measured: its length is not whole sectors, and no call failed; or the claim or the measuring failed,
-- and this is its fault
abbrev pub MeasureFails : Option (List FailedCall) → Option (List FailedCall) → FileFault → Type 0
MeasureFails before after it =
    ((it ≡ fault.Length) × NoneFailed before after)
    ⊎ ((call : FileCall) × (kind : ErrorKind) × ((call ≡ Claims) ⊎ (call ≡ Measures))
    × OneFailed before after call kind × IsFaultOfKind kind it)

-- ---- reads and writes after that

-- a call that was interrupted
abbrev pub IsInterrupted : FailedCall → Type 0
IsInterrupted it = it.kind ≡ Interrupted

-- only interrupted calls have failed in between
abbrev pub OnlyInterrupted : Option (List FailedCall) → Option (List FailedCall) → Type 0
OnlyInterrupted None after = ⊤
OnlyInterrupted (Some before) after = (more : List FailedCall) × All IsInterrupted more
    × (after ≡ Some (before ++ more))

-- this call failed last, and only interrupted ones before it
abbrev pub FailsLast : Option (List FailedCall) → Option (List FailedCall) → FileCall → ErrorKind → Type 0
FailsLast before after call kind = (between : Option (List FailedCall)) × OnlyInterrupted before between
    × OneFailed between after call kind

-- moving octets fails with an error of this kind, other than an interruption: such a call failed with it; or only
-- interrupted ones did, and one moved nothing
abbrev pub MoveFails : Option (List FailedCall) → Option (List FailedCall) → FileCall → ErrorKind → Type 0
MoveFails before after call kind =
    (kind ≢ Interrupted) × (FailsLast before after call kind ⊎ ((kind ≢ OutOfMemory) × OnlyInterrupted before after))

-- why a file is not written: a write or a sync failed, and this is its fault; or none did, and one wrote nothing, or
-- the file may not be that long
abbrev pub WriteFails : Option (List FailedCall) → Option (List FailedCall) → FileFault → Type 0
WriteFails before after it =
    ((it ≡ fault.Open) × OnlyInterrupted before after)
    ⊎ ((call : FileCall) × (kind : ErrorKind) × ((call ≡ Writes) ⊎ (call ≡ Syncs)) × FailsLast before after call kind
    × IsFaultOfKind kind it)

-- why a settled file does not become a disk: its mark cannot be read, or it cannot be extended
abbrev pub ExtendFails : Option (List FailedCall) → Option (List FailedCall) → FileFault → Type 0
ExtendFails before after it = ((it ≡ fault.Device) × (kind : ErrorKind) × MoveFails before after Reads kind)
    ⊎ WriteFails before after it

-- why a file is not copied into a new one: it cannot be read; or the copy cannot be synced; or it cannot be written
abbrev pub CopyFails : Option (List FailedCall) → Option (List FailedCall) → Option (List FailedCall)
    → Option (List FailedCall) → FileFault → Type 0
CopyFails before after new_before new_after it =
    ((it ≡ fault.Device) × (kind : ErrorKind) × MoveFails before after Reads kind)
    ⊎ ((it ≡ fault.Device) × (kind : ErrorKind) × FailsLast new_before new_after Syncs kind)
    ⊎ WriteFails new_before new_after it
