-- Calls of a file that were interrupted, and one that failed after them.
use Rattle.std.proofs.Common.{◌≡◌, ◌≢◌, ◌⊎◌, ◌∙◌, ◌++◌, inl, inr, List, [], ◌∷◌, Option, Some, None, Result, Ok, Err}
use Rattle.std.proofs.Common.{IfErr, ap, append-nil, append_assoc, refl, subst, sym}
use Rattle.std.proofs.lemmas.List.Elements.{All-append, All-from_recursion, All-nil}
use Rattle.std.proofs.lemmas.Bool.{false≢true}
use Rattle.std.specs.Prelude.{IsErr}
use Rattle.std.specs.declared.io.ErrorKind.{ErrorKind}
use Rattle.std.specs.declared.io.ErrorKind.TheVariants.{Interrupted, OutOfMemory, TimedOut, UnexpectedEof, WriteZero}
use Rattle.macs_disk.specs.FileFailures.{ExtendFails, FailedCall, FailsLast, FileCall, IsFaultOfKind, IsInterrupted}
use Rattle.macs_disk.specs.FileFailures.{CopyFails, MoveFails, NoneFailed, NotesFailure, OneFailed, OnlyInterrupted}
use Rattle.macs_disk.specs.FileFailures.{Reads, Syncs, WriteFails, Writes}
use Rattle.macs_disk.specs.declared.file_fault.FileFault.{FileFault}
use Rattle.macs_disk.specs.declared.file_fault.FileFault.TheVariants as fault
use Rattle.macs_disk.proofs.FailedCalls.{one-failed}

-- ---- interrupted calls

pub none-yet : (before : Option (List FailedCall)) → OnlyInterrupted before before
none-yet None = tt
none-yet (Some before) = ([], All-nil IsInterrupted, ap Some (sym (append-nil before)))

pub none-interrupted : (before after : Option (List FailedCall)) → NoneFailed before after
    → OnlyInterrupted before after
none-interrupted None after none = tt
none-interrupted (Some before) after none = ([], All-nil IsInterrupted, none ∙ ap Some (sym (append-nil before)))

pub one-interrupted : (before after : Option (List FailedCall)) (call : FileCall) (kind : ErrorKind)
    → OneFailed before after call kind → kind ≡ Interrupted
    → OnlyInterrupted before after
one-interrupted None after call kind one is = tt
one-interrupted (Some before) after call kind one is =
    let failed : FailedCall = record { call = call; kind = kind } in
    (failed ∷ [], All-from_recursion IsInterrupted (failed ∷ []) (is, tt), one)

pub interrupted-then : (before between after : Option (List FailedCall)) → OnlyInterrupted before between
    → OnlyInterrupted between after
    → OnlyInterrupted before after
interrupted-then None between after first second = tt
interrupted-then (Some before) between after (more, each, is) second =
    let (others, also, last) = subst (λ (b : Option (List FailedCall)). OnlyInterrupted b after) is second in
    (more ++ others, All-append IsInterrupted more others each also, last ∙ ap Some (append_assoc before more others))

-- ---- and one that failed

pub fails-last : (before between after : Option (List FailedCall)) (call : FileCall) (kind : ErrorKind)
    → OnlyInterrupted before between
    → OneFailed between after call kind → FailsLast before after call kind
fails-last before between after call kind first one = (between, first, one)

pub later-fails-last : (before between after : Option (List FailedCall)) (call : FileCall) (kind : ErrorKind)
    → OnlyInterrupted before between
    → FailsLast between after call kind → FailsLast before after call kind
later-fails-last before between after call kind first (last, second, one) =
    (last, interrupted-then before between last first second, one)

pub not-moved : (before between after : Option (List FailedCall)) (call : FileCall) (kind : ErrorKind)
    → OnlyInterrupted before between
    → OneFailed between after call kind → kind ≢ Interrupted → MoveFails before after call kind
not-moved before between after call kind first one other =
    (other, inl (fails-last before between after call kind first one))

-- the errors of moves themselves are of these kinds
abbrev pub IsOfMoves : ErrorKind → Type 0
IsOfMoves kind = (kind ≡ UnexpectedEof) ⊎ (kind ≡ WriteZero) ⊎ (kind ≡ TimedOut)

uninterrupted : (kind : ErrorKind) → IsOfMoves kind → kind ≢ Interrupted
uninterrupted kind (inl is) same = cc
uninterrupted kind (inr (inl is)) same = cc
uninterrupted kind (inr (inr is)) same = cc

ample : (kind : ErrorKind) → IsOfMoves kind → kind ≢ OutOfMemory
ample kind (inl is) same = cc
ample kind (inr (inl is)) same = cc
ample kind (inr (inr is)) same = cc

-- too many calls
pub moved-late : (before after : Option (List FailedCall)) (call : FileCall) (kind : ErrorKind)
    → OnlyInterrupted before after → IsOfMoves kind
    → MoveFails before after call kind
moved-late before after call kind only is = (uninterrupted kind is, inr (ample kind is, only))

-- a call that moved nothing
pub moved-nothing : (before between after : Option (List FailedCall)) (call : FileCall) (kind : ErrorKind)
    → OnlyInterrupted before between
    → NoneFailed between after → IsOfMoves kind → MoveFails before after call kind
moved-nothing before between after call kind first none is =
    moved-late before after call kind
    (interrupted-then before between after first (none-interrupted between after none)) is

pub later-not-moved : (before between after : Option (List FailedCall)) (call : FileCall) (kind : ErrorKind)
    → OnlyInterrupted before between
    → MoveFails between after call kind → MoveFails before after call kind
later-not-moved before between after call kind first (other, inl last) =
    (other, inl (later-fails-last before between after call kind first last))
later-not-moved before between after call kind first (other, inr (much, second)) =
    (other, inr (much, interrupted-then before between after first second))

-- a read that failed and was not interrupted
pub not-read : {T E : Type 0} (before after : Option (List FailedCall)) (kind : E → ErrorKind) (answer : Result T E)
    → IsErr answer → IfErr answer (λ error. kind error ≢ Interrupted)
    → NotesFailure {T = T} {E = E} before after Reads kind answer → (k : ErrorKind) × MoveFails before after Reads k
not-read before after kind (Ok value) is other noted = absurd (false≢true is)
not-read {T} {E} before after kind (Err error) is other noted = (
  kind error,
  not-moved before before after Reads (kind error) (none-yet before)
      (one-failed T before after Reads kind error noted) other,
)

-- octets that are not moved, by the answer
pub fails-of : {T E : Type 0} (before after : Option (List FailedCall)) (call : FileCall) (kind : E → ErrorKind)
    (answer : Result T E) → IsErr answer
    → IfErr answer (λ error. MoveFails before after call (kind error)) → (k : ErrorKind) × MoveFails before after call k
fails-of before after call kind (Ok value) is fails = absurd (false≢true is)
fails-of before after call kind (Err error) is fails = (kind error, fails)

-- ---- and its fault

open-of : (kind : ErrorKind) (it : FileFault) → kind ≢ OutOfMemory → IsFaultOfKind kind it → it ≡ fault.Open
open-of kind fault.Open much is = refl
open-of kind fault.Length much is = absurd (is.0 refl)
open-of kind fault.Device much is = absurd (is.1 refl)
open-of kind fault.Memory much is = absurd (much (is.2.0 refl))

pub write-fails : (before after : Option (List FailedCall)) (kind : ErrorKind) (it : FileFault)
    → MoveFails before after Writes kind → IsFaultOfKind kind it
    → WriteFails before after it
write-fails before after kind it (other, inl last) is = inr (Writes, kind, inl refl, last, is)
write-fails before after kind it (other, inr (much, only)) is = inl (open-of kind it much is, only)

pub sync-fails : (before between after : Option (List FailedCall)) (kind : ErrorKind) (it : FileFault)
    → OnlyInterrupted before between
    → OneFailed between after Syncs kind → IsFaultOfKind kind it → WriteFails before after it
sync-fails before between after kind it first one is =
    inr (Syncs, kind, inr refl, fails-last before between after Syncs kind first one, is)

pub later-write-fails : (before between after : Option (List FailedCall)) (it : FileFault)
    → OnlyInterrupted before between → WriteFails between after it
    → WriteFails before after it
later-write-fails before between after it first (inl (is, second)) =
    inl (is, interrupted-then before between after first second)
later-write-fails before between after it first (inr (call, kind, which, last, is)) =
    inr (call, kind, which, later-fails-last before between after call kind first last, is)

pub mark-not-read : (before after : Option (List FailedCall)) (kind : ErrorKind) (it : FileFault) → it ≡ fault.Device
    → MoveFails before after Reads kind
    → ExtendFails before after it
mark-not-read before after kind it is fails = inl (is, kind, fails)

-- a copy that fails after other parts were copied
pub later-copy-fails : (before between after new_before new_between new_after : Option (List FailedCall))
    (it : FileFault) → OnlyInterrupted before between → OnlyInterrupted new_before new_between
    → CopyFails between after new_between new_after it → CopyFails before after new_before new_after it
later-copy-fails before between after new_before new_between new_after it first second (inl (is, kind, fails)) =
    inl (is, kind, later-not-moved before between after Reads kind first fails)
later-copy-fails before between after new_before new_between new_after it first second (inr (inl (is, kind, fails))) =
    inr (inl (is, kind, later-fails-last new_before new_between new_after Syncs kind second fails))
later-copy-fails before between after new_before new_between new_after it first second (inr (inr fails)) =
    inr (inr (later-write-fails new_before new_between new_after it second fails))

-- a copy that is not synced
pub not-synced : {T E : Type 0} (before between after : Option (List FailedCall)) (kind : E → ErrorKind)
    (answer : Result T E) → OnlyInterrupted before between → IsErr answer
    → NotesFailure {T = T} {E = E} between after Syncs kind answer
    → (k : ErrorKind) × FailsLast before after Syncs k
not-synced before between after kind (Ok value) first is noted = absurd (false≢true is)
not-synced {T} {E} before between after kind (Err error) first is noted = (
  kind error,
  fails-last before between after Syncs (kind error) first
      (one-failed T between after Syncs kind error noted),
)

-- a file that becomes no disk is let go
pub extend-refused : {F T : Type 0} (failures : F → Option (List FailedCall)) (file left : F) (fails handed : FileFault)
    (result : Result T FileFault)
    → result ≡ Err handed → handed ≡ fails → ExtendFails (failures file) (failures left) fails
    → IfErr result (λ fails. (left : F) × ExtendFails (failures file) (failures left) fails)
extend-refused {F} {T} failures file left fails handed result is same why =
    subst (λ (r : Result T FileFault).
    IfErr r (λ fails. (left : F) × ExtendFails (failures file) (failures left) fails)) (sym is)
    (left, subst (λ (f : FileFault). ExtendFails (failures file) (failures left) f) (sym same) why)
