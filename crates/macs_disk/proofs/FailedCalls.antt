-- Calls of a file that failed, one after another.
use Rattle.std.proofs.Common.{◌≡◌, inl, inr, List, Option, Some, None, Ok, Err, refl, subst}
use Rattle.std.proofs.lemmas.Bool.{false≢true}
use Rattle.std.specs.declared.io.ErrorKind.{ErrorKind}
use Rattle.macs_disk.specs.FileFailures.{Claims, FailedCall, FileCall, IsFaultOfKind, MeasureFails, Measures}
use Rattle.macs_disk.specs.FileFailures.{NoneFailed, OneFailed, NotesFailure}
use Rattle.macs_disk.specs.declared.file_fault.FileFault.{FileFault}

pub one-failed : (T : Type 0) {E : Type 0} (before after : Option (List FailedCall)) (call : FileCall) (kind : E
    → ErrorKind) (error : E)
    → NotesFailure {T = T} {E = E} before after call kind (Err error) → OneFailed before after call (kind error)
one-failed T None after call kind error noted = tt
one-failed T (Some before) after call kind error noted = noted

pub none-failed : {T E : Type 0} (before after : Option (List FailedCall)) (call : FileCall) (kind : E
    → ErrorKind) (value : T)
    → NotesFailure {T = T} {E = E} before after call kind (Ok value) → NoneFailed before after
none-failed None after call kind value noted = tt
none-failed (Some before) after call kind value noted = noted

-- after calls that did not fail
pub none-after : (before between after : Option (List FailedCall)) → NoneFailed before between
    → NoneFailed between after → NoneFailed before after
none-after None between after first second = tt
none-after (Some before) between after first second =
    subst (λ (b : Option (List FailedCall)). NoneFailed b after) first second

pub one-after : (before between after : Option (List FailedCall)) (call : FileCall) (kind : ErrorKind)
    → NoneFailed before between
    → OneFailed between after call kind
    → OneFailed before after call kind
one-after None between after call kind first second = tt
one-after (Some before) between after call kind first second =
    subst (λ (b : Option (List FailedCall)). OneFailed b after call kind) first second

-- a claim or a measuring that fails
pub not-claimed : (before after : Option (List FailedCall)) (kind : ErrorKind) (fault : FileFault)
    → OneFailed before after Claims kind
    → IsFaultOfKind kind fault
    → MeasureFails before after fault
not-claimed before after kind fault failed is = inr (Claims, kind, inl refl, failed, is)

pub not-measured : (before after : Option (List FailedCall)) (kind : ErrorKind) (fault : FileFault)
    → OneFailed before after Measures kind
    → IsFaultOfKind kind fault
    → MeasureFails before after fault
not-measured before after kind fault failed is = inr (Measures, kind, inr refl, failed, is)

-- after a claim that did not fail
pub measured-later : (before between after : Option (List FailedCall)) (fault : FileFault) → NoneFailed before between
    → MeasureFails between after fault
    → MeasureFails before after fault
measured-later before between after fault first (inl (is, none)) =
    inl (is, none-after before between after first none)
measured-later before between after fault first (inr (call, kind, which, failed, is)) =
    inr (call, kind, which, one-after before between after call kind first failed, is)
