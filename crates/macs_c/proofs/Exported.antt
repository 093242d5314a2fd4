-- The calls of an endpoint where one may be open: what was done there, as the answer to a C program says it.
use Rattle.std.proofs.Common.{◌≡◌, ◌∙◌, ℕ, Bool, true, false, List, Option, Some, None, is_some, refl, sym, ap, subst}
use Rattle.macs_c.specs.ReportedDisks.{Moment}
use Rattle.macs_journal.specs.declared.fault.JournalFault.{JournalFault}
use Rattle.macs_c.specs.Answers.{open_answer}
use Rattle.macs_c.specs.Calls.{DidAnswer, DidFrom, E, IsOpened, IsRefusedFor, MayReport, MayReportThere, NextAnswer}
use Rattle.macs_c.specs.Calls.{NextFrom, OpenAnswer}
use Rattle.macs_c.specs.declared.answers.Answer.{Answer}
use Rattle.macs_c.specs.declared.answers.Answer.TheVariants as code
use Rattle.macs_c.specs.declared.device_calls.MacsCall.{MacsCall}
use Rattle.macs_c.specs.declared.device_calls.MacsDone.{MacsDone}
use Rattle.macs_c.specs.declared.handle.MacsEndpoint.{MacsEndpoint}
use Rattle.macs_c.specs.declared.slot.Slot.{Slot}

-- ---- whether an endpoint is open

pub none-there : (v : Option Slot) → is_some v ≡ false → v ≡ None
none-there None is = refl
none-there (Some slot) is = absurd cc

-- the endpoint that is lent was there
pub lent-there : (h h' : MacsEndpoint) (slot : Slot) → h' ≡ h → h'.value ≡ Some slot → h.value ≡ Some slot
lent-there h h' slot same is = sym (ap (λ (k : MacsEndpoint). k.value) same) ∙ is

-- ---- opening

was-open : (honest : Bool) (sectors : List (List ℕ)) (v : Option Slot) → is_some v ≡ true
    → OpenAnswer honest sectors v code.Open v
was-open honest sectors (Some old) is = (refl, refl)
was-open honest sectors None is = absurd cc

pub open-already : (honest : Bool) (sectors : List (List ℕ)) (h h' : MacsEndpoint) (is : Bool) → is ≡ is_some h.value
    → h' ≡ h → is ≡ true → OpenAnswer honest sectors h.value code.Open h'.value
open-already honest sectors h h' is said same open' =
    subst (λ (k : MacsEndpoint). OpenAnswer honest sectors h.value code.Open k.value) (sym same)
    (was-open honest sectors h.value (sym said ∙ open'))

pub opens-there : (honest : Bool) (sectors : List (List ℕ)) (v v' : Option Slot) (e : E) → v ≡ None
    → v' ≡ Some (record { endpoint = e }) → IsOpened honest sectors e → OpenAnswer honest sectors v code.Success v'
opens-there honest sectors v v' e was is opened =
    subst (λ (o : Option Slot). OpenAnswer honest sectors o code.Success v') (sym was)
    (subst (λ (o : Option Slot). OpenAnswer honest sectors None code.Success o) (sym is) (refl, opened))

pub refused-there : (honest : Bool) (sectors : List (List ℕ)) (v v' : Option Slot) (answer : Answer)
    (fault : JournalFault) → v ≡ None → v' ≡ v → answer ≡ open_answer fault → IsRefusedFor sectors fault
    → OpenAnswer honest sectors v answer v'
refused-there honest sectors v v' answer fault was same says refused =
    subst (λ (o : Option Slot). OpenAnswer honest sectors v answer o) (sym same)
    (subst (λ (o : Option Slot). OpenAnswer honest sectors o answer o) (sym was) (fault, says, refused))

-- ---- device calls

pub next-closed : (h h' : MacsEndpoint) (is : Bool) (call : MacsCall) (done : MacsDone) → is ≡ is_some h.value → h' ≡ h
    → is ≡ false → NextAnswer h.value call done code.Closed call done h'.value
next-closed h h' is call done said same closed =
    let none : h.value ≡ None = none-there h.value (sym said ∙ closed) in
    subst (λ (k : MacsEndpoint). NextAnswer h.value call done code.Closed call done k.value) (sym same)
    (subst (λ (o : Option Slot). NextAnswer o call done code.Closed call done o) (sym none) (refl, refl, refl, refl))

pub next-there : (v : Option Slot) (slot : Slot) (call call' : MacsCall) (done done' : MacsDone) (answer : Answer)
    (new : E) → v ≡ Some slot → NextFrom slot.endpoint call done answer call' done' new
    → NextAnswer v call done answer call' done' (Some (record { endpoint = new }))
next-there v slot call call' done done' answer new is made =
    subst (λ (o : Option Slot). NextAnswer o call done answer call' done' (Some (record { endpoint = new }))) (sym is)
    made

module _ (next : Moment) (read : List ℕ) (ok : ℕ) where
  pub may-report-there : (v : Option Slot) (slot : Slot) → v ≡ Some slot → MayReportThere v next read ok
      → MayReport slot.endpoint next read ok
  may-report-there v slot is may = subst (λ (o : Option Slot). MayReportThere o next read ok) is may

  pub did-closed : (h h' : MacsEndpoint) (is : Bool) (done : MacsDone) → is ≡ is_some h.value → h' ≡ h
      → is ≡ false → DidAnswer h.value next read ok done code.Closed done h'.value
  did-closed h h' is done said same closed =
      let none : h.value ≡ None = none-there h.value (sym said ∙ closed) in
      subst (λ (k : MacsEndpoint). DidAnswer h.value next read ok done code.Closed done k.value) (sym same)
      (subst (λ (o : Option Slot). DidAnswer o next read ok done code.Closed done o) (sym none) (refl, refl, refl))

  pub did-there : (v : Option Slot) (slot : Slot) (done done' : MacsDone) (answer : Answer) (new : E) → v ≡ Some slot
      → DidFrom slot.endpoint next read ok done answer done' new
      → DidAnswer v next read ok done answer done' (Some (record { endpoint = new }))
  did-there v slot done done' answer new is made =
      subst (λ (o : Option Slot). DidAnswer o next read ok done answer done' (Some (record { endpoint = new })))
      (sym is) made
