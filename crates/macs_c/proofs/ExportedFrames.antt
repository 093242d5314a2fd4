-- Frames, commands and readers where an endpoint may be open: as the answer to a C program says it.
use Rattle.std.proofs.Common.{◌≡◌, ◌∙◌, ℕ, Bool, false, List, Option, Some, None, is_some, refl, sym, ap, subst}
use Rattle.macs_c.specs.Frames.{Buffer, ProtectAnswer, ReceiveAnswer, SubmitAnswer}
use Rattle.macs_c.specs.Lent.{with_slot}
use Rattle.macs_c.specs.Shown.{CountersAnswer, RxAnswer, TxAnswer, counts_of}
use Rattle.macs_c.specs.declared.answers.Answer.TheVariants as code
use Rattle.macs_c.specs.declared.commands.MacsCommand.{MacsCommand}
use Rattle.macs_c.specs.declared.handle.MacsEndpoint.{MacsEndpoint}
use Rattle.macs_c.specs.declared.readers.MacsCounters.{MacsCounters}
use Rattle.macs_c.specs.declared.readers.MacsRx.{MacsRx}
use Rattle.macs_c.specs.declared.readers.MacsTx.{MacsTx}
use Rattle.macs_c.specs.declared.slot.Slot.{Slot}
use Rattle.macs_c.proofs.Exported.{none-there}

-- ---- none is open

module _ (h h' : MacsEndpoint) (is : Bool) (said : is ≡ is_some h.value) (same : h' ≡ h) (closed : is ≡ false) where
  none : h.value ≡ None
  none = none-there h.value (sym said ∙ closed)

  pub submit-closed : (command : MacsCommand) (ticket : ℕ)
      → SubmitAnswer h.value command ticket code.Closed ticket h'.value
  submit-closed command ticket =
      subst (λ (k : MacsEndpoint). SubmitAnswer h.value command ticket code.Closed ticket k.value) (sym same)
      (subst (λ (o : Option Slot). SubmitAnswer o command ticket code.Closed ticket o) (sym none) (refl, refl, refl))

  pub protect-closed : (plain : List ℕ) (out : Buffer) (pn : ℕ)
      → ProtectAnswer h.value plain out pn code.Closed out pn h'.value
  protect-closed plain out pn =
      subst (λ (k : MacsEndpoint). ProtectAnswer h.value plain out pn code.Closed out pn k.value) (sym same)
      (subst (λ (o : Option Slot). ProtectAnswer o plain out pn code.Closed out pn o) (sym none)
      (refl, refl, (refl, refl), refl))

  pub receive-closed : (frame : List ℕ) (out : Buffer) → ReceiveAnswer h.value frame out code.Closed out h'.value
  receive-closed frame out =
      subst (λ (k : MacsEndpoint). ReceiveAnswer h.value frame out code.Closed out k.value) (sym same)
      (subst (λ (o : Option Slot). ReceiveAnswer o frame out code.Closed out o) (sym none) (refl, refl, (refl, refl)))

  pub tx-closed : (an : ℕ) (tx : MacsTx) → TxAnswer h.value an tx code.Closed tx
  tx-closed an tx = subst (λ (o : Option Slot). TxAnswer o an tx code.Closed tx) (sym none) (refl, refl)

  pub rx-closed : (sci : List ℕ) (an : ℕ) (rx : MacsRx) → RxAnswer h.value sci an rx code.Closed rx
  rx-closed sci an rx = subst (λ (o : Option Slot). RxAnswer o sci an rx code.Closed rx) (sym none) (refl, refl)

  pub counters-closed : (counters : MacsCounters) → CountersAnswer h.value counters code.Closed counters
  counters-closed counters =
      subst (λ (o : Option Slot). CountersAnswer o counters code.Closed counters) (sym none) (refl, refl)

-- ---- one is open

pub counters-there : (v : Option Slot) (slot : Slot) (old new : MacsCounters) → v ≡ Some slot
    → new ≡ counts_of slot.endpoint → CountersAnswer v old code.Success new
counters-there v slot old new is made =
    subst (λ (o : Option Slot). CountersAnswer o old code.Success new) (sym is) (refl, made)

-- one that was lent, and did not change
pub kept-there : (h h' : MacsEndpoint) (slot : Slot) → h' ≡ h → h'.value ≡ Some slot → with_slot h' slot ≡ h
kept-there h h' slot same is = ap (λ (o : Option Slot). record h' { value = o }) (sym is) ∙ same
