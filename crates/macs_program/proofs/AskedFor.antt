-- Captures that are asked for, one after another.
use Rattle.std.proofs.Common.{◌≡◌, ◌⊎◌, ◌∙◌, ℕ, true, false, List, [], ◌∷◌, ap, append_assoc, subst, sym, Option, Some}
use Rattle.std.proofs.Common.{None, Result, Ok, Err, inl, inr}
use Rattle.macs_program.specs.CaptureFiles.{Asked, Asks, AsksInOrder, Makes, Opens}
use Rattle.macs_cli.specs.declared.failure.Failure.{Failure}
use Rattle.macs_cli.specs.declared.status.Status.{Status}

-- one, and then another one
pub asked-both : (before between after : Option (List Asked)) (first second : Asked) → Asks before between (first ∷ [])
    → Asks between after (second ∷ [])
    → Asks before after (first ∷ second ∷ [])
asked-both None between after first second one two = tt
asked-both (Some before) between after first second one two =
    subst (λ (b : Option (List Asked)). Asks b after (second ∷ [])) one two
    ∙ ap Some (append_assoc before (first ∷ []) (second ∷ []))

module _ (from to : List ℕ) (before after : Option (List Asked)) where
  pub not-both : (failure : Failure) (result : Result Status Failure) → result ≡ Err failure
      → Asks before after (Opens from false ∷ []) ⊎ Asks before after (Opens from true ∷ Makes to false ∷ [])
      → AsksInOrder from to before after result
  not-both failure result is asked =
      subst (λ (r : Result Status Failure). AsksInOrder from to before after r) (sym is) (record {
        order = tt;
        front = elim asked [
          | inl none ↦ inl none
          | inr one ↦ inr (inl one)
        ];
      })

  pub both : (result : Result Status Failure) → Asks before after (Opens from true ∷ Makes to true ∷ [])
      → AsksInOrder from to before after result
  both (Ok status) asked = record { order = asked; front = tt }
  both (Err failure) asked = record { order = tt; front = inr (inr asked) }
