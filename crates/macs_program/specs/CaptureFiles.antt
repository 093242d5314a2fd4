-- Which captures a run asks for, and in which order.
use Rattle.std.specs.Prelude.{◌≡◌, ◌⊎◌, ◌++◌, ⊤, ℕ, Bool, true, false, List, [], ◌∷◌, Option, Some, None, Result, OnErr}
use Rattle.std.specs.Prelude.{OnOk}
use Rattle.macs_cli.specs.declared.failure.Failure.{Failure}
use Rattle.macs_cli.specs.declared.status.Status.{Status}

-- the capture with this name is opened for reading, or created for writing; and whether that succeeds
pub data Asked : Type 0 where
  Opens : List ℕ → Bool → Asked
  Makes : List ℕ → Bool → Asked

-- if the requests so far are known, these are added now, and nothing else
abbrev pub Asks : Option (List Asked) → Option (List Asked) → List Asked → Type 0
Asks None after more = ⊤
Asks (Some before) after more = after ≡ Some (before ++ more)

-- INPUT is opened, then OUTPUT is created, and nothing else; a failing run stops on the way: OUTPUT is not created
-- unless INPUT is opened
pub record AsksInOrder (from to : List ℕ) (before after : Option (List Asked))
    (result : Result Status Failure) : Type 0 where
  pub order : OnOk result (Asks before after (Opens from true ∷ Makes to true ∷ []))
  pub front : OnErr result (Asks before after (Opens from false ∷ [])
      ⊎ Asks before after (Opens from true ∷ Makes to false ∷ [])
      ⊎ Asks before after (Opens from true ∷ Makes to true ∷ []))
