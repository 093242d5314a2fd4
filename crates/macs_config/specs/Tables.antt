-- Functions with one value changed.
use Rattle.std.specs.Prelude.{ℕ, ◌==◌, if◌then◌else◌, List}
use Rattle.std.specs.Str.{bytes_eq}

-- f, with x at one number
abbrev pub put : {X : Type 0} → (ℕ → X) → ℕ → X → ℕ → X
put f at x i = if i == at then x else f i

-- f, with x at one SCI
abbrev pub put_at : {X : Type 0} → (List ℕ → X) → List ℕ → X → List ℕ → X
put_at f at x sci = if bytes_eq sci at then x else f sci
