use Rattle.std.proofs.Common.{List, subst, ℕ}
use Rattle.std.specs.Str.{IsUtf8}
use Rattle.macs_control.proofs.Asked.{no-text}
use Rattle.macs_control.proofs.asking.status_in.Goals as goal

pub returns-in_default-clause-read : goal.returns-in_default-clause-read
returns-in_default-clause-read c =
    no-text c.args.line.now.items
    (subst (λ (l : List ℕ). IsUtf8 l → ⊥) c.as_slice.ensures.value c.in_default.ensures.cases.0)
