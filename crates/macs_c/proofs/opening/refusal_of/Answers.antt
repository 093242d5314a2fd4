use Rattle.std.proofs.Common.{subst}
use Rattle.macs_c.specs.Refusals.{IsFault}
use Rattle.macs_c.proofs.opening.refusal_of.Goals as goal

pub returns-in-NotValid : goal.returns-in-NotValid
returns-in-NotValid c =
    λ frame key sci offset room why. subst (λ fault. IsFault frame key sci offset fault) c.in-NotValid.is why
