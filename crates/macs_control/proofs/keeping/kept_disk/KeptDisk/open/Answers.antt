use Rattle.std.proofs.Common.{◌∙◌, ℕ, List, refl, subst, sym}
use Rattle.macs_control.specs.Keepers.{Takes}
use Rattle.macs_control.proofs.KeptCalls.{greeting-cut, greeting-malformed}
use Rattle.macs_control.proofs.keeping.kept_disk.KeptDisk.open.Goals as goal

pub returns-clause-some : goal.returns-clause-some
returns-clause-some g c =
    let link = g.C.Connection.link in (
      link c.take_whole.new.from,
      subst (λ (o : List ℕ). Takes (link c.args.keeper) o (link c.take_whole.new.from))
          (sym c.as_slice.ensures.value ∙ c.in_ok-greeting.ensures.some) c.in-Ok.ensures.whole.1,
      refl,
    )

pub returns-in_default-clause-none : goal.returns-in_default-clause-none
returns-in_default-clause-none g c =
    greeting-cut c.in_default.field-0 _ _ _ c.in_default.ensures.cut c.in_default.ensures.steady

pub returns-in_err-greeting-clause-none : goal.returns-in_err-greeting-clause-none
returns-in_err-greeting-clause-none g c =
    rw c.from_residual.ensures
    (greeting-malformed (λ (n : ℕ). record { sectors = n }) _ _ _ c.in-Ok.octets.items _ c.in-Ok.ensures.whole.0
    c.in-Ok.ensures.whole.1 c.as_slice.ensures.value c.in_err-greeting.ensures.found)
