use Rattle.std.proofs.Common.{arith, inl, inr, subst}
use Rattle.std.proofs.lemmas.Result.{IfErr-weaker}
use Rattle.macs_offline.specs.Checking.{IsSaidOfFile, IsSaidOfText}
use Rattle.macs_offline.proofs.Checked.{complains-weaker}
use Rattle.macs_offline.proofs.command_file.commands_said.Goals as goal

pub returns-then-octets-gt-MAX_FILE-clause-fault : goal.returns-then-octets-gt-MAX_FILE-clause-fault
returns-then-octets-gt-MAX_FILE-clause-fault c =
    complains-weaker _ (IsSaidOfFile c.args.octets.now) c.failure_saying.result
    (λ said is. inl (omega (arith, c.if-octets-gt-MAX_FILE.true), is))
    (c.failure_saying.ensures _ c.from_str-text.ensures.ok)

pub returns-in_default-clause-fault : goal.returns-in_default-clause-fault
returns-in_default-clause-fault c =
    complains-weaker _ (IsSaidOfFile c.args.octets.now) c.failure_saying-in_default.result
    (λ said is. inr (inl (omega (arith, c.if-octets-gt-MAX_FILE.false), c.in_default.ensures.cases.0, is)))
    (c.failure_saying-in_default.ensures _ c.from_str-text-in_default.ensures.ok)

pub returns-clause-fault : goal.returns-clause-fault
returns-clause-fault c =
    IfErr-weaker c.commands_in_text.result _ _
    (λ failure complains. complains-weaker (IsSaidOfText c.in-Ok.text.now) (IsSaidOfFile c.args.octets.now) failure
    (λ said is. inr (inr (
      omega (arith, c.if-octets-gt-MAX_FILE.false),
      c.in-Ok.ensures.cases.1,
      subst (λ text. IsSaidOfText text said) c.in-Ok.ensures.cases.0 is,
    ))) complains) c.commands_in_text.ensures.fault
