use Rattle.macs_program.proofs.Complaining.{printed-or-failed}
use Rattle.macs_program.proofs.run.report.Goals as goal

pub returns-clause-printed : goal.returns-clause-printed
returns-clause-printed g c =
    printed-or-failed _ _ _ _ c.complain.result c.complain.ensures.printed c.complain.ensures.broken
