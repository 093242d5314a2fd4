use Rattle.std.proofs.Common.{rules}
use Rattle.macs_cli.specs.Failing.{failure_text}
use Rattle.macs_program.proofs.Complaining.{three-printed}
use Rattle.macs_program.proofs.run.complain.Goals as goal

pub returns-clause-printed : goal.returns-clause-printed
returns-clause-printed g c =
    three-printed _ _ _ _ _ c.as_bytes.result.now (failure_text c.args.failure.now) _ c.print-3.result (search rules)
    c.in_ok-print.ensures.printed c.in_ok-print-2.ensures.printed
    c.print-3.ensures.printed
