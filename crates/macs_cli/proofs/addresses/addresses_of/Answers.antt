use Rattle.std.proofs.lemmas.Result.{err_from_is_err_and}
use Rattle.macs_cli.proofs.SpelledWires.{first-refused, none-refused, second-refused}
use Rattle.macs_cli.proofs.addresses.addresses_of.Goals as goal

pub returns-in_err-first-clause-fault : goal.returns-in_err-first-clause-fault
returns-in_err-first-clause-fault c =
    let p = err_from_is_err_and c.from_residual.result c.from_residual.ensures.1 in
    first-refused c.args.controlled c.args.common _ p.0 _ p.1 p.2 c.in_err-first.ensures.fault

pub returns-in_err-second-clause-fault : goal.returns-in_err-second-clause-fault
returns-in_err-second-clause-fault c =
    let p = err_from_is_err_and c.from_residual-in_err-second.result c.from_residual-in_err-second.ensures.1 in
    second-refused c.args.controlled c.args.common c.in_ok-first.first _ p.0 _ c.in_ok-first.ensures.spelled p.1 p.2
    c.in_err-second.ensures.fault

pub returns-clause-fault : goal.returns-clause-fault
returns-clause-fault c =
    none-refused c.args.controlled c.args.common c.in_ok-first.first c.in_ok-second.second _
    c.in_ok-first.ensures.spelled c.in_ok-second.ensures.spelled
