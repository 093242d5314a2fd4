use Rattle.std.proofs.lemmas.Result.{err_from_is_err_and}
use Rattle.macs_cli.specs.OpenInput.{InputFaultHolds, input_faults}
use Rattle.macs_cli.proofs.FirstFault.{handed_on}
use Rattle.macs_offline.proofs.opened.answer_of.Goals as goal

pub returns-in_err-request-clause-fault : goal.returns-in_err-request-clause-fault
returns-in_err-request-clause-fault c =
    let p = err_from_is_err_and c.from_residual.result c.from_residual.ensures.1 in
    handed_on (InputFaultHolds c.args.input.now) input_faults c.request_of.result c.from_residual.result _
    c.in_err-request.was (rw p.2 at p.1) c.request_of.ensures.fault
