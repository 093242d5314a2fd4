use Rattle.std.proofs.Common.{Result, subst, sym}
use Rattle.std.proofs.lemmas.Result.{IfErr-weaker, IfOk-weaker}
use Rattle.macs_endpoint.specs.Calls.{IsCall}
use Rattle.macs_endpoint.specs.State.{Commands, Ran}
use Rattle.macs_endpoint.specs.declared.fault.CommandFault.{CommandFault}
use Rattle.macs_offline.proofs.NoneWaits.{command-not-busy}
use Rattle.macs_offline.proofs.applying.give.Goals as goal

pub outcome_of-requires : goal.outcome_of-requires
outcome_of-requires g c =
    command-not-busy g.D.SectorDisk.disk c.args.endpoint.now c.command.new.self c.args.command c.in-Err.fault c.requires
    c.in-Err.ensures.call

pub returns-in-Err-clause-settled : goal.returns-in-Err-clause-settled
returns-in-Err-clause-settled g c =
    IfOk-weaker c.outcome_of.result _ _
    (λ outcome is. subst (λ (told : Result (Unit {0}) CommandFault).
    IsCall g.D.SectorDisk.disk c.args.endpoint.now (Commands c.args.command) (Ran told) c.command.new.self)
    (sym is) c.in-Err.ensures.call) c.outcome_of.ensures.refused

pub returns-in-Err-clause-failed : goal.returns-in-Err-clause-failed
returns-in-Err-clause-failed g c =
    IfErr-weaker c.outcome_of.result _ _ (λ ends is. (c.in-Err.fault, is, c.in-Err.ensures.call))
    c.outcome_of.ensures.failed
