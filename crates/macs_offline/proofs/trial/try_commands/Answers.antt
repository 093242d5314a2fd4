use Rattle.std.proofs.Common.{◌+◌, List, Option, subst, sym, take}
use Rattle.std.proofs.lemmas.Result.{err_from_is_err_and}
use Rattle.macs_config.specs.declared.refusal.Refusal.{Refusal}
use Rattle.macs_offline.specs.Applying.{Applies}
use Rattle.macs_offline.proofs.NoneWaits.{applied-none}
use Rattle.macs_offline.proofs.Tried.{one-tried, stopped-at}
use Rattle.macs_offline.proofs.trial.try_commands.Goals as goal

pub try_command-requires : goal.try_command-requires
try_command-requires g c =
    applied-none g.D.SectorDisk.disk c.args.endpoint.now c.loop-i.endpoint (take c.loop-i.i c.args.commands.now)
    c.loop-i.outcomes.items c.requires c.loop-i.invariant

pub returns-in_err-outcome-clause-ended : goal.returns-in_err-outcome-clause-ended
returns-in_err-outcome-clause-ended g c =
    let p = err_from_is_err_and c.from_residual.result c.from_residual.ensures.1 in
    rw (p.1, p.2) (stopped-at g.D.SectorDisk.disk c.args.endpoint.now c.loop-i.endpoint c.args.commands.now c.loop-i.i
    _ c.index-commands-i.result
    c.loop-i.outcomes.items c.in_err-outcome.field-0.0 c.loop-i-test.true c.index-commands-i.is c.loop-i.invariant
    c.in_err-outcome.ensures.ended)

pub loop-i-preserved : goal.loop-i-preserved
loop-i-preserved g c =
    subst (λ (os : List (Option Refusal)). Applies g.D.SectorDisk.disk c.args.endpoint.now
    (take (c.loop-i.i + 1) c.args.commands.now) os c.try_command.new.endpoint)
    (sym c.in-Ok.ensures.items) (one-tried g.D.SectorDisk.disk c.args.endpoint.now c.loop-i.endpoint
    c.try_command.new.endpoint c.args.commands.now c.loop-i.i _
    c.index-commands-i.result c.loop-i.outcomes.items c.in_ok-outcome.outcome c.loop-i-test.true c.index-commands-i.is
    c.loop-i.invariant c.in_ok-outcome.ensures.tried)
