use Rattle.std.proofs.Common.{ap, take}
use Rattle.std.proofs.lemmas.Result.{err_from_is_err_and}
use Rattle.macs_offline.proofs.Applied.{one-applied, some-applied}
use Rattle.macs_offline.proofs.NoneWaits.{applied-none}
use Rattle.macs_offline.proofs.applying.apply_commands.Goals as goal

pub apply_command-requires : goal.apply_command-requires
apply_command-requires g c =
    applied-none g.D.SectorDisk.disk c.args.endpoint.now c.loop-i.endpoint (take c.loop-i.i c.args.commands.now)
    c.loop-i.invariant.outcomes c.requires c.loop-i.invariant.applied

pub loop-i-preserved : goal.loop-i-preserved
loop-i-preserved g c =
    let (outcome, is, call, printed) = c.in_ok-is_refused.ensures.applied in
    one-applied g.D.SectorDisk.disk c.args.endpoint.now c.loop-i.endpoint c.apply_command.new.endpoint
    c.args.commands.now c.loop-i.i _ c.index-commands-i.result
    (g.W.Stream.contents c.args.out.now) (g.W.Stream.contents c.loop-i.out)
    (g.W.Stream.contents c.apply_command.new.out) c.loop-i.status
    c.status_after-status.result c.in_ok-is_refused.is_refused outcome c.loop-i-test.true c.index-commands-i.is
    c.status_after-status.ensures
    c.loop-i.invariant is call printed

pub returns-in_err-is_refused-clause-ended : goal.returns-in_err-is_refused-clause-ended
returns-in_err-is_refused-clause-ended g c =
    let p = err_from_is_err_and c.from_residual.result c.from_residual.ensures.1 in
    rw (p.1, p.2) (some-applied g.D.SectorDisk.disk c.args.endpoint.now c.loop-i.endpoint c.apply_command.new.endpoint
    c.args.commands.now c.loop-i.i _
    c.index-commands-i.result (g.W.Stream.contents c.args.out.now) (g.W.Stream.contents c.loop-i.out)
    (g.W.Stream.contents c.apply_command.new.out)
    c.loop-i.status c.in_err-is_refused.field-0.0 c.loop-i-test.true c.index-commands-i.is c.loop-i.invariant
    c.in_err-is_refused.ensures.ended
    (λ other. ap g.W.Stream.contents (c.in_err-is_refused.ensures.silent other)))
