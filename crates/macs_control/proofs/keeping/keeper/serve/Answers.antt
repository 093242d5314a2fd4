use Rattle.std.proofs.Common.{[], arith, refl}
use Rattle.macs_control.specs.Links.{line_of}
use Rattle.macs_control.specs.declared.keeping.keeper.KeepEnd.TheVariants.{Gone}
use Rattle.macs_control.proofs.Carried.{takes-none}
use Rattle.macs_control.proofs.KeeperWork.{makes-more, makes-none, serves}
use Rattle.macs_control.proofs.keeping.keeper.serve.Goals as goal

pub loop-request-init : goal.loop-request-init
loop-request-init g c = record {
  makes = makes-none (g.D.SectorDisk.disk c.args.disk.now) (g.C.Connection.link c.args.client.now);
  steady = λ is. is;
}

pub returns-in-Err : goal.returns-in-Err
returns-in-Err g c =
    let (served, count, each) = c.loop-request.invariant.makes in
    serves _ (line_of g.C.Connection.link g.C.Connection.steady c.args.client.now) _ _ c.in-Err.end _ _ served each
    c.in-Err.ensures.end (λ is gone. absurd (c.in-Err.ensures.steady (c.loop-request.invariant.steady is) gone))

pub loop-request-preserved : goal.loop-request-preserved
loop-request-preserved g c =
    let (served, count, each) = c.loop-request.invariant.makes in
    let (more, longer, all) = makes-more _ _ _ _ _ _ served each c.in-Ok.ensures.served in
    record {
      makes = (more, (omega (arith, longer, count)), all);
      steady = λ is. c.in-Ok.ensures.still (c.loop-request.invariant.steady is);
    }

pub returns : goal.returns
returns g c =
    let (served, count, each) = c.loop-request.invariant.makes in
    let past = c.loop-request-test.false in
    serves _ (line_of g.C.Connection.link g.C.Connection.steady c.args.client.now) _ _ Gone _ _ served each
    (refl, ([], takes-none (g.C.Connection.link c.loop-request.client))) (λ is gone. omega (arith, count, past))
