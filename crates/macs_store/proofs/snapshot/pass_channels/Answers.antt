use Rattle.std.proofs.Common.{arith}
use Rattle.macs_store.proofs.Passing.{past-channel, past-channels}
use Rattle.macs_store.proofs.snapshot.pass_channels.Goals as goal

pub loop-sci-preserved : goal.loop-sci-preserved
loop-sci-preserved c =
    let few = c.loop-sci.invariant.few in
    let one = c.pass.ensures.one in
    record {
      walked = past-channel c.args.scis.now c.args.walk.now c.loop-sci.sci-index c.sci-item.result c.loop-sci.walk
          c.pass.new.self
          c.loop-sci-test.true c.sci-item.is c.loop-sci.invariant.walked c.pass.ensures.walked;
      few = omega (arith, few, one);
    }

pub returns-clause-walked : goal.returns-clause-walked
returns-clause-walked c =
    past-channels c.args.scis.now c.args.walk.now c.loop-sci.sci-index c.loop-sci.walk c.loop-sci-test.false
    c.loop-sci.invariant.walked
