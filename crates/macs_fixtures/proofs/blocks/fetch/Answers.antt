use Rattle.std.proofs.Common.{arith}
use Rattle.macs_fixtures.proofs.BlockFlags.{fetched-all}
use Rattle.macs_fixtures.proofs.blocks.fetch.Goals as goal

pub returns-clause-fetched : goal.returns-clause-fetched
returns-clause-fetched c =
    let kept = c.loop-i.invariant in
    fetched-all c.args.from.now c.loop-i.into c.args.at c.args.count (omega (arith, kept.same_length, c.requires.room))
    (λ k lt. kept.fetched k (omega (arith, lt, c.loop-i-test.false)))
