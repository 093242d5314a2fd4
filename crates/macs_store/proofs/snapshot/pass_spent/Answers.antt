use Rattle.std.proofs.Common.{arith}
use Rattle.std.specs.List.{range_with_len}
use Rattle.macs_config.specs.Config.{spent_of}
use Rattle.macs_config.specs.Value.{config_of}
use Rattle.macs_store.specs.Snapshot.{spent_records, spent_records_at}
use Rattle.macs_store.proofs.Making.{number-at}
use Rattle.macs_store.proofs.Passing.{past-all, past-more}
use Rattle.macs_store.proofs.snapshot.pass_spent.Goals as goal

pub loop-place-preserved : goal.loop-place-preserved
loop-place-preserved c =
    let place = c.loop-place.place in
    let few = c.loop-place.invariant.few in
    let more = c.pass_spent_at.ensures.few in
    record {
      walked = past-more (spent_records_at c.args.role (spent_of c.args.role (config_of c.args.config.now)))
          (range_with_len 0 35)
          c.args.walk.now place place place c.loop-place.walk c.pass_spent_at.new.walk c.loop-place-test.true
          (number-at 35 place place c.loop-place-test.true) c.loop-place.invariant.walked
          c.pass_spent_at.ensures.walked;
      few = omega (arith, few, more);
    }

pub returns-clause-walked : goal.returns-clause-walked
unfolding spent_records
returns-clause-walked c =
    past-all (spent_records_at c.args.role (spent_of c.args.role (config_of c.args.config.now))) (range_with_len 0 35)
    c.args.walk.now c.loop-place.place c.loop-place.walk c.loop-place-test.false c.loop-place.invariant.walked
