use Rattle.std.proofs.Common.{ℕ, List, ap, arith, get_or}
use Rattle.macs_config.specs.Snapshot.{every_an}
use Rattle.macs_config.specs.Value.{config_of}
use Rattle.macs_store.specs.Snapshot.{rx_records_at, rx_records_of}
use Rattle.macs_store.specs.Table.{table_ceilings}
use Rattle.macs_store.proofs.Passing.{past-all, past-more}
use Rattle.macs_store.proofs.snapshot.pass_rx_of.Goals as goal

pub loop-an-preserved : goal.loop-an-preserved
loop-an-preserved c =
    let few = c.loop-an.invariant.few in
    let more = c.pass_rx_at.ensures.few in
    let an : ℕ = get_or c.all-an-items.result c.loop-an.an-index c.an-item.result in
    record {
      walked = past-more (rx_records_at (config_of c.args.config.now) (table_ceilings c.args.ceilings.now) c.args.sci)
          every_an c.args.walk.now
          c.loop-an.an-index an c.an-item.result c.loop-an.walk c.pass_rx_at.new.walk c.loop-an-test.true
          (ap (λ (ns : List ℕ). get_or ns c.loop-an.an-index c.an-item.result) c.all-an-items.ensures)
          c.loop-an.invariant.walked
          c.pass_rx_at.ensures.walked;
      few = omega (arith, few, more);
    }

pub returns-clause-walked : goal.returns-clause-walked
unfolding rx_records_of
returns-clause-walked c =
    past-all (rx_records_at (config_of c.args.config.now) (table_ceilings c.args.ceilings.now) c.args.sci) every_an
    c.args.walk.now
    c.loop-an.an-index c.loop-an.walk c.loop-an-test.false c.loop-an.invariant.walked
