use Rattle.std.proofs.Common.{ℕ, List, ap, arith, get_or}
use Rattle.macs_config.specs.Snapshot.{every_an}
use Rattle.macs_config.specs.Value.{config_of}
use Rattle.macs_store.specs.Snapshot.{tx_records, tx_records_at}
use Rattle.macs_store.specs.Table.{table_ceilings}
use Rattle.macs_store.proofs.Passing.{past-all, past-more}
use Rattle.macs_store.proofs.snapshot.pass_tx.Goals as goal

pub loop-an-preserved : goal.loop-an-preserved
loop-an-preserved c =
    let few = c.loop-an.invariant.few in
    let more = c.pass_tx_at.ensures.few in
    let an : ℕ = get_or c.all-an-items.result c.loop-an.an-index c.an-item.result in
    record {
      walked = past-more (tx_records_at (config_of c.args.config.now) (table_ceilings c.args.ceilings.now)) every_an
          c.args.walk.now
          c.loop-an.an-index an c.an-item.result c.loop-an.walk c.pass_tx_at.new.walk c.loop-an-test.true
          (ap (λ (ns : List ℕ). get_or ns c.loop-an.an-index c.an-item.result) c.all-an-items.ensures)
          c.loop-an.invariant.walked
          c.pass_tx_at.ensures.walked;
      few = omega (arith, few, more);
    }

pub returns-clause-walked : goal.returns-clause-walked
unfolding tx_records
returns-clause-walked c =
    past-all (tx_records_at (config_of c.args.config.now) (table_ceilings c.args.ceilings.now)) every_an c.args.walk.now
    c.loop-an.an-index c.loop-an.walk c.loop-an-test.false c.loop-an.invariant.walked
