use Rattle.std.proofs.Common.{List, ◌∙◌, ℕ, ap, arith}
use Rattle.std.specs.Prelude.{flat_map}
use Rattle.macs_config.specs.Value.{config_of}
use Rattle.macs_store.specs.Snapshot.{rx_records, rx_records_of, walk_past_all}
use Rattle.macs_store.specs.Table.{table_ceilings}
use Rattle.macs_store.proofs.Passing.{past-all, past-more}
use Rattle.macs_store.proofs.snapshot.pass_rx.Goals as goal

pub loop-sci-preserved : goal.loop-sci-preserved
loop-sci-preserved c =
    let few = c.loop-sci.invariant.few in
    let more = c.pass_rx_of.ensures.few in
    record {
      walked = past-more (rx_records_of (config_of c.args.config.now) (table_ceilings c.args.ceilings.now))
          c.args.scis.now c.args.walk.now
          c.loop-sci.sci-index c.sci-item.result c.sci-item.result c.loop-sci.walk c.pass_rx_of.new.walk
          c.loop-sci-test.true c.sci-item.is
          c.loop-sci.invariant.walked c.pass_rx_of.ensures.walked;
      few = omega (arith, few, more);
    }

pub returns-clause-walked : goal.returns-clause-walked
unfolding rx_records
returns-clause-walked c =
    past-all (rx_records_of (config_of c.args.config.now) (table_ceilings c.args.ceilings.now)) c.args.scis.now
    c.args.walk.now
    c.loop-sci.sci-index c.loop-sci.walk c.loop-sci-test.false c.loop-sci.invariant.walked
    ∙ ap (λ (scis : List (List ℕ)). walk_past_all c.args.walk.now
    (flat_map (rx_records_of (config_of c.args.config.now) (table_ceilings c.args.ceilings.now)) scis))
    c.requires.channels
