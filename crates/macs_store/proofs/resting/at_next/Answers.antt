use Rattle.std.proofs.Common.{◌∙◌, List, ap}
use Rattle.macs_store.specs.Table.{ceiling_at}
use Rattle.macs_store.specs.declared.ceiling_table.ChannelCeilings.{ChannelCeilings}
use Rattle.macs_store.proofs.Tables.{kept_more, kept_scis, scis_among}
use Rattle.macs_store.proofs.resting.at_next.Goals as goal

pub loop-sci-preserved : goal.loop-sci-preserved
loop-sci-preserved g c =
    let new : ChannelCeilings = record { sci = c.sci-item.result; ceilings = c.rx_next.result } in
    record {
      scis = ap scis_among c.push.ensures.items
          ∙ kept_scis c.args.scis.now c.loop-sci.sci-index c.loop-sci.channels.items new c.loop-sci-test.true
          c.loop-sci.invariant.scis c.sci-item.is;
      rx = λ s an. ap (λ (xs : List ChannelCeilings). ceiling_at xs s an) c.push.ensures.items
          ∙ kept_more (g.N.NextNumbers.numbers c.args.next.now).rx c.args.scis.now c.loop-sci.sci-index
          c.loop-sci.channels.items new
          c.loop-sci-test.true c.loop-sci.invariant.scis c.loop-sci.invariant.rx c.sci-item.is
          c.rx_next.ensures s an;
    }
