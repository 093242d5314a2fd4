use Rattle.std.proofs.Common.{◌∙◌, refl, ap, sym}
use Rattle.macs_frame.specs.Tag.{tag_of}
use Rattle.macs_rxsc.proofs.Shown.{tag_uncounted, uncounted}
use Rattle.macs_rxsc.proofs.Steps.{first_fault, settles}
use Rattle.macs_rxsc.specs.Receive.{Tag as TagStep, channel_of, given_at}
use Rattle.macs_rxsc.specs.Counting.{channel_counters_after}
use Rattle.macs_rxsc.specs.Value.{ceilings_among, counters_among, rx_side_in}
use Rattle.macs_rxsc.specs.declared.counters.ChannelCounters.{ChannelCounters}
use Rattle.macs_rxsc.specs.declared.verdict.Verdict.{Verdict}
use Rattle.macs_rxsc.proofs.table.Table.receive.Goals as goal

pub receive_tagged-requires-clause-read : goal.receive_tagged-requires-clause-read
receive_tagged-requires-clause-read c = (c.read_tag.ensures.parts c.in-Ok.parts).0 c.in-Ok.is

pub refuse-requires-clause-fault : goal.refuse-requires-clause-fault
refuse-requires-clause-fault c = (c.read_tag.ensures.fault c.in-Err.fault).0 c.in-Err.is

pub returns-in-Err : goal.returns-in-Err
returns-in-Err c =
    let side = rx_side_in c.args.policy.validate c.args.policy.replay c.args.self.now.channels.items in
    let verdict = c.refuse.ensures.verdict side refl in
    record {
      outcome = settles side (ceilings_among c.args.self.now.channels.items) c.args.frame.now (TagStep c.in-Err.fault)
          (first_fault side c.args.frame.now c.in-Err.fault ((c.read_tag.ensures.fault c.in-Err.fault).0 c.in-Err.is))
          _ _ _ verdict (c.refuse.ensures.given ∙ ap (given_at c.args.frame.now) verdict) refl;
      side = refl;
      ceilings = refl;
      counters = sym (uncounted (channel_of side c.args.frame.now) (tag_of c.args.frame.now) c.refuse.result
          c.refuse.new.out.items (counters_among c.args.self.now.channels.items)
          (λ (k : ChannelCounters). ap (λ (v : Verdict). channel_counters_after (tag_of c.args.frame.now) v
          c.refuse.new.out.items k) verdict
          ∙ tag_uncounted side c.args.frame.now c.in-Err.fault c.args.policy.validate refl (tag_of c.args.frame.now)
          c.refuse.new.out.items k));
    }
