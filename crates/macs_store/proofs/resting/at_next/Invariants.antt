use Rattle.std.proofs.Common.{◌≡◌, ℕ, List, None, cond, map, take}
use Rattle.macs_config.specs.Config.{is_among}
use Rattle.macs_store.specs.Table.{ceiling_at}
use Rattle.macs_store.specs.declared.ceiling_table.ChannelCeilings.{ChannelCeilings}
use Rattle.macs_store.proofs.resting.at_next.Given as goal

abbrev pub invariant-loop-sci : goal.invariant-loop-sci
invariant-loop-sci g l = record {
  scis : map (λ (channel : ChannelCeilings). channel.sci) l.channels.items ≡ take l.sci-index l.scis;
  rx : (s : List ℕ) (an : ℕ) → ceiling_at l.channels.items s an
      ≡ cond (is_among (take l.sci-index l.scis) s) ((g.N.NextNumbers.numbers l.next).rx s an) None;
}
