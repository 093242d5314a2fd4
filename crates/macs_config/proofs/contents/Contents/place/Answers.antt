use Rattle.std.proofs.Common.{◌≡◌, ◌∙◌, [], bytes_eq, get_or, sym, ap}
use Rattle.std.proofs.lemmas.Slice.Eq.{bytes_eq-Decides}
use Rattle.macs_config.proofs.Keyed.{sci-at, within-scis}
use Rattle.macs_config.proofs.StoredChannels.{not_before_next, sci_of, scis_of}
use Rattle.macs_config.proofs.contents.Contents.place.Goals as goal
use Rattle.macs_config.proofs.contents.Contents.place.Goals.{After-eq}

there : (c : After-eq)
    → get_or (scis_of c.args.self.now.channels.items) c.loop-place.place [] ≡ c.channel-item.result.sci
there c = sci-at sci_of c.args.self.now.channels.items c.deref-channel-items.result.now c.loop-place.place
    c.deref-channel-items.ensures.0
    c.loop-place-test.true c.channel-item.result c.channel-item.is

pub returns-then-eq-clause-stands : goal.returns-then-eq-clause-stands
returns-then-eq-clause-stands c = record {
  within = within-scis sci_of c.args.self.now.channels.items c.deref-channel-items.result.now c.loop-place.place
      c.deref-channel-items.ensures.0 c.loop-place-test.true;
  there = there (goal.at.returns-then-eq-clause-stands c).After-eq
      ∙ (bytes_eq-Decides c.channel-item.result.sci c.args.sci).0 (sym c.eq.ensures ∙ c.if-eq.true);
  first = c.loop-place.invariant;
}

pub loop-place-preserved : goal.loop-place-preserved
loop-place-preserved c =
    not_before_next (scis_of c.args.self.now.channels.items) c.args.sci c.loop-place.place
    (within-scis sci_of c.args.self.now.channels.items c.deref-channel-items.result.now c.loop-place.place
    c.deref-channel-items.ensures.0 c.loop-place-test.true)
    (ap (λ sci. bytes_eq sci c.args.sci) (there (goal.at.loop-place-preserved c).After-eq) ∙ sym c.eq.ensures
    ∙ c.if-eq.false) c.loop-place.invariant
