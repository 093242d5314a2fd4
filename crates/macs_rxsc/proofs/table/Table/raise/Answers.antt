use Rattle.std.proofs.Common.{◌≡◌, ◌∙◌, Option, Some, IsSome, get_or, ap, sym, subst}
use Rattle.macs_config.specs.Tables.{put}
use Rattle.macs_config.specs.Places.{IsPlace}
use Rattle.macs_config.proofs.Keyed.{found-place}
use Rattle.macs_config.proofs.Lent.{lent, lent_old}
use Rattle.macs_rxsc.proofs.Places.{sci_of}
use Rattle.macs_rxsc.specs.Value.{ceilings_in, rx_side_in, ceilings_among, counters_among, scis_of}
use Rattle.macs_rxsc.specs.declared.channel.Channel.{Channel}
use Rattle.macs_rxsc.proofs.Shown.{at_old, ceilings-changed, counters-kept, found_none, shown-kept}
use Rattle.macs_rxsc.proofs.table.Table.raise.Goals as goal
use Rattle.macs_rxsc.proofs.table.Table.raise.Goals.{After-raise}

-- the channel that was lent
abbrev old : After-raise → Channel
old c = get_or c.deref_mut.result.now c.in-Some.place c.index-deref_mut-place.result

stands : (c : After-raise) → IsPlace (scis_of c.args.self.now.channels.items) c.args.sci c.in-Some.place
stands c =
    found-place sci_of c.args.self.now.channels.items c.as_slice.result.now c.args.sci c.as_slice.ensures.value
    c.in-Some.place c.in-Some.ensures

was : (c : After-raise) → old c ≡ get_or c.args.self.now.channels.items c.in-Some.place (old c)
was c = lent_old c.args.self.now.channels.items c.deref_mut.result.now c.in-Some.place c.index-deref_mut-place.result
    c.deref_mut.ensures.value c.index-deref_mut-place.is

pub returns-in-Some-clause-side : goal.returns-in-Some-clause-side
returns-in-Some-clause-side c =
    let p = (goal.at.returns-in-Some-clause-side c).After-raise in
    λ validate replay. ap (rx_side_in validate replay) (lent c.args.self.now.channels.items c.deref_mut.result.now
    c.in-Some.place c.raise.new.self c.deref_mut.ensures.value)
    ∙ shown-kept c.args.self.now.channels.items c.in-Some.place (old p) c.raise.new.self c.args.sci (stands p)
    (was p) c.raise.ensures.sci validate replay c.raise.ensures.sas c.raise.ensures.numbers

pub returns-in-Some-clause-ceilings : goal.returns-in-Some-clause-ceilings
returns-in-Some-clause-ceilings c =
    let p = (goal.at.returns-in-Some-clause-ceilings c).After-raise in
    let before = at_old c.args.self.now.channels.items c.in-Some.place (old p) c.raise.new.self c.args.sci (stands p)
    (was p) c.raise.ensures.sci in
    let some = subst (λ (o : Option Channel). IsSome (ceilings_in o c.args.an)) before c.requires in
    ap ceilings_among (lent c.args.self.now.channels.items c.deref_mut.result.now c.in-Some.place c.raise.new.self
    c.deref_mut.ensures.value)
    ∙ ceilings-changed c.args.self.now.channels.items c.in-Some.place (old p) c.raise.new.self c.args.sci (stands p)
    (was p) c.raise.ensures.sci _ (c.raise.ensures.ceilings some
    ∙ ap (λ (o : Option Channel). put (ceilings_in o) c.args.an (Some c.args.ceiling)) (sym before))

pub returns-in-Some-clause-counters : goal.returns-in-Some-clause-counters
returns-in-Some-clause-counters c =
    let p = (goal.at.returns-in-Some-clause-counters c).After-raise in
    ap counters_among (lent c.args.self.now.channels.items c.deref_mut.result.now c.in-Some.place c.raise.new.self
    c.deref_mut.ensures.value) ∙ counters-kept c.args.self.now.channels.items c.in-Some.place (old p)
    c.raise.new.self c.args.sci (stands p) (was p) c.raise.ensures.sci c.raise.ensures.counters

pub returns-in_default-clause-ceilings : goal.returns-in_default-clause-ceilings
returns-in_default-clause-ceilings c =
    let gone = found_none c.args.self.now.channels.items c.as_slice.result.now c.args.sci c.as_slice.ensures.value
    c.in_default.ensures in
    let some = subst (λ (o : Option Channel). IsSome (ceilings_in o c.args.an)) gone.0 c.requires in
    absurd (cc)
