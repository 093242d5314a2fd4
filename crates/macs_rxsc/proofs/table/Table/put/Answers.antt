use Rattle.std.proofs.Common.{◌≡◌, ◌∙◌, Option, get_or, ap, sym}
use Rattle.std.specs.Option.{option_map}
use Rattle.macs_config.specs.Tables.{put}
use Rattle.macs_config.specs.Places.{IsPlace}
use Rattle.macs_config.proofs.Keyed.{found-place}
use Rattle.macs_config.proofs.Lent.{lent, lent_old}
use Rattle.macs_rxsc.proofs.Places.{sci_of}
use Rattle.macs_rxsc.specs.Value.{ceilings_in, numbers_in, packet_numbers, sa_of, sas_in, rx_side_in, ceilings_among}
use Rattle.macs_rxsc.specs.Value.{counters_among, scis_of}
use Rattle.macs_rxsc.specs.declared.association.Association.{Association}
use Rattle.macs_rxsc.specs.declared.channel.Channel.{Channel}
use Rattle.macs_rxsc.proofs.Shown.{at_old, ceilings-changed, counters-kept, found_none, shown-changed}
use Rattle.macs_rxsc.proofs.table.Table.put.Goals as goal
use Rattle.macs_rxsc.proofs.table.Table.put.Goals.{After-put}

-- the channel that was lent
abbrev old : After-put → Channel
old c = get_or c.deref_mut.result.now c.in-Some.place c.index-deref_mut-place.result

stands : (c : After-put) → IsPlace (scis_of c.args.self.now.channels.items) c.args.sci c.in-Some.place
stands c =
    found-place sci_of c.args.self.now.channels.items c.as_slice.result.now c.args.sci c.as_slice.ensures.value
    c.in-Some.place c.in-Some.ensures

was : (c : After-put) → old c ≡ get_or c.args.self.now.channels.items c.in-Some.place (old c)
was c = lent_old c.args.self.now.channels.items c.deref_mut.result.now c.in-Some.place c.index-deref_mut-place.result
    c.deref_mut.ensures.value c.index-deref_mut-place.is

pub returns-in-Some-clause-side : goal.returns-in-Some-clause-side
returns-in-Some-clause-side c =
    let p = (goal.at.returns-in-Some-clause-side c).After-put in
    λ validate replay. ap (rx_side_in validate replay) (lent c.args.self.now.channels.items c.deref_mut.result.now
    c.in-Some.place c.put.new.self c.deref_mut.ensures.value)
    ∙ shown-changed c.args.self.now.channels.items c.in-Some.place (old p) c.put.new.self c.args.sci (stands p)
    (was p) c.put.ensures.sci validate replay _ _
    (c.put.ensures.sas ∙ ap (λ (o : Option Channel). put (sas_in o) c.args.an (option_map sa_of c.args.association))
    (sym (at_old c.args.self.now.channels.items c.in-Some.place (old p) c.put.new.self c.args.sci (stands p) (was p)
    c.put.ensures.sci)))
    (c.put.ensures.numbers ∙ ap (λ (o : Option Channel). put (numbers_in o) c.args.an
    (option_map packet_numbers c.args.association)) (sym (at_old c.args.self.now.channels.items c.in-Some.place
    (old p) c.put.new.self c.args.sci (stands p) (was p) c.put.ensures.sci)))

pub returns-in-Some-clause-ceilings : goal.returns-in-Some-clause-ceilings
returns-in-Some-clause-ceilings c =
    let p = (goal.at.returns-in-Some-clause-ceilings c).After-put in
    ap ceilings_among (lent c.args.self.now.channels.items c.deref_mut.result.now c.in-Some.place c.put.new.self
    c.deref_mut.ensures.value)
    ∙ ceilings-changed c.args.self.now.channels.items c.in-Some.place (old p) c.put.new.self c.args.sci (stands p)
    (was p) c.put.ensures.sci _
    (c.put.ensures.ceilings ∙ ap (λ (o : Option Channel). put (ceilings_in o) c.args.an
    (option_map (λ (a : Association). a.ceiling) c.args.association)) (sym (at_old c.args.self.now.channels.items
    c.in-Some.place (old p) c.put.new.self c.args.sci (stands p) (was p) c.put.ensures.sci)))

pub returns-in-Some-clause-counters : goal.returns-in-Some-clause-counters
returns-in-Some-clause-counters c =
    let p = (goal.at.returns-in-Some-clause-counters c).After-put in
    ap counters_among (lent c.args.self.now.channels.items c.deref_mut.result.now c.in-Some.place c.put.new.self
    c.deref_mut.ensures.value) ∙ counters-kept c.args.self.now.channels.items c.in-Some.place (old p) c.put.new.self
    c.args.sci (stands p) (was p) c.put.ensures.sci c.put.ensures.counters

pub returns-in_default-clause-side : goal.returns-in_default-clause-side
returns-in_default-clause-side c =
    λ validate replay. let gone = found_none c.args.self.now.channels.items c.as_slice.result.now c.args.sci
    c.as_slice.ensures.value c.in_default.ensures in
    let no = gone.1 in
    let yes = c.requires in
    absurd (cc)

pub returns-in_default-clause-ceilings : goal.returns-in_default-clause-ceilings
returns-in_default-clause-ceilings c =
    let gone = found_none c.args.self.now.channels.items c.as_slice.result.now c.args.sci c.as_slice.ensures.value
    c.in_default.ensures in
    let no = gone.1 in
    let yes = c.requires in
    absurd (cc)
