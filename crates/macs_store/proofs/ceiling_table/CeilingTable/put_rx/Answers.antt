use Rattle.std.proofs.Common.{◌≡◌, ◌∙◌, get_or, ap}
use Rattle.macs_store.specs.declared.ceiling_table.ChannelCeilings.{ChannelCeilings}
use Rattle.macs_config.specs.Places.{IsPlace}
use Rattle.macs_config.proofs.Keyed.{found-none, found-place, lookup-put, place-there, scis-set}
use Rattle.macs_config.proofs.Lent.{lent, lent_old}
use Rattle.macs_store.proofs.Tables.{ceiling_lookup, read-channels, read-lent, sci_of, scis_among}
use Rattle.macs_store.proofs.ceiling_table.CeilingTable.put_rx.Goals as goal
use Rattle.macs_store.proofs.ceiling_table.CeilingTable.put_rx.Goals.{After-put}

-- the channel that was lent
abbrev old : After-put → ChannelCeilings
old c = get_or c.deref_mut.result.now c.in-Some.place c.index-deref_mut-place.result

stands : (c : After-put) → IsPlace (scis_among c.args.self.now.channels.items) c.args.sci c.in-Some.place
stands c =
    found-place sci_of c.args.self.now.channels.items c.as_slice.result.now c.args.sci c.as_slice.ensures.value
    c.in-Some.place c.in-Some.ensures

was : (c : After-put) → old c ≡ get_or c.args.self.now.channels.items c.in-Some.place (old c)
was c =
    lent_old c.args.self.now.channels.items c.deref_mut.result.now c.in-Some.place c.index-deref_mut-place.result
    c.deref_mut.ensures.value c.index-deref_mut-place.is

pub returns-in-Some-clause-put : goal.returns-in-Some-clause-put
returns-in-Some-clause-put c =
    let p = (goal.at.returns-in-Some-clause-put c).After-put in
    read-lent c.args.self.now c.deref_mut.result.now c.in-Some.place c.put.new.self c.deref_mut.ensures.value
    ∙ read-channels c.args.self.now _ _
    (lookup-put ceiling_lookup c.args.self.now.channels.items c.in-Some.place (old p) c.put.new.self c.args.sci
    c.args.an c.args.ceiling
    (stands p) (was p) c.put.ensures.sci c.put.ensures.ceiling)

pub returns-in-Some-clause-channels : goal.returns-in-Some-clause-channels
returns-in-Some-clause-channels c =
    let p = (goal.at.returns-in-Some-clause-channels c).After-put in
    let channels = c.args.self.now.channels.items in
    ap scis_among (lent channels c.deref_mut.result.now c.in-Some.place c.put.new.self c.deref_mut.ensures.value)
    ∙ scis-set sci_of channels c.in-Some.place c.put.new.self c.args.sci (stands p)
    (c.put.ensures.sci ∙ ap sci_of (was p) ∙ place-there sci_of channels c.args.sci c.in-Some.place (old p) (stands p))

pub returns-in_default-clause-put : goal.returns-in_default-clause-put
returns-in_default-clause-put c =
    let absent = found-none sci_of c.args.self.now.channels.items c.as_slice.result.now c.args.sci
    c.as_slice.ensures.value c.in_default.ensures in
    let stands = c.requires in
    absurd (cc)
