use Rattle.std.proofs.Common.{◌∙◌, None, get_or, ap, sym}
use Rattle.macs_store.specs.declared.ceiling_table.ChannelCeilings.{ChannelCeilings}
use Rattle.macs_config.proofs.Keyed.{found-none, found-place, lookup-none, lookup-place}
use Rattle.macs_config.proofs.Tables.{none_at}
use Rattle.macs_store.proofs.Tables.{ceiling_lookup, sci_of}
use Rattle.macs_store.proofs.ceiling_table.CeilingTable.of_channel.Goals as goal

pub returns-in-Some : goal.returns-in-Some
returns-in-Some c =
    let items = c.deref.ensures.0 in
    let is = rw items at c.index-deref-place.is in
    let place = found-place sci_of c.args.self.now.channels.items c.as_slice.result.now c.args.sci
    c.as_slice.ensures.value c.in-Some.place
    c.in-Some.ensures in
    λ an. ap (λ xs. get_or xs an None) c.all.ensures ∙ ap (λ (x : ChannelCeilings). get_or x.ceilings an None) is
    ∙ sym (lookup-place (ceiling_lookup an) c.args.self.now.channels.items c.args.sci c.in-Some.place
    c.index-deref-place.result place)

pub returns-in-None : goal.returns-in-None
returns-in-None c = λ an. none_at an ∙ sym (lookup-none (ceiling_lookup an) c.args.self.now.channels.items c.args.sci
    (found-none sci_of c.args.self.now.channels.items c.as_slice.result.now c.args.sci c.as_slice.ensures.value
    c.in-None.ensures))
