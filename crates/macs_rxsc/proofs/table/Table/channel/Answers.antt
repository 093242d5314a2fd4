use Rattle.std.proofs.Common.{◌∙◌, Some, ap, sym}
use Rattle.std.specs.Option.{option_map}
use Rattle.macs_config.proofs.Keyed.{found-place, lookup-place}
use Rattle.macs_rxsc.proofs.Places.{channel_lookup, sci_of}
use Rattle.macs_rxsc.proofs.Shown.{found_none}
use Rattle.macs_rxsc.proofs.table.Table.channel.Goals as goal

pub returns-in_err-place : goal.returns-in_err-place
returns-in_err-place c =
    ap (option_map (λ channel. channel.now)) c.from_residual.ensures
    ∙ sym ((found_none c.args.self.now.channels.items c.as_slice.result.now c.args.sci c.as_slice.ensures.value
    c.in_err-place.ensures).0)

pub returns : goal.returns
returns c =
    let items = c.deref.ensures.0 in
    let is = rw items at c.index-deref-place.is in
    let place = found-place sci_of c.args.self.now.channels.items c.as_slice.result.now c.args.sci
    c.as_slice.ensures.value c.in_ok-place.place c.in_ok-place.ensures in
    sym (lookup-place channel_lookup c.args.self.now.channels.items c.args.sci c.in_ok-place.place
    c.index-deref-place.result place ∙ ap Some (sym is))
