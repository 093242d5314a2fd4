use Rattle.std.proofs.Common.{◌∙◌, List, None, ap, get_or, sym}
use Rattle.macs_config.specs.declared.contents.Channel.{Channel}
use Rattle.macs_config.proofs.Keyed.{lookup-none, lookup-place}
use Rattle.macs_config.proofs.StoredChannels.{rx_lookup}
use Rattle.macs_config.proofs.contents.Contents.rx.Goals as goal

pub returns : goal.returns
returns c =
    let place = c.in_ok-place.place in
    let entry = c.index-deref-place.result in
    c.at.ensures
    ∙ ap (λ (other : Channel). get_or other.associations c.args.an None)
    (c.index-deref-place.is ∙ ap (λ (entries : List Channel). get_or entries place entry) c.deref.ensures.0)
    ∙ sym (lookup-place (rx_lookup c.args.an) c.args.self.now.channels.items c.args.sci place entry
    c.in_ok-place.ensures.stands)

pub returns-in_err-place : goal.returns-in_err-place
returns-in_err-place c = c.from_residual.ensures
    ∙ sym (lookup-none (rx_lookup c.args.an) c.args.self.now.channels.items c.args.sci c.in_err-place.ensures.none)
