use Rattle.std.proofs.Common.{◌≡◌, ◌∙◌, ◌==◌, None, cond, get_or, length, set, ap, sym}
use Rattle.std.proofs.lemmas.List.{length-set}
use Rattle.arrayvec.proofs.ArrayVecLemmas.{items-with_items}
use Rattle.macs_config.proofs.Keyed.{lookup-put, place-there, scis-set}
use Rattle.macs_config.proofs.StoredChannels.{read-channels, rx_lookup, sci_of}
use Rattle.macs_config.specs.declared.contents.Channel.{Channel}
use Rattle.macs_config.proofs.contents.Contents.put_rx.Goals as goal

pub returns-in-Some : goal.returns-in-Some
returns-in-Some c =
    let channels = c.args.self.now.channels.items in
    let place = c.in-Some.place in
    let old = c.index-deref_mut-place.result in
    let p = c.in-Some.ensures.stands in
    let items = c.deref_mut.ensures.value in
    let is : old ≡ get_or channels place old = rw items at c.index-deref_mut-place.is in
    let same : c.put.new.self.sci ≡ old.sci = c.put.ensures.sci
    ∙ ap (λ (x : Channel). x.sci) (sym c.index-deref_mut-place.is) in
    let kept : length (set c.deref_mut.result.now place c.put.new.self) ≡ length channels =
    length-set c.deref_mut.result.now place c.put.new.self ∙ ap length items in
    rw (items-with_items c.args.self.now.channels (set c.deref_mut.result.now place c.put.new.self) kept, items)
    (read-channels c.args.self.now _ _ _
    (scis-set sci_of channels place c.put.new.self c.args.sci p
    (same ∙ ap sci_of is ∙ place-there sci_of channels c.args.sci place old p))
    (lookup-put rx_lookup channels place old c.put.new.self c.args.sci c.args.an c.args.sa p is same
    (λ n. c.put.ensures.association n ∙ ap (λ (x : Channel).
    cond (n == c.args.an) c.args.sa (get_or x.associations n None)) (sym c.index-deref_mut-place.is))))
