use Rattle.std.proofs.Common.{◌≡◌, ◌∙◌, [], get_or, refl, sym, ap}
use Rattle.macs_config.specs.Config.{comes_before}
use Rattle.macs_config.proofs.Channels.{before_by, put_among-behind, put_among-front}
use Rattle.macs_config.proofs.Keyed.{sci-at, within-scis}
use Rattle.macs_rxsc.proofs.Places.{sci_of}
use Rattle.macs_rxsc.specs.Value.{scis_of}
use Rattle.macs_rxsc.proofs.table.place_after.Goals as goal
use Rattle.macs_rxsc.proofs.table.place_after.Goals.{After-lt}

tested : (c : After-lt)
    → c.lt.result ≡ comes_before c.args.sci (get_or (scis_of c.args.channels.now) c.loop-place.place [])
tested c =
    let there = sci-at sci_of c.args.channels.now c.args.channels.now c.loop-place.place refl c.loop-place-test.true
    c.index-channels-place.result c.index-channels-place.is in
    c.lt.ensures ∙ before_by c.get.result c.get-in-loop-place.result
    ∙ ap (λ sci. comes_before sci c.get-in-loop-place.result) c.get.ensures
    ∙ ap (comes_before c.args.sci) (c.get-in-loop-place.ensures ∙ sym there)

pub returns-then-lt-clause-between : goal.returns-then-lt-clause-between
returns-then-lt-clause-between c =
    put_among-front c.args.sci (scis_of c.args.channels.now) c.loop-place.place
    (within-scis sci_of c.args.channels.now c.args.channels.now c.loop-place.place refl c.loop-place-test.true)
    (sym (tested (goal.at.returns-then-lt-clause-between c).After-lt) ∙ c.if-lt.true) c.loop-place.invariant

pub loop-place-preserved : goal.loop-place-preserved
loop-place-preserved c =
    put_among-behind c.args.sci (scis_of c.args.channels.now) c.loop-place.place
    (within-scis sci_of c.args.channels.now c.args.channels.now c.loop-place.place refl c.loop-place-test.true)
    (sym (tested (goal.at.loop-place-preserved c).After-lt) ∙ c.if-lt.false) c.loop-place.invariant
