use Rattle.std.proofs.Common.{◌≡◌, ◌∙◌, ◌++◌, ◌∷◌, List, take, drop, ap, subst}
use Rattle.macs_config.specs.Config.{put_among}
use Rattle.macs_rxsc.specs.Value.{scis_of, rx_side_in, ceilings_among, counters_among}
use Rattle.macs_rxsc.specs.declared.channel.Channel.{Channel}
use Rattle.std.specs.List.{insert}
use Rattle.macs_rxsc.proofs.Shown.{ceilings-added, counters-added, fresh, shown-added}
use Rattle.macs_rxsc.proofs.table.Table.add.Goals as goal
use Rattle.macs_rxsc.proofs.table.Table.add.Goals.{After-insert}

after : (c : After-insert)
    → c.insert.new.self.items ≡ insert c.args.self.now.channels.items c.place_after-place.result (fresh c.args.sci)
after c = c.insert.ensures.items ∙ ap (insert c.args.self.now.channels.items c.place_after-place.result) c.new.ensures

pub returns-clause-side : goal.returns-clause-side
returns-clause-side c = λ validate replay.
    let between = subst (λ (xs : List Channel). put_among c.args.sci (scis_of xs)
    ≡ take c.place_after-place.result (scis_of xs) ++ c.args.sci ∷ drop c.place_after-place.result (scis_of xs))
    c.as_slice.ensures.value c.place_after-place.ensures.between in
    ap (rx_side_in validate replay) (after (goal.at.returns-clause-side c).After-insert)
    ∙ shown-added c.args.self.now.channels.items c.place_after-place.result c.args.sci c.requires.free validate
    replay between

pub returns-clause-ceilings : goal.returns-clause-ceilings
returns-clause-ceilings c =
    ap ceilings_among (after (goal.at.returns-clause-ceilings c).After-insert)
    ∙ ceilings-added c.args.self.now.channels.items c.place_after-place.result c.args.sci c.requires.free

pub returns-clause-counters : goal.returns-clause-counters
returns-clause-counters c =
    ap counters_among (after (goal.at.returns-clause-counters c).After-insert)
    ∙ counters-added c.args.self.now.channels.items c.place_after-place.result c.args.sci c.requires.free
