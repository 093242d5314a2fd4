use Rattle.std.proofs.Common.{◌∙◌, ap}
use Rattle.macs_store.specs.Snapshot.{snapshot, new_walk, walk_past_all}
use Rattle.macs_store.specs.Table.{StandingValue, standing_of}
use Rattle.macs_store.specs.declared.walk.Walk.{Walk}
use Rattle.macs_store.proofs.Passing.{snapshot-walked}
use Rattle.macs_store.proofs.standing.Standing.walk.Goals as goal

pub returns : goal.returns
returns c =
    let inside : StandingValue = record { config = c.self.inside.config; table = c.self.inside.ceilings } in
    snapshot-walked (standing_of inside) c.new-walk.result c.pass_settings.new.walk c.pass_tx.new.walk
    c.pass_channels.new.walk c.pass_rx.new.walk c.pass_spent.new.walk c.pass_spent-2.new.walk c.as_slice.result.now
    c.pass_settings.ensures.walked c.pass_tx.ensures.walked (c.as_slice.ensures.value ∙ c.channels-scis.ensures)
    c.pass_channels.ensures.walked c.pass_rx.ensures.walked c.pass_spent.ensures.walked c.pass_spent-2.ensures.walked
    ∙ ap (λ (w : Walk). walk_past_all w (snapshot (standing_of inside))) c.new-walk.ensures.first
    ∙ ap (λ (h : StandingValue). walk_past_all (new_walk c.args.place) (snapshot (standing_of h))) c.self.view_is
