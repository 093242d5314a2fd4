use Rattle.std.proofs.Common.{◌≡◌, ◌∙◌, ap}
use Rattle.macs_rxsc.specs.Value.{rx_side_in, ceilings_among, counters_among}
use Rattle.std.proofs.Common.{rules, filter}
use Rattle.arrayvec.proofs.ArrayVecLemmas.{filter-from_retain}
use Rattle.macs_config.proofs.Keyed.{is_other}
use Rattle.macs_rxsc.proofs.Places.{sci_of}
use Rattle.macs_rxsc.proofs.Shown.{ceilings-gone, counters-gone, shown-gone}
use Rattle.macs_rxsc.proofs.table.Table.drop_channel.Goals as goal
use Rattle.macs_rxsc.proofs.table.Table.drop_channel.Goals.{After-retain}

kept : (c : After-retain) → c.retain.new.self.items ≡ filter (is_other sci_of c.args.sci) c.args.self.now.channels.items
kept c = filter-from_retain _ _ _ (λ x b f' y called. search rules) _ _ c.retain.ensures.filtered

pub returns-clause-side : goal.returns-clause-side
returns-clause-side c = λ validate replay.
    ap (rx_side_in validate replay) (kept (goal.at.returns-clause-side c).After-retain)
    ∙ shown-gone c.args.self.now.channels.items c.args.sci validate replay

pub returns-clause-ceilings : goal.returns-clause-ceilings
returns-clause-ceilings c = ap ceilings_among (kept (goal.at.returns-clause-ceilings c).After-retain)
    ∙ ceilings-gone c.args.self.now.channels.items c.args.sci

pub returns-clause-counters : goal.returns-clause-counters
returns-clause-counters c = ap counters_among (kept (goal.at.returns-clause-counters c).After-retain)
    ∙ counters-gone c.args.self.now.channels.items c.args.sci
