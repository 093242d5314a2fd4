use Rattle.std.proofs.Common.{◌≡◌, drop}
use Rattle.macs_config.specs.Config.{this_edition}
use Rattle.macs_config.specs.Snapshot.{config_with_listed}
use Rattle.macs_config.specs.Value.{config_in}
use Rattle.macs_config.proofs.restore.add_all.Given as goal

abbrev pub invariant-loop-at : goal.invariant-loop-at
invariant-loop-at g l =
    let listed = g.P.PartSource.listed l.parts in
    config_with_listed this_edition l.identity 2 (config_in l.fn.contents) (drop 1 listed)
    ≡ config_with_listed this_edition l.identity l.place (config_in l.contents) (drop l.at listed)
