use Rattle.std.proofs.Common.{◌≡◌, ◌++◌, take, drop}
use Rattle.macs_config.specs.Config.{put_among}
use Rattle.macs_rxsc.specs.Value.{scis_of}
use Rattle.macs_rxsc.proofs.table.place_after.Given as goal

abbrev pub invariant-loop-place : goal.invariant-loop-place
invariant-loop-place l = put_among l.sci (scis_of l.channels)
    ≡ take l.place (scis_of l.channels) ++ put_among l.sci (drop l.place (scis_of l.channels))
