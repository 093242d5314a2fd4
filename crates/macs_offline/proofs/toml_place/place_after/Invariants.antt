use Rattle.std.proofs.Common.{◌≡◌, ◌+◌, drop}
use Rattle.macs_offline.specs.TomlPlaces.{place_after, place_from}
use Rattle.macs_offline.proofs.TomlPlaces.{IsWithinPlace}
use Rattle.macs_offline.proofs.toml_place.place_after.Given as goal

abbrev pub invariant-loop-i : goal.invariant-loop-i
invariant-loop-i l = (place_from l.place (drop l.i l.front) ≡ place_after l.front) × IsWithinPlace l.place (l.i + 1)
