-- Places in a text, octet after octet.
use Rattle.std.proofs.Common.{◌≡◌, ◌∙◌, ◌+◌, ◌<◌, ◌≤◌, ◌==◌, ◌/◌, if◌then◌else◌, ℕ, []}
use Rattle.std.proofs.Common.{◌∷◌}
use Rattle.macs_offline.specs.declared.toml_place.TextPlace.{TextPlace}

-- neither number is above this one
abbrev pub IsWithinPlace : TextPlace → ℕ → Type 0
IsWithinPlace place most = (place.line ≤ most) × (place.column ≤ most)
