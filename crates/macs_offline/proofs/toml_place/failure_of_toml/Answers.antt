use Rattle.std.proofs.Common.{inr}
use Rattle.macs_offline.specs.TomlPlaces.{not_toml_text}
use Rattle.macs_offline.proofs.toml_place.failure_of_toml.Goals as goal

pub returns-in-Some : goal.returns-in-Some
returns-in-Some c = inr (
  λ memory. (let e = rw c.in-Some.is at (c.place_of.ensures.memory.1 memory) in cc),
  rw (rw c.in-Some.is at c.place_of.ensures.place) at (c.failure_saying.ensures _ c.not_toml_text.ensures),
)
