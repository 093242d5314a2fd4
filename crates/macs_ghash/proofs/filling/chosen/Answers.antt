use Rattle.std.proofs.Common.{◌<◌, arith, refl}
use Rattle.macs_ghash.proofs.Filled.{chosen_at, places_fit}
use Rattle.macs_ghash.specs.declared.octets.TheConstants.{OCTETS, SIXTEENS}
use Rattle.macs_ghash.proofs.filling.chosen.Goals as goal

pub swizzle : goal.swizzle
swizzle c = places_fit SIXTEENS OCTETS c.args.place c.args.k refl (omega arith) c.requires.place c.requires.bit

pub returns : goal.returns
returns c =
    λ g n h k. chosen_at SIXTEENS c.args.x c.args.place c.args.k g n (omega arith) c.requires.place c.requires.bit h k
