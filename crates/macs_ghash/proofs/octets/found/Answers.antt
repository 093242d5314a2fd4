use Rattle.std.proofs.Common.{refl}
use Rattle.macs_ghash.proofs.OctetLanes.{found_at, found_fit}
use Rattle.macs_ghash.specs.declared.octets.TheConstants.{OCTETS, SIXTEENS}
use Rattle.macs_ghash.proofs.octets.found.Goals as goal

pub swizzle : goal.swizzle
swizzle c = found_fit SIXTEENS OCTETS c.args.at refl c.fits-at.0 c.requires

pub returns : goal.returns
returns c = λ g j h k. found_at c.args.table c.args.at SIXTEENS g j c.fits-at.0 h k (c.requires g j h k)
