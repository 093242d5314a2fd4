use Rattle.macs_planes.proofs.BitPlanes.{plane_octet}
use Rattle.macs_planes.specs.declared.places.TheConstants.{LANES}
use Rattle.macs_planes.proofs.key_planes.bit_plane.Goals as goal

pub returns-clause-octets : goal.returns-clause-octets
returns-clause-octets c = λ m h. plane_octet LANES c.args.octets c.args.mask m c.fits-octets.0 h
