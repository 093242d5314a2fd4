use Rattle.std.proofs.Common.{◌+◌, ◌*◌, arith}
use Rattle.macs_ghash.proofs.OctetLanes.{raised_half}
use Rattle.macs_ghash.specs.declared.octets.TheConstants.{OCTETS}
use Rattle.macs_ghash.proofs.octets.raised.Goals as goal

pub returns : goal.returns
returns c = λ g j h k. raised_half OCTETS c.args.x (16 * g + j) c.fits-x.0 (omega arith)
