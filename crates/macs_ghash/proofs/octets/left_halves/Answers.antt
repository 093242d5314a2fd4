use Rattle.std.proofs.Common.{◌+◌, ◌*◌, arith}
use Rattle.macs_ghash.proofs.OctetLanes.{left_half}
use Rattle.macs_ghash.specs.declared.octets.TheConstants.{OCTETS}
use Rattle.macs_ghash.proofs.octets.left_halves.Goals as goal

pub returns : goal.returns
returns c = λ g j h k. left_half OCTETS c.args.x (16 * g + j) c.fits-x.0 (omega arith)
