use Rattle.std.proofs.Common.{arith}
use Rattle.macs_ghash.proofs.OctetLanes.{further_at}
use Rattle.macs_ghash.specs.declared.octets.TheConstants.{SIXTEENS}
use Rattle.macs_ghash.proofs.octets.further.Goals as goal

pub returns : goal.returns
returns c = λ g j h k. further_at c.args.x SIXTEENS g j (omega arith) h k
