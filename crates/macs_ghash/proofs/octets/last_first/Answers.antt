use Rattle.std.proofs.Common.{arith}
use Rattle.macs_ghash.proofs.OctetLanes.{last_first_at}
use Rattle.macs_ghash.specs.declared.octets.TheConstants.{SIXTEENS}
use Rattle.macs_ghash.proofs.octets.last_first.Goals as goal

pub returns : goal.returns
returns c = λ g j h k. last_first_at c.args.x SIXTEENS g j (omega arith) h k
