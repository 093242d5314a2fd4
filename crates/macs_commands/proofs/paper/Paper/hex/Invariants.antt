-- The digits so far.
use Rattle.std.proofs.Common.{take}
use Rattle.hex.specs.Hex.{encode_lower}
use Rattle.macs_commands.specs.Papers.{Writes}
use Rattle.macs_commands.proofs.paper.Paper.hex.Given as goal

abbrev pub invariant-loop-octet : goal.invariant-loop-octet
invariant-loop-octet l = Writes l.initial.self l.self (encode_lower (take l.octet-index l.fn.octets))
