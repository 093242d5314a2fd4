use Rattle.std.proofs.Common.{◌≡◌}
use Rattle.macs_ghash.specs.Tables.{block_of_octets, octets_in, sum_of}
use Rattle.macs_ghash.proofs.octets.number.Given as goal

abbrev pub invariant-loop-g : goal.invariant-loop-g
invariant-loop-g l = l.total ≡ sum_of (λ g. block_of_octets (octets_in l.x g)) l.g
