use Rattle.std.proofs.Common.{◌≡◌, ◌<◌, ℕ, [], get_or}
use Rattle.macs_ghash.specs.Tables.{octets_in, sum_of}
use Rattle.macs_ghash.specs.declared.octets.TheConstants.{SIXTEENS}
use Rattle.macs_ghash.proofs.tables.found_in.Given as goal

abbrev pub invariant-loop-p : goal.invariant-loop-p
invariant-loop-p over l = (g j : ℕ) → g < SIXTEENS → j < 16
    → octets_in l.total g j ≡ sum_of (λ p. octets_in (get_or l.row p []) g (octets_in (get_or l.at p []) g j)) l.p
