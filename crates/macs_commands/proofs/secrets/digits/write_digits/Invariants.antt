-- The digits so far, and those of the octets that are left, are all.
use Rattle.std.proofs.Common.{◌≡◌, ◌*◌, ◌++◌, drop, take}
use Rattle.hex.specs.Hex.{encode_lower}
use Rattle.macs_commands.proofs.secrets.digits.write_digits.Given as goal

abbrev pub invariant-loop-i : goal.invariant-loop-i
invariant-loop-i l =
    take (2 * l.i) l.digits ++ encode_lower (drop l.i l.fn.octets) ≡ encode_lower l.fn.octets
