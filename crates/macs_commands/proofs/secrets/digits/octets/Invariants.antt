-- The octets so far, and the pairs that are left, say what the text does.
use Rattle.std.proofs.Common.{◌≡◌, ◌*◌, drop, length, take}
use Rattle.hex.specs.Hex.{decode_pairs}
use Rattle.hex.proofs.Pairs.{prepend}
use Rattle.macs_commands.proofs.secrets.digits.octets.Given as goal

abbrev pub invariant-loop-i : goal.invariant-loop-i
invariant-loop-i g l = (length l.octets ≡ g.row.N)
    × (decode_pairs 0 l.fn.text ≡ prepend (take l.i l.octets) (decode_pairs (2 * l.i) (drop (2 * l.i) l.fn.text)))
