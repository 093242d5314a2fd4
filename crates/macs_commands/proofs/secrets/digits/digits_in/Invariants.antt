-- All octets so far are digits exactly if they were counted so.
use Rattle.std.proofs.Common.{◌≡◌, ◌≤◌, ◌==◌, take}
use Rattle.std.specs.List.{list_all}
use Rattle.hex.specs.Hex.{is_hex_digit}
use Rattle.macs_commands.proofs.secrets.digits.digits_in.Given as goal

abbrev pub invariant-loop-i : goal.invariant-loop-i
invariant-loop-i l = (l.digits ≤ l.i) × ((l.digits == l.i) ≡ list_all is_hex_digit (take l.i l.fn.text))
