use Rattle.std.proofs.Common.{◌≡◌, arith, drop, get_or, length, refl}
use Rattle.std.specs.Prelude.{nat_le}
use Rattle.std.specs.Str.{IsAscii}
use Rattle.std.proofs.lemmas.Bool.{leb-true}
use Rattle.std.proofs.lemmas.List.{take_at}
use Rattle.std.proofs.lemmas.List.Sums.{AllPass-from_list_all}
use Rattle.std.proofs.lemmas.Str.{IsUtf8-from_ascii}
use Rattle.std.proofs.lemmas.Str.Ascii.{IsAscii-from_all}
use Rattle.hex.specs.Hex.{lower_digits}
use Rattle.hex.proofs.HexLemmas.{IsAscii-encode_with}
use Rattle.macs_commands.proofs.secrets.digits.digits_of.Goals as goal

digits_are : IsAscii lower_digits
digits_are = IsAscii-from_all lower_digits (λ k d within.
    let small = leb-true (get_or lower_digits k d) 127
    (AllPass-from_list_all (λ b. nat_le b 127) lower_digits refl k d within) in
    omega (arith, small))

pub from_utf8_unchecked-requires : goal.from_utf8_unchecked-requires
from_utf8_unchecked-requires c =
    let ascii = IsAscii-encode_with lower_digits c.args.octets.now digits_are in
    let len : length c.write_digits.new.digits ≡ c.in_ok-digits.digits.len = omega arith in
    let text = IsUtf8-from_ascii _ (rw (← c.write_digits.ensures) at ascii) in
    rw (take_at c.write_digits.new.digits (drop (length c.write_digits.new.digits) c.in_ok-digits.digits.items)
    c.in_ok-digits.digits.len len) text
