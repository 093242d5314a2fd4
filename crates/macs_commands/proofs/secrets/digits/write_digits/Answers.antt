use Rattle.std.proofs.Common.{ℕ, ◌∙◌, ap, arith, slice_index}
use Rattle.std.proofs.lemmas.Nat.{and_mask}
use Rattle.hex.specs.Hex.{lower_digits}
use Rattle.hex.proofs.Pairs.{encode_done, encode_step}
use Rattle.macs_commands.proofs.secrets.digits.write_digits.Goals as goal

pub loop-i-preserved : goal.loop-i-preserved
loop-i-preserved c =
    let octet : ℕ = slice_index c.args.octets.now c.loop-i.i in
    encode_step lower_digits c.args.octets.now c.loop-i.digits c.loop-i.i _ _ (omega arith) (omega arith)
    c.digit_of.ensures
    (c.digit_of-in-loop-i.ensures ∙ ap (λ (k : ℕ). slice_index lower_digits k) (and_mask octet 4)) c.loop-i.invariant

pub returns : goal.returns
returns c =
    encode_done lower_digits _ _ c.loop-i.i (omega arith) (omega arith) c.loop-i.invariant
