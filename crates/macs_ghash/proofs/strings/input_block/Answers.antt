use Rattle.std.proofs.Common.{◌-◌, ◌∙◌, ap, arith, sym}
use Rattle.std.specs.Int.{from_be_bytes, w128}
use Rattle.macs_ghash.proofs.HashInput.{input-first, input-last, input-second}
use Rattle.macs_ghash.proofs.strings.input_block.Goals as goal

pub returns-then-i-front : goal.returns-then-i-front
returns-then-i-front c = c.padded_block.ensures
    ∙ sym (input-first c.args.aad.now c.args.text.now c.args.i (omega arith))

pub returns-then-i-front-2 : goal.returns-then-i-front-2
returns-then-i-front-2 c =
    c.padded_block-then-i-front-2.ensures
    ∙ sym (input-second c.args.aad.now c.args.text.now c.args.i (c.args.i - c.div_ceil-front.result)
    (omega (arith, c.div_ceil-front.ensures)) (omega (arith, c.div_ceil-front.ensures, c.div_ceil.ensures)))

pub returns-else-i-front-2 : goal.returns-else-i-front-2
returns-else-i-front-2 c =
    ap (from_be_bytes w128) c.lengths_block.ensures
    ∙ sym (input-last c.args.aad.now c.args.text.now c.args.i (omega arith) (omega arith))
