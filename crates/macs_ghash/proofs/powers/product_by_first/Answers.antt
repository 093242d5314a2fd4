use Rattle.std.proofs.Common.{◌≡◌, ◌∙◌, ℕ, ap, arith, bit_xor}
use lib.Bits.{xor_zero_r}
use Rattle.macs_gf.specs.Ghash.{block_at}
use Rattle.macs_ghash.proofs.StringBlocks.{zero_block}
use Rattle.macs_ghash.proofs.StrideSums.{first_of_two}
use Rattle.macs_ghash.proofs.powers.product_by_first.Goals as goal

pub returns : goal.returns
returns c = λ powers are.
    let o = c.add_state.new.octets in
    let b : ℕ = c.args.block in
    let first : block_at o 0 ≡ b = c.add_state.ensures.first ∙ ap (bit_xor b) (zero_block 32 0 (omega arith))
    ∙ xor_zero_r b in
    let second : block_at o 1 ≡ 0 = c.add_state.ensures.others 1 (omega arith) (λ e. absurd (omega (arith, e)))
    ∙ zero_block 32 1 (omega arith) in
    c.products.ensures powers are ∙ first_of_two (block_at o) powers b first second
