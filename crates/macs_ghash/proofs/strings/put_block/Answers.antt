use Rattle.std.proofs.Common.{◌+◌, ◌*◌, arith, sym}
use Rattle.macs_gf.proofs.GhashBlocks.{block_at-is}
use Rattle.macs_ghash.proofs.StringBlocks.{block_same}
use Rattle.macs_ghash.proofs.strings.put_block.Goals as goal

pub returns-clause-block : goal.returns-clause-block
returns-clause-block over c =
    let held = c.loop-j.invariant in
    sym (block_at-is c.loop-j.octets c.args.block.now c.args.k c.told-block (omega (arith, held.size))
    (λ j h. sym (held.done j (omega arith))))

pub returns-clause-others : goal.returns-clause-others
returns-clause-others over c = λ l h other.
    let held = c.loop-j.invariant in
    block_same c.loop-j.octets c.args.octets.now l (omega (arith, held.size)) (omega (arith, c.told-octets))
    (λ j k. held.others (16 * l + j) (λ e. other (omega (arith, e))))
