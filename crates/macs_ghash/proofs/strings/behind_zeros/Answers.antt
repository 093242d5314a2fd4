use Rattle.std.proofs.Common.{◌/◌, ◌-◌, ◌∙◌, arith}
use Rattle.macs_gf.specs.Ghash.{block_at, hash_input}
use Rattle.macs_ghash.proofs.HashInput.{block_more_behind}
use Rattle.macs_ghash.proofs.StringBlocks.{zero_block}
use Rattle.macs_ghash.proofs.strings.behind_zeros.Goals as goal

pub loop-k-init : goal.loop-k-init
loop-k-init over c = record {
  zeros = λ j h. zero_block over.row.M j (omega arith);
  done = λ j h. absurd (omega arith);
}

pub loop-k-preserved : goal.loop-k-preserved
loop-k-preserved over c =
    let held = c.loop-k.invariant in
    record {
      zeros = λ j h. c.put_block.ensures.others j (omega arith) (λ e. absurd (omega (arith, e))) ∙ held.zeros j h;
      done = block_more_behind (block_at c.loop-k.octets) (block_at c.put_block.new.octets) (block_at (hash_input
          c.args.aad.now c.args.text.now)) (over.row.M / 16) (over.row.M / 16 - c.args.count) c.loop-k.k (omega arith)
          held.done (c.put_block.ensures.block ∙ c.input_block.ensures)
          (λ l below other. c.put_block.ensures.others l (omega arith) other);
    }
