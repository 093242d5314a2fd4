use Rattle.std.proofs.Common.{◌∙◌, arith}
use Rattle.std.proofs.lemmas.List.{length-set}
use Rattle.macs_aes.proofs.Loaded.{blocks_more, plane_more}
use Rattle.macs_aes.proofs.bits.plane.Goals as goal

pub loop-i-preserved : goal.loop-i-preserved
loop-i-preserved g c = record {
  size = length-set c.loop-i.lanes c.loop-i.i c.bit_word.result ∙ c.loop-i.invariant.size;
  are = blocks_more c.args.blocks.now c.loop-i.i c.octets_of.result c.loop-i.invariant.are c.octets_of.ensures.octets
      c.octets_of.ensures.block;
  done = plane_more c.loop-i.lanes c.octets_of.result c.loop-i.i c.bit_word.result c.args.mask c.args.blocks.now
      (omega arith) c.loop-i.invariant.done c.octets_of.ensures.octets c.bit_word.ensures;
}
