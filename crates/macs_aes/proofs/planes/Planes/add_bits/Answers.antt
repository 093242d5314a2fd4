use Rattle.std.proofs.Common.{◌∙◌, ap, bit_xor}
use Rattle.macs_aes.specs.Cipher.{xor_tables}
use Rattle.macs_aes.specs.Blocks.{octet}
use Rattle.macs_aes.specs.RoundKeys.{octet_in_words, octets_in_words}
use Rattle.macs_aes.proofs.EachBlock.{each_block}
use Rattle.macs_aes.proofs.BitTests.{xor_words_is}
use Rattle.macs_aes.proofs.planes.Planes.add_bits.Goals as goal

pub returns : goal.returns
returns g c =
    let words = c.args.key.now in
    each_block g.row.N (λ s. xor_tables s (octets_in_words words)) (λ f j. bit_xor (f j) (octet_in_words words j))
    c.xor.result c.args.self.now c.are_blocks-2.ensures c.are_blocks.ensures (xor_words_is words)
    (λ i j h k. c.xor.ensures i j h k ∙ ap (bit_xor (octet c.args.self.now i j)) (c.key_planes.ensures i j h k))
