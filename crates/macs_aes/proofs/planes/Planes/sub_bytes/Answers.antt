use Rattle.macs_aes.specs.Cipher.{sub_bytes}
use Rattle.macs_aes.specs.SBox.{s_box}
use Rattle.macs_aes.proofs.EachBlock.{each_block, sub_bytes_is}
use Rattle.macs_aes.proofs.planes.Planes.sub_bytes.Goals as goal

pub returns : goal.returns
returns g c = each_block g.row.N sub_bytes (λ g j. s_box (g j)) c.s_boxes.result c.args.self.now c.are_blocks-2.ensures
    c.are_blocks.ensures sub_bytes_is c.s_boxes.ensures
