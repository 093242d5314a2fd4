use Rattle.macs_aes.specs.Cipher.{shift_rows}
use Rattle.macs_aes.specs.Rows.{shifted}
use Rattle.macs_aes.proofs.EachBlock.{each_block, shift_rows_is}
use Rattle.macs_aes.proofs.planes.Planes.shift_rows.Goals as goal

pub returns : goal.returns
returns g c = each_block g.row.N shift_rows (λ g j. g (shifted j)) c.shift.result c.args.self.now c.are_blocks-2.ensures
    c.are_blocks.ensures shift_rows_is c.shift.ensures
