use Rattle.macs_aes.specs.Cipher.{mixed_octet, mix_columns}
use Rattle.macs_aes.specs.Rows.{below}
use Rattle.macs_aes.proofs.EachBlock.{each_block, mix_columns_is}
use Rattle.macs_aes.proofs.planes.Planes.mix_columns.Goals as goal

pub returns : goal.returns
returns g c = each_block g.row.N mix_columns (λ g j. mixed_octet (g j) (g (below 1 j)) (g (below 2 j)) (g (below 3 j)))
    c.mix.result c.args.self.now c.are_blocks-2.ensures c.are_blocks.ensures mix_columns_is c.mix.ensures
