use Rattle.macs_aes.proofs.Loaded.{blocks_whole, loaded}
use Rattle.macs_aes.proofs.planes.Planes.load.Goals as goal

pub returns : goal.returns
returns g c =
    let blocks = c.args.blocks.now in
    loaded g.row.N c.plane.result c.plane-2.result c.plane-3.result c.plane-4.result c.plane-5.result c.plane-6.result
    c.plane-7.result c.plane-8.result blocks
    (blocks_whole g.row.N blocks c.told-blocks c.plane.ensures.blocks)
    c.plane.ensures.bits c.plane-2.ensures.bits c.plane-3.ensures.bits c.plane-4.ensures.bits c.plane-5.ensures.bits
    c.plane-6.ensures.bits c.plane-7.ensures.bits c.plane-8.ensures.bits
