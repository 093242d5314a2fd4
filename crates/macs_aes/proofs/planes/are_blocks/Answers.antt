use Rattle.std.proofs.Common.{[], ◌∷◌, refl}
use Rattle.macs_aes.proofs.EachBlock.{planes_blocks}
use Rattle.macs_aes.proofs.planes.are_blocks.Goals as goal

pub returns : goal.returns
returns g c =
    let x = c.x.inside in
    planes_blocks g.row.N (x.p0 ∷ x.p1 ∷ x.p2 ∷ x.p3 ∷ x.p4 ∷ x.p5 ∷ x.p6 ∷ x.p7 ∷ []) c.args.x.now refl c.x.view_is
