use Rattle.std.proofs.Common.{◌≡◌, ◌<◌, [], ◌∷◌, refl, arith}
use Rattle.macs_aes.specs.Blocks.{octet, octet_basis, octet_in}
use Rattle.macs_aes.proofs.Circuit.{octet_was}
use Rattle.macs_aes.proofs.Inverse.{octet_small, tower_steps}
use Rattle.macs_aes.proofs.sbox.s_boxes.Goals as goal

pub returns : goal.returns
returns g c = λ i j h k.
    let x = c.x.inside in
    let planes = x.p0 ∷ x.p1 ∷ x.p2 ∷ x.p3 ∷ x.p4 ∷ x.p5 ∷ x.p6 ∷ x.p7 ∷ [] in
    let was : octet_in octet_basis planes i j ≡ octet c.args.x.now i j =
    octet_was g.row.N octet_basis planes c.args.x.now i j c.x.view_is h k in
    let small : octet_in octet_basis planes i j < 256 = octet_small planes i j refl in
    let below : octet c.args.x.now i j < 256 = omega arith in
    tower_steps (octet c.args.x.now i j) (octet c.high_part-high.result i j) (octet c.low_part-low.result i j)
    (octet c.add-both.result i j) (octet c.scaled_square.result i j)
    (octet c.product.result i j) (octet c.add-norm.result i j) (octet c.inverse-norm14.result i j)
    (octet c.product-2.result i j) (octet c.product-3.result i j) (octet c.affine_of.result i j) below
    (c.high_part-high.ensures i j h k) (c.low_part-low.ensures i j h k) (c.add-both.ensures i j h k)
    (c.scaled_square.ensures i j h k)
    (c.product.ensures i j h k) (c.add-norm.ensures i j h k) (c.inverse-norm14.ensures i j h k)
    (c.product-2.ensures i j h k) (c.product-3.ensures i j h k) (c.affine_of.ensures i j h k)
