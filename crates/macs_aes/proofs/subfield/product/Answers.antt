use Rattle.std.proofs.Common.{◌∙◌, ap₂, refl, [], ◌∷◌, ◌++◌}
use Rattle.macs_gf.specs.Gf256.{octet_product}
use Rattle.macs_aes.specs.Blocks.{subfield_basis}
use Rattle.macs_aes.proofs.Circuit.{are_joined, circuit, circuit_is, gate, octet_of, octet_was, pick, run}
use Rattle.macs_aes.proofs.Gates.{product_gates, product_outputs}
use Rattle.macs_aes.proofs.Tables.{product_agrees, product_of}
use Rattle.macs_aes.proofs.subfield.product.Goals as goal

pub returns : goal.returns
unfolding circuit gate pick run product_gates product_outputs product_of
returns g c = λ i j h k.
    let x = c.x.inside in
    let y = c.y.inside in
    let xs = x.p0 ∷ x.p1 ∷ x.p2 ∷ x.p3 ∷ [] in
    let ys = y.p0 ∷ y.p1 ∷ y.p2 ∷ y.p3 ∷ [] in
    octet_of g.row.N subfield_basis (circuit g.row.N product_gates product_outputs (xs ++ ys)) i j h k
    ∙ circuit_is g.row.N subfield_basis product_gates product_outputs product_of 8 (xs ++ ys) i j product_agrees refl
    (are_joined g.row.N xs ys c.x.invariant c.y.invariant) h
    ∙ ap₂ octet_product (octet_was g.row.N subfield_basis xs c.args.x.now i j c.x.view_is h k)
    (octet_was g.row.N subfield_basis ys c.args.y.now i j c.y.view_is h k)
