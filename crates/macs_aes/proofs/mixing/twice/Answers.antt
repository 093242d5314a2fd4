use Rattle.std.proofs.Common.{◌∙◌, ap, refl, [], ◌∷◌}
use Rattle.macs_gf.specs.Gf256.{octet_product}
use Rattle.macs_aes.specs.Blocks.{octet_basis}
use Rattle.macs_aes.proofs.Circuit.{circuit, circuit_is, gate, octet_of, octet_was, pick, run}
use Rattle.macs_aes.proofs.Gates.{twice_gates, twice_outputs}
use Rattle.macs_aes.proofs.Tables.{twice_agrees, twice_of}
use Rattle.macs_aes.proofs.mixing.twice.Goals as goal

pub returns : goal.returns
unfolding circuit gate pick run twice_gates twice_outputs twice_of
returns g c = λ i j h k.
    let x = c.x.inside in
    let planes = x.p0 ∷ x.p1 ∷ x.p2 ∷ x.p3 ∷ x.p4 ∷ x.p5 ∷ x.p6 ∷ x.p7 ∷ [] in
    octet_of g.row.N octet_basis (circuit g.row.N twice_gates twice_outputs planes) i j h k
    ∙ circuit_is g.row.N octet_basis twice_gates twice_outputs twice_of 8 planes i j twice_agrees refl c.x.invariant h
    ∙ ap (octet_product 2) (octet_was g.row.N octet_basis planes c.args.x.now i j c.x.view_is h k)
