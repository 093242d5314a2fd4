use Rattle.std.proofs.Common.{◌∙◌, ℕ, ap, refl, [], ◌∷◌}
use Rattle.macs_gf.specs.Gf256.{octet_product}
use Rattle.macs_aes.specs.Blocks.{subfield_basis}
use Rattle.macs_aes.specs.Tower.{tower_unit}
use Rattle.macs_aes.proofs.Circuit.{circuit, circuit_is, gate, octet_of, octet_was, pick, run}
use Rattle.macs_aes.proofs.Gates.{scaled_gates, scaled_outputs}
use Rattle.macs_aes.proofs.Tables.{scaled_agrees, scaled_of}
use Rattle.macs_aes.proofs.subfield.scaled_square.Goals as goal

pub returns : goal.returns
unfolding circuit gate pick run scaled_gates scaled_outputs scaled_of
returns g c = λ i j h k.
    let x = c.x.inside in
    let planes = x.p0 ∷ x.p1 ∷ x.p2 ∷ x.p3 ∷ [] in
    octet_of g.row.N subfield_basis (circuit g.row.N scaled_gates scaled_outputs planes) i j h k
    ∙ circuit_is g.row.N subfield_basis scaled_gates scaled_outputs scaled_of 4 planes i j scaled_agrees refl
    c.x.invariant h
    ∙ ap (λ (o : ℕ). octet_product tower_unit (octet_product o o))
    (octet_was g.row.N subfield_basis planes c.args.x.now i j c.x.view_is h k)
