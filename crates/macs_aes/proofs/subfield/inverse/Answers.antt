use Rattle.std.proofs.Common.{◌∙◌, ap, refl, [], ◌∷◌}
use Rattle.macs_aes.specs.Blocks.{subfield_basis}
use Rattle.macs_aes.specs.Tower.{fourteenth}
use Rattle.macs_aes.proofs.Circuit.{circuit, circuit_is, gate, octet_of, octet_was, pick, run}
use Rattle.macs_aes.proofs.Gates.{inverse_gates, inverse_outputs}
use Rattle.macs_aes.proofs.Tables.{inverse_agrees, inverse_of}
use Rattle.macs_aes.proofs.subfield.inverse.Goals as goal

pub returns : goal.returns
unfolding circuit gate pick run inverse_gates inverse_outputs inverse_of
returns g c = λ i j h k.
    let x = c.x.inside in
    let planes = x.p0 ∷ x.p1 ∷ x.p2 ∷ x.p3 ∷ [] in
    octet_of g.row.N subfield_basis (circuit g.row.N inverse_gates inverse_outputs planes) i j h k
    ∙ circuit_is g.row.N subfield_basis inverse_gates inverse_outputs inverse_of 4 planes i j inverse_agrees refl
    c.x.invariant h
    ∙ ap fourteenth (octet_was g.row.N subfield_basis planes c.args.x.now i j c.x.view_is h k)
