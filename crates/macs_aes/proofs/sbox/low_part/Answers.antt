use Rattle.std.proofs.Common.{◌∙◌, ap, refl, [], ◌∷◌}
use Rattle.macs_aes.specs.Blocks.{octet_basis, subfield_basis}
use Rattle.macs_aes.specs.Tower.{low_of}
use Rattle.macs_aes.proofs.Circuit.{circuit, circuit_is, gate, octet_of, octet_was, pick, run}
use Rattle.macs_aes.proofs.Gates.{low_gates, low_outputs}
use Rattle.macs_aes.proofs.Tables.{low_agrees, low_in}
use Rattle.macs_aes.proofs.sbox.low_part.Goals as goal

pub returns : goal.returns
unfolding circuit gate pick run low_gates low_outputs low_in
returns g c = λ i j h k.
    let x = c.x.inside in
    let planes = x.p0 ∷ x.p1 ∷ x.p2 ∷ x.p3 ∷ x.p4 ∷ x.p5 ∷ x.p6 ∷ x.p7 ∷ [] in
    octet_of g.row.N subfield_basis (circuit g.row.N low_gates low_outputs planes) i j h k
    ∙ circuit_is g.row.N subfield_basis low_gates low_outputs low_in 8 planes i j low_agrees refl c.x.invariant h
    ∙ ap low_of (octet_was g.row.N octet_basis planes c.args.x.now i j c.x.view_is h k)
