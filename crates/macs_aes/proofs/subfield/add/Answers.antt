use Rattle.std.proofs.Common.{◌∙◌, ap₂, refl, [], ◌∷◌, bit_xor}
use Rattle.macs_aes.specs.Blocks.{subfield_basis}
use Rattle.macs_aes.proofs.Circuit.{octet_of, octet_was, xor_each, xor_octets}
use Rattle.macs_aes.proofs.subfield.add.Goals as goal

pub returns : goal.returns
unfolding xor_each
returns g c = λ i j h k.
    let x = c.x.inside in
    let y = c.y.inside in
    let xs = x.p0 ∷ x.p1 ∷ x.p2 ∷ x.p3 ∷ [] in
    let ys = y.p0 ∷ y.p1 ∷ y.p2 ∷ y.p3 ∷ [] in
    octet_of g.row.N subfield_basis (xor_each xs ys) i j h k
    ∙ xor_octets g.row.N subfield_basis xs ys i j refl c.x.invariant c.y.invariant h
    ∙ ap₂ bit_xor (octet_was g.row.N subfield_basis xs c.args.x.now i j c.x.view_is h k)
    (octet_was g.row.N subfield_basis ys c.args.y.now i j c.y.view_is h k)
