use Rattle.std.proofs.Common.{◌∙◌, ℕ, ap₂, refl, [], ◌∷◌, ◌++◌, bit_xor}
use Rattle.macs_gf.specs.Gf256.{octet_product}
use Rattle.macs_aes.specs.Blocks.{octet_basis, subfield_basis}
use Rattle.macs_aes.proofs.Circuit.{are_joined, circuit, circuit_is_ones, gate, octet_of, octet_was, ones, pick, run}
use Rattle.macs_aes.specs.Tower.{affine, tower_root}
use Rattle.macs_aes.proofs.Gates.{affine_of_gates, affine_of_outputs}
use Rattle.macs_aes.proofs.Tables.{affine_agrees, affine_in}
use Rattle.macs_aes.proofs.sbox.affine_of.Goals as goal

pub returns : goal.returns
unfolding circuit gate pick run ones affine_of_gates affine_of_outputs affine_in
returns g c = λ i j h k.
    let e = c.e.inside in
    let f = c.f.inside in
    let es = e.p0 ∷ e.p1 ∷ e.p2 ∷ e.p3 ∷ [] in
    let fs = f.p0 ∷ f.p1 ∷ f.p2 ∷ f.p3 ∷ [] in
    octet_of g.row.N octet_basis
    (circuit g.row.N affine_of_gates affine_of_outputs ((es ++ fs) ++ ones g.row.N ∷ [])) i j h k
    ∙ circuit_is_ones g.row.N octet_basis affine_of_gates affine_of_outputs affine_in 8 (es ++ fs) i j affine_agrees
    refl (are_joined g.row.N es fs c.e.invariant c.f.invariant) h k
    ∙ ap₂ (λ (u w : ℕ). affine (bit_xor u (octet_product tower_root (bit_xor u w)))) (octet_was g.row.N subfield_basis
    es c.args.e.now i j c.e.view_is h k) (octet_was g.row.N subfield_basis fs c.args.f.now i j c.f.view_is h k)
