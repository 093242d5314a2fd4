use Rattle.std.proofs.Common.{◌+◌, ◌-◌, ◌*◌, ◌∙◌, ℕ, List, ap, arith, drop, get_or, get_or-take, w16}
use Rattle.std.specs.Simd.Lanes.{digits_l, number_l}
use Rattle.std.proofs.lemmas.List.{get_or-drop}
use Rattle.std.proofs.lemmas.Simd.{below_from_Fits}
use Rattle.macs_planes.proofs.Octets.{octet_of_narrower}
use Rattle.macs_planes.specs.declared.places.TheConstants.{LANES}
use Rattle.macs_planes.proofs.across.sixteen_of.Goals as goal

pub returns-clause-octets : goal.returns-clause-octets
returns-clause-octets c = λ j h.
    let octets : List ℕ = digits_l 256 (2 * LANES) (number_l 65536 c.args.words) in
    let g : ℕ = c.args.g in
    ap (λ b. get_or b j 0) c.copy_from_slice.ensures.after
    ∙ get_or-take (16 * g + 16 - 16 * g) (drop (16 * g) octets) j 0 (omega arith) ∙ get_or-drop (16 * g) octets j 0
    ∙ octet_of_narrower LANES c.args.words (16 * g + j) (below_from_Fits w16 c.args.words c.fits-words.1)
    (omega (arith, c.requires))
