use Rattle.std.proofs.Common.{◌≡◌, ◌+◌, ◌*◌, ◌/◌, ◌∙◌, ℕ, ap, arith, get_or-take, length, length-take-le, refl, take}
use Rattle.std.proofs.Common.{w16}
use Rattle.std.proofs.lemmas.Simd.{below_from_Fits}
use Rattle.macs_planes.specs.Across.{octet_of_words}
use Rattle.macs_planes.proofs.Shuffles.{moved_octet, places_fit}
use Rattle.macs_planes.specs.declared.places.TheConstants.{LANES, OCTETS}
use Rattle.macs_planes.proofs.places.moved.Goals as goal

pub swizzle : goal.swizzle
swizzle c =
    let places = c.args.places.now in
    let size : length (take OCTETS places) ≡ 2 * LANES = length-take-le OCTETS places (omega arith) in
    places_fit LANES (take OCTETS places) refl size
    (λ m h. omega (arith, get_or-take OCTETS places m 0 (omega arith), c.requires m (omega arith)))

pub returns-clause-octets : goal.returns-clause-octets
returns-clause-octets c = λ m h.
    let places = c.args.places.now in
    let size : length (take OCTETS places) ≡ 2 * LANES = length-take-le OCTETS places (omega arith) in
    moved_octet LANES c.args.x (take OCTETS places) m refl (below_from_Fits w16 c.args.x c.fits-x.1) size
    (λ k l. omega (arith, get_or-take OCTETS places k 0 (omega arith), c.requires k (omega arith))) (omega arith)
    ∙ ap (λ (p : ℕ). octet_of_words c.args.x (16 * (m / 16) + p)) (get_or-take OCTETS places m 0 h)
