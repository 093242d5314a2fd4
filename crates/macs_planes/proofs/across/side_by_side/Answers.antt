use Rattle.std.proofs.Common.{◌+◌, ◌*◌, ◌/◌, ◌%◌, ◌<◌, ◌∙◌, ℕ, arith, get_or}
use Rattle.std.proofs.lemmas.Simd.{Each1-from_get_or}
use Rattle.macs_aes.specs.Blocks.{octet}
use Rattle.macs_planes.proofs.Octets.{octet_of_wider, octets_small}
use Rattle.macs_planes.specs.declared.places.TheConstants.{LANES, OCTETS}
use Rattle.macs_planes.proofs.across.side_by_side.Goals as goal

pub returns-clause-octets : goal.returns-clause-octets
returns-clause-octets c = λ m h.
    let blocks = c.args.blocks.now in
    let held = c.loop-m.invariant in
    let is : ℕ → ℕ = λ k. octet blocks (8 * (k / 16) + c.args.i) (k % 16) in
    let each : (k : ℕ) → get_or c.loop-m.octets k 0 < 256 =
    octets_small is c.loop-m.octets OCTETS held.size (λ k l. held.done k (omega arith))
    (λ k l. (held.whole k (omega arith)).1 (k % 16)) in
    octet_of_wider LANES c.loop-m.octets m held.size
    (Each1-from_get_or (λ v. v < 256) c.loop-m.octets 0 (λ k l. each k)) h each ∙ held.done m (omega arith)
