use Rattle.std.proofs.Common.{◌≡◌, ◌+◌, ◌*◌, ◌<◌, ◌∙◌, ℕ, List, ap, ap₂, arith, bit_xor, get_or, get_or-take, length}
use Rattle.std.proofs.Common.{inl, inr}
use Rattle.std.proofs.lemmas.Bool.{cases_lt}
use Rattle.std.proofs.lemmas.Simd.{get_or-put_chunk_above, get_or-put_chunk_at, length-put_chunk}
use Rattle.std.specs.Simd.Lanes.{put_chunk}
use lib.Bits.{xor_zero_r}
use Rattle.macs_ghash.specs.Tables.{octets_in}
use Rattle.macs_ghash.proofs.StringBlocks.{block_same, each_below, state_added}
use Rattle.macs_ghash.specs.declared.octets.TheConstants.{OCTETS, SIXTEENS}
use Rattle.macs_ghash.proofs.strides.add_state.Goals as goal

pub returns-clause-first : goal.returns-clause-first
returns-clause-first over c =
    let old : List ℕ = c.args.octets.now in
    let sums : List ℕ = c.sum-sums.result in
    let new : List ℕ = put_chunk 0 old sums in
    let size = c.told-octets in
    let long = c.sum-sums.known-lanes in
    let at : (m : ℕ) → m < OCTETS → get_or new m 0 ≡ get_or sums m 0 =
    λ m h.
    let here : m ≡ 0 + m = omega arith in
    ap (λ (k : ℕ). get_or new k 0) here
    ∙ get_or-put_chunk_at 0 old sums m 0 (omega (arith, long)) (omega (arith, long, size)) in
    state_added old new c.args.state (omega (arith, size)) (omega (arith, size, length-put_chunk 0 old sums))
    (each_below 256 old (omega arith) c.octets_in_range.ensures)
    (each_below 256 new (omega arith) c.octets_in_range-2.ensures) (omega arith)
    (λ j h. at (16 * 0 + j) (omega arith)
    ∙ c.sum-sums.ensures 0 j (omega arith) h
    ∙ ap₂ bit_xor (get_or-take OCTETS old (16 * 0 + j) 0 (omega arith)) (c.octets_of_state.ensures.first j h))

pub returns-clause-others : goal.returns-clause-others
returns-clause-others over c = λ l h other.
    let old : List ℕ = c.args.octets.now in
    let sums : List ℕ = c.sum-sums.result in
    let new : List ℕ = put_chunk 0 old sums in
    let size = c.told-octets in
    let long = c.sum-sums.known-lanes in
    let at : (m : ℕ) → m < OCTETS → get_or new m 0 ≡ get_or sums m 0 =
    λ m h.
    let here : m ≡ 0 + m = omega arith in
    ap (λ (k : ℕ). get_or new k 0) here
    ∙ get_or-put_chunk_at 0 old sums m 0 (omega (arith, long)) (omega (arith, long, size)) in
    block_same new old l (omega (arith, size, length-put_chunk 0 old sums)) (omega (arith, size))
    (λ j k. elim (cases_lt l SIXTEENS) [
      | inl lt ↦
          at (16 * l + j) (omega arith)
          ∙ c.sum-sums.ensures l j lt k
          ∙ ap₂ bit_xor (get_or-take OCTETS old (16 * l + j) 0 (omega arith))
          (c.octets_of_state.ensures.rest l j (omega (arith, other)) lt k)
          ∙ xor_zero_r (get_or old (16 * l + j) 0)
      | inr ge ↦ get_or-put_chunk_above 0 old sums (16 * l + j) 0 (omega (arith, long))
    ])
