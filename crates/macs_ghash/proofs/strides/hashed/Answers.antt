use Rattle.std.proofs.Common.{◌≡◌, ◌+◌, ◌-◌, ◌*◌, ◌/◌, ◌≤◌, ◌∙◌, ℕ, List, ap, arith, bit_xor, sym, take}
use Rattle.std.proofs.lemmas.List.{take_all}
use Rattle.macs_gf.specs.Ghash.{block_at, blocks_of, ghash_from, hash_input, subkey_power}
use Rattle.macs_ghash.proofs.HashInput.{input-block, length-input_blocks}
use Rattle.macs_ghash.proofs.StrideSums.{first_stride, later_stride, stride_fits, stride_more_taken}
use Rattle.macs_ghash.specs.declared.octets.TheConstants.{SIXTEENS}
use Rattle.macs_ghash.proofs.strides.hashed.Goals as goal

pub loop-stride-init : goal.loop-stride-init
loop-stride-init over c =
    let a = c.args.aad.now in
    let d = c.args.text.now in
    let bs : List ℕ = blocks_of (hash_input a d) in
    let n : ℕ = SIXTEENS * over.row.N in
    let o = c.behind_zeros.result in
    let e = c.behind_zeros.ensures in
    let first : ℕ = c.first_of-first.result in
    let is = c.first_of-first.ensures in
    record {
      on = omega arith;
      state = λ h k are.
          c.products-state.ensures (λ i. subkey_power h (SIXTEENS * over.row.N - i)) are
          ∙ first_stride h (block_at o) bs n first k (omega (arith, is.few))
          (omega (arith, is.whole, length-input_blocks a d)) (λ l below. e.zeros l (omega arith))
          (λ j below.
          let place : n - first + j ≡ over.row.M / 16 - first + j = omega arith in
          ap (block_at o) place ∙ e.blocks j below ∙ sym (input-block a d j (omega (arith, is.whole))));
    }

pub loop-stride-preserved : goal.loop-stride-preserved
loop-stride-preserved over c =
    let a = c.args.aad.now in
    let d = c.args.text.now in
    let bs : List ℕ = blocks_of (hash_input a d) in
    let n : ℕ = SIXTEENS * over.row.N in
    let size : ℕ = over.row.M / 16 in
    let first : ℕ = c.first_of-first.result in
    let taken : ℕ = c.loop-stride.taken in
    let state : ℕ = c.loop-stride.state in
    let held = c.loop-stride.invariant in
    let new = c.add_state.new.octets in
    let fits : taken + size ≤ c.args.count = stride_fits first size c.loop-stride._stride
    ((c.args.count - first) / size) c.args.count taken (omega arith) c.first_of-first.ensures.whole held.on in
    let here : taken + 0 ≡ taken = omega arith in
    let on : taken + n ≡ taken + size = omega arith in
    let b = c.input_blocks-octets.ensures in
    record {
      on = stride_more_taken first size c.loop-stride._stride taken held.on;
      state = λ h k are.
          c.products-state-in-loop-stride.ensures (λ i. subkey_power h (SIXTEENS * over.row.N - i)) are
          ∙ later_stride h state (block_at new) bs taken n k (omega arith)
          (omega (arith, fits, length-input_blocks a d)) (held.state h k are)
          (c.add_state.ensures.first ∙ ap (bit_xor state) (b 0 (omega arith) ∙ ap (block_at (hash_input a d)) here
          ∙ sym (input-block a d taken (omega (arith, fits)))))
          (λ j below other. c.add_state.ensures.others j (omega arith) other ∙ b j (omega arith)
          ∙ sym (input-block a d (taken + j) (omega (arith, fits))))
          ∙ ap (λ (i : ℕ). ghash_from h 0 (take i bs)) on;
    }

pub returns : goal.returns
returns over c = λ h k are.
    let a = c.args.aad.now in
    let d = c.args.text.now in
    let bs : List ℕ = blocks_of (hash_input a d) in
    let size : ℕ = over.row.M / 16 in
    let first : ℕ = c.first_of-first.result in
    let taken : ℕ = c.loop-stride.taken in
    let end : c.loop-stride._stride ≡ (c.args.count - first) / size = omega arith in
    let all : taken ≡ c.args.count = c.loop-stride.invariant.on ∙ ap (λ (t : ℕ). first + size * t) end
    ∙ c.first_of-first.ensures.whole in
    c.loop-stride.invariant.state h k are
    ∙ ap (ghash_from h 0) (take_all taken bs (omega (arith, all, length-input_blocks a d)))
