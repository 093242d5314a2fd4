use Rattle.std.proofs.Common.{◌≡◌, ◌+◌, ◌*◌, ◌<◌, ◌∙◌, ℕ, [], ap, ap₂, arith, bit_xor, get_or}
use Rattle.std.specs.Int.{bit_at}
use Rattle.std.proofs.lemmas.List.{length-set}
use Rattle.macs_ghash.specs.Tables.{nibble_product, octet_from_left, octets_in}
use Rattle.macs_ghash.proofs.Filled.{nibble_octet, powers_on}
use Rattle.macs_ghash.proofs.TableProducts.{part_more}
use Rattle.macs_ghash.specs.declared.octets.TheConstants.{SIXTEENS}
use Rattle.macs_ghash.proofs.filling.fill.Goals as goal

pub loop-b-preserved : goal.loop-b-preserved
loop-b-preserved over c =
    let held = c.loop-b.invariant in
    let within = held.size in
    let powers = c.args.powers.now in
    let b : ℕ = c.loop-b.b in
    record {
      size = length-set c.loop-b.tables b c.row_of.result ∙ held.size;
      each = part_more (λ b v. (p g n : ℕ) → p < over.row.N → g < SIXTEENS → n < 16
          → octets_in (get_or v p []) g n ≡ octet_from_left (nibble_product n (get_or powers (SIXTEENS * p + g) 0)) b)
          [] c.loop-b.tables b c.row_of.result (omega (arith, within)) held.each
          (λ p g n h k l.
          let w : ℕ = get_or powers (SIXTEENS * p + g) 0 in
          let here : SIXTEENS * p + g < over.row.P = omega arith in
          let on = powers_on powers c.all_further_by_x-second.result c.all_further_by_x-third.result
          c.all_further_by_x-fourth.result (SIXTEENS * p + g)
          (c.all_further_by_x-second.ensures (SIXTEENS * p + g) here) (c.all_further_by_x-third.ensures
          (SIXTEENS * p + g) here) (c.all_further_by_x-fourth.ensures (SIXTEENS * p + g) here) in
          let low : b < 16 = omega arith in
          let o = λ (m v : ℕ). bit_at n m * octet_from_left v b in
          c.row_of.ensures p g n h k l
          ∙ ap₂ bit_xor (ap₂ bit_xor
          (ap₂ bit_xor (ap (λ (v : ℕ). bit_at n 3 * v) (c.all_octets-x0.ensures p g b h k low) ∙ ap (o 3) on.0)
          (ap (λ (v : ℕ). bit_at n 2 * v) (c.all_octets-x1.ensures p g b h k low) ∙ ap (o 2) on.1.0))
          (ap (λ (v : ℕ). bit_at n 1 * v) (c.all_octets-x2.ensures p g b h k low) ∙ ap (o 1) on.1.1.0))
          (ap (λ (v : ℕ). bit_at n 0 * v) (c.all_octets-x3.ensures p g b h k low) ∙ ap (o 0) on.1.1.1)
          ∙ nibble_octet n w b);
    }
