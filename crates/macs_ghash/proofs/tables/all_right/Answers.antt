use Rattle.std.proofs.Common.{◌≡◌, ◌+◌, ◌*◌, ◌%◌, ◌<◌, ◌∙◌, ℕ, [], ap, arith, drop, get_or, get_or-take}
use Rattle.std.proofs.lemmas.List.{get_or-drop, length-set}
use Rattle.macs_ghash.specs.Tables.{octets_in}
use Rattle.macs_ghash.proofs.TableProducts.{part_more}
use Rattle.macs_ghash.specs.declared.octets.TheConstants.{OCTETS, SIXTEENS}
use Rattle.macs_ghash.proofs.tables.all_right.Goals as goal

pub loop-p-preserved : goal.loop-p-preserved
loop-p-preserved over c =
    let octets = c.args.octets.now in
    let held = c.loop-p.invariant in
    let q : ℕ = c.loop-p.p in
    let within = held.size in
    record {
      size = length-set c.loop-p.parts q _ ∙ held.size;
      each = part_more (λ p v. (g j : ℕ) → g < SIXTEENS → j < 16 → octets_in v g j
          ≡ get_or octets (16 * (SIXTEENS * p + g) + j) 0 % 16) [] c.loop-p.parts q _ (omega (arith, within)) held.each
          (λ g j h k.
          let place : OCTETS * q + (16 * g + j) ≡ 16 * (SIXTEENS * q + g) + j = omega arith in
          c.right_halves.ensures g j h k
          ∙ ap (λ (o : ℕ). o % 16) (get_or-take OCTETS (drop (OCTETS * q) octets) (16 * g + j) 0 (omega arith)
          ∙ get_or-drop (OCTETS * q) octets (16 * g + j) 0 ∙ ap (λ (k : ℕ). get_or octets k 0) place));
    }
