use Rattle.std.proofs.Common.{◌+◌, ◌-◌, ◌*◌, ◌<◌, ◌∙◌, ℕ, ap, ap₂, arith, bit_xor, get_or, sym}
use Rattle.std.proofs.lemmas.Simd.{get_or-replicate}
use Rattle.macs_gf.specs.Gf128.{times_power}
use Rattle.macs_gf.specs.Ghash.{block_at}
use Rattle.macs_ghash.specs.Tables.{octets_in, row_sum, row_term, stepped}
use Rattle.macs_ghash.proofs.OctetSteps.{block_equal}
use Rattle.macs_ghash.proofs.TableProducts.{all_products, none_yet, step_taken, tail_taken}
use Rattle.macs_ghash.proofs.StringBlocks.{each_below, octet_of_block_at}
use Rattle.macs_ghash.specs.declared.octets.TheConstants.{OCTETS, SIXTEENS}
use Rattle.macs_ghash.proofs.tables.products.Goals as goal

pub loop-k-init : goal.loop-k-init
loop-k-init over c =
    record {
      sums =
          λ g h. none_yet _ _ (row_term over.row.N c.args.tables.now c.all_left-left.result c.all_right-right.result g)
          (λ j k. get_or-replicate OCTETS (16 * g + j) 0 0 (omega arith))
          (λ j k. get_or-replicate OCTETS (16 * g + j) 0 0 (omega arith));
      tail = λ g j h k l. get_or-replicate OCTETS (16 * g + j) 0 0 (omega arith);
    }

pub loop-k-preserved : goal.loop-k-preserved
loop-k-preserved over c =
    let held = c.loop-k.invariant in
    let k : ℕ = c.loop-k.k in
    let tables = c.args.tables.now in
    let left = c.all_left-left.result in
    let right = c.all_right-right.result in
    let e = c.next_sums-sums.ensures in
    record {
      sums = λ g h.
          step_taken (octets_in c.loop-k.sums.low g) (octets_in c.loop-k.sums.high g)
          (octets_in c.next_sums-sums.result.low g) (octets_in c.next_sums-sums.result.high g)
          (octets_in c.found_in-at_left.result g) (octets_in c.found_in-at_right.result g)
          (row_term over.row.N tables left right g) k (omega arith)
          (λ j l. e.low g j h l) (λ j l. e.high g j h l) (λ j l m. held.tail g j h l m) (held.sums g h)
          (ap₂ (λ (a b : ℕ). bit_xor a (times_power 4 b))
          (block_equal (row_sum over.row.N tables left g (15 - k)) (octets_in c.found_in-at_left.result g)
          (λ j l. sym (c.found_in-at_left.ensures g j h l)))
          (block_equal (row_sum over.row.N tables right g (15 - k)) (octets_in c.found_in-at_right.result g)
          (λ j l. sym (c.found_in-at_right.ensures g j h l))));
      tail = λ g j h l m. tail_taken (octets_in c.loop-k.sums.high g) (octets_in c.next_sums-sums.result.high g) _ k
          (λ j l. e.high g j h l) (λ j l m. held.tail g j h l m) j l m;
    }

pub returns : goal.returns
returns over c = λ powers are.
    let octets = c.args.octets.now in
    let small : (m : ℕ) → get_or octets m 0 < 256 = each_below 256 octets (omega arith) c.octets_in_range.ensures in
    ap₂ bit_xor c.number.ensures (c.overflow.ensures ∙ ap (times_power 128) c.number-2.ensures)
    ∙ all_products SIXTEENS over.row.N powers (block_at octets) c.args.tables.now c.all_left-left.result
    c.all_right-right.result (λ m. get_or octets m 0)
    (octets_in c.loop-k.sums.low) (octets_in c.loop-k.sums.high) are small c.all_left-left.ensures
    c.all_right-right.ensures
    (λ p g j h k l. octet_of_block_at octets (SIXTEENS * p + g) j (omega arith) small l)
    (λ p g h k. omega arith)
    (λ g h. c.loop-k.invariant.sums g h ∙ ap (stepped
    (row_term over.row.N c.args.tables.now c.all_left-left.result c.all_right-right.result g)) (omega arith))
