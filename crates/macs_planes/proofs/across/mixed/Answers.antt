use Rattle.std.proofs.Common.{◌≡◌, ◌+◌, ◌*◌, ◌/◌, ◌%◌, ◌<◌, ◌∙◌, ℕ, ap, ap₂, arith, refl, subst, sym}
use Rattle.macs_planes.specs.Across.{octet_at, row_below}
use Rattle.macs_planes.proofs.AcrossLanes.{bit_within, lane_within, sixteen_within, steps_mixed}
use Rattle.macs_planes.proofs.Shuffles.{after_place, in_sixteen, next_place, row_below-lt, row_below_next, same_sixteen}
use Rattle.macs_planes.specs.declared.places.TheConstants.{LANES}
use Rattle.macs_planes.proofs.across.mixed.Goals as goal

pub moved_each-next-requires : goal.moved_each-next-requires
moved_each-next-requires c = λ m h.
    subst (λ (p : ℕ). p < 16) (sym (next_place c.args.turns m c.requires h)) (row_below-lt c.args.turns 1 (m % 16))

pub moved_each-requires : goal.moved_each-requires
moved_each-requires c = λ m h.
    subst (λ (p : ℕ). p < 16) (sym (after_place c.args.turns m c.requires h)) (row_below-lt c.args.turns 2 (m % 16))

pub returns : goal.returns
returns c = λ m n h k.
    let x = c.args.x.now in
    let t : ℕ = c.args.turns in
    let one : ℕ = 16 * (m / 16) + row_below t 1 (m % 16) in
    let two : ℕ = 16 * (m / 16) + row_below t 2 (m % 16) in
    let three : ℕ = 16 * (m / 16) + row_below t 3 (m % 16) in
    let within_one : one < 2 * LANES =
    sixteen_within LANES m (row_below t 1 (m % 16)) refl h (row_below-lt t 1 (m % 16)) in
    let within : two < 2 * LANES = sixteen_within LANES m (row_below t 2 (m % 16)) refl h (row_below-lt t 2 (m % 16)) in
    let next_two : 16 * (two / 16) + row_below t 1 (two % 16) ≡ three =
    ap₂ (λ (q r : ℕ). 16 * q + row_below t 1 r) (in_sixteen m (row_below t 2 (m % 16)) (row_below-lt t 2 (m % 16)))
    (same_sixteen m (row_below t 2 (m % 16)) (row_below-lt t 2 (m % 16)))
    ∙ ap (λ (r : ℕ). 16 * (m / 16) + r) (row_below_next t (m % 16) c.requires (omega arith)) in
    steps_mixed (octet_at c.xor-2.result m n) (octet_at c.xor.result m n) (octet_at c.twice.result m n)
    (octet_at c.moved_each-next.result m n) (octet_at c.xor-pair.result m n)
    (octet_at c.moved_each.result m n) (octet_at c.xor-pair.result two n) (octet_at c.moved_each-next.result two n)
    (octet_at x m n) (octet_at x one n) (octet_at x two n) (octet_at x three n)
    (c.xor-2.ensures (m / 2) (8 * (m % 2) + n) (lane_within LANES m h) (bit_within m n k))
    (c.xor.ensures (m / 2) (8 * (m % 2) + n) (lane_within LANES m h) (bit_within m n k))
    (c.twice.ensures (m / 2) (8 * (m % 2) + n) (lane_within LANES m h) (bit_within m n k))
    (c.xor-pair.ensures (m / 2) (8 * (m % 2) + n) (lane_within LANES m h) (bit_within m n k))
    (c.moved_each-next.ensures m n h k
    ∙ ap (λ (p : ℕ). octet_at x (16 * (m / 16) + p) n) (next_place t m c.requires (omega arith)))
    (c.moved_each.ensures m n h k
    ∙ ap (λ (p : ℕ). octet_at c.xor-pair.result (16 * (m / 16) + p) n) (after_place t m c.requires (omega arith)))
    (c.xor-pair.ensures (two / 2) (8 * (two % 2) + n) (lane_within LANES two within) (bit_within two n k))
    (c.moved_each-next.ensures two n within k
    ∙ ap (λ (p : ℕ). octet_at x (16 * (two / 16) + p) n) (next_place t two c.requires (omega (arith, within)))
    ∙ ap (λ (p : ℕ). octet_at x p n) next_two)
    (c.are_blocks.ensures.small (one / 2) (8 * (one % 2) + n) (lane_within LANES one within_one) (bit_within one n k))
