use Rattle.std.proofs.Common.{◌<◌}
use Rattle.macs_aes.specs.Blocks.{octet}
use Rattle.macs_aes.specs.Rows.{below}
use Rattle.macs_aes.proofs.EachBlock.{below-lt, below_next, mixed_is}
use Rattle.macs_aes.proofs.mixing.mix.Goals as goal

pub returns : goal.returns
returns g c = λ i j h k.
    let x = c.args.x.now in
    let within : below 2 j < 16 = below-lt 2 j k in
    let e1 = c.xor-2.ensures i j h k in
    let e2 = c.xor.ensures i j h k in
    let e3 = c.twice.ensures i j h k in
    let e4 = c.xor-pair.ensures i j h k in
    let e5 = c.lift-next.ensures i j h k in
    let e6 = c.lift_twice.ensures i j h k in
    let e7 = c.xor-pair.ensures i (below 2 j) h within in
    let e8 = c.lift-next.ensures i (below 2 j) h within in
    let e9 = below_next j k in
    let m = mixed_is (octet x i j) (octet x i (below 1 j)) (octet x i (below 2 j)) (octet x i (below 3 j))
    (c.are_blocks.ensures.small i (below 1 j) h (below-lt 1 j k)) in
    cc
