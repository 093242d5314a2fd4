use Rattle.std.proofs.Common.{◌+◌, ◌*◌, ◌<◌, arith, get_or}
use Rattle.std.proofs.lemmas.Simd.{Each1-from_get_or}
use Rattle.macs_ghash.proofs.Filled.{octet_of_halves}
use Rattle.macs_ghash.specs.declared.octets.TheConstants.{SIXTEENS}
use Rattle.macs_ghash.proofs.filling.octets_of.Goals as goal

pub returns : goal.returns
returns over c = λ g b h k.
    let held = c.loop-g.invariant in
    octet_of_halves SIXTEENS c.loop-g.words g b (get_or c.args.blocks.now (SIXTEENS * c.args.p + g) 0) held.size
    (Each1-from_get_or (λ x. x < 18446744073709551616) c.loop-g.words 0 (λ i l. held.small i)) h k
    (held.first g (omega arith)) (held.second g (omega arith))
