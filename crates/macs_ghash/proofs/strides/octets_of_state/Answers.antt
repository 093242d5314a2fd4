use Rattle.std.proofs.Common.{◌<◌, ◌∙◌, ◌+◌, ◌*◌, ℕ, ap, arith, bit_xor, refl, subst, sym, take}
use Rattle.macs_ghash.specs.Tables.{octet_from_left, octets_in}
use Rattle.macs_ghash.proofs.Filled.{first_alone, octet_none, seven_at}
use Rattle.macs_ghash.proofs.OctetLanes.{flipped_at}
use Rattle.macs_ghash.specs.declared.octets.TheConstants.{OCTETS, SIXTEENS}
use Rattle.macs_ghash.specs.declared.strides.TheConstants.{FLIPPED}
use Rattle.macs_ghash.proofs.strides.octets_of_state.Goals as goal

pub found-requires : goal.found-requires
found-requires c = λ g j h k.
    subst (λ (v : ℕ). v < 16) (sym (flipped_at SIXTEENS g j (omega arith) h k)) (omega (arith, seven_at j k))

pub returns-clause-first : goal.returns-clause-first
returns-clause-first c = λ j k.
    c.found.ensures 0 j (omega arith) k
    ∙ ap (octets_in c.octets_of.result 0) (flipped_at SIXTEENS 0 j (omega arith) (omega arith) k)
    ∙ c.octets_of.ensures 0 j (omega arith) k

pub returns-clause-rest : goal.returns-clause-rest
returns-clause-rest c = λ g j some h k.
    c.found.ensures g j h k
    ∙ ap (octets_in c.octets_of.result g) (flipped_at SIXTEENS g j (omega arith) h k)
    ∙ c.octets_of.ensures g j h k
    ∙ ap (λ (v : ℕ). octet_from_left v j) (first_alone SIXTEENS c.args.state (SIXTEENS * 0 + g) (omega arith))
    ∙ octet_none j
