use Rattle.std.proofs.Common.{◌≡◌, ◌+◌, ◌*◌, ◌<◌, ◌∙◌, ℕ, List, [], ap₂, arith, bit_xor, get_or, subst, sym}
use Rattle.std.proofs.lemmas.Simd.{get_or-replicate}
use Rattle.std.proofs.lemmas.List.{get_or_default}
use Rattle.macs_ghash.specs.Tables.{octets_in}
use Rattle.macs_ghash.proofs.OctetSums.{sum_first, sum_next}
use Rattle.macs_ghash.specs.declared.octets.TheConstants.{OCTETS}
use Rattle.macs_ghash.proofs.tables.found_in.Goals as goal

pub found-requires : goal.found-requires
found-requires over c = λ g j h k.
    let p : ℕ = c.loop-p.p in
    let at : c.places.inside.octets ≡ get_or c.args.at.now p [] = c.places.view_is
    ∙ get_or_default c.args.at.now p c.index-at-p.result [] (omega arith) in
    subst (λ (a : List ℕ). octets_in a g j < 16) (sym at) (c.requires p g j (omega arith) h k)

pub loop-p-init : goal.loop-p-init
loop-p-init over c = λ g j h k. get_or-replicate OCTETS (16 * g + j) 0 0 (omega arith)
    ∙ sym (sum_first (λ p. octets_in (get_or c.args.row.now p []) g (octets_in (get_or c.args.at.now p []) g j)))

pub loop-p-preserved : goal.loop-p-preserved
loop-p-preserved over c = λ g j h k.
    let p : ℕ = c.loop-p.p in
    let at : c.places.inside.octets ≡ get_or c.args.at.now p [] = c.places.view_is
    ∙ get_or_default c.args.at.now p c.index-at-p.result [] (omega arith) in
    let row : c.table.inside.octets ≡ get_or c.args.row.now p [] = c.table.view_is
    ∙ get_or_default c.args.row.now p c.index-row-p.result [] (omega arith) in
    c.sum-total.ensures g j h k
    ∙ ap₂ bit_xor (c.loop-p.invariant g j h k)
    (c.found.ensures g j h k ∙ ap₂ (λ (t a : List ℕ). octets_in t g (octets_in a g j)) row at)
    ∙ sym (sum_next (λ p. octets_in (get_or c.args.row.now p []) g (octets_in (get_or c.args.at.now p []) g j)) p)
