use Rattle.std.proofs.Common.{◌≡◌, ◌∙◌, ◌++◌, List, ℕ, length, drop, ap, refl}
use Rattle.std.proofs.lemmas.List.{take_at}
use Rattle.macs_fields.specs.Fields.{octets_of}
use Rattle.macs_frame.proofs.SealedInPlace.{sealed_in_place}
use Rattle.macs_frame.proofs.sealing.seal_frame.Goals as goal

pub returns : goal.returns
returns c =
    let laid = c.lay_out-start.ensures in
    let kept : length c.seal_from-icv.new.octets ≡ length c.lay_out-start.new.out.items = c.seal_from-icv.auto.octets
    ∙ ap length c.as_mut_slice.ensures.value in
    let whole = take_at c.seal_from-icv.new.octets (drop (length c.seal_from-icv.new.octets)
    c.lay_out-start.new.out.items) (length c.lay_out-start.new.out.items) kept in
    c.append.ensures ∙ ap (λ (l : List ℕ). l ++ c.seal_from-icv.result) whole
    ∙ sealed_in_place c.args.key.now c.args.sci c.args.tag.now (octets_of c.args.offset) c.args.plain.now _ _
    c.as_mut_slice.result.now c.seal_from-icv.new.octets c.seal_from-icv.result c.lay_out-start.result
    refl refl (c.as_mut_slice.ensures.value ∙ laid.octets) laid.start
    (rw (← c.iv_of-iv.ensures) c.seal_from-icv.ensures.sealed) c.seal_from-icv.ensures.front
