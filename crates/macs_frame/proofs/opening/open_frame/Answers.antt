use Rattle.std.proofs.Common.{◌∙◌, Err, refl, ap, arith}
use Rattle.std.proofs.lemmas.Result.{err_from_is_err_and}
use Rattle.macs_fields.specs.Fields.{octets_of}
use Rattle.macs_frame.specs.Opening.{OpenFaultHolds, open_faults}
use Rattle.macs_frame.specs.declared.tag.SecTag.{SecTag}
use Rattle.macs_frame.specs.declared.opening.OpenFault.TheVariants.{Tag as TagRefused, OtherSci, NotValid}
use Rattle.macs_fields.proofs.FirstRefusal.{exactly_first, exactly_none}
use Rattle.macs_frame.proofs.OpenFaults.{first_tag_fault, first_other_sci, first_not_valid, verified, no_fault}
use Rattle.macs_frame.proofs.opening.open_frame.Goals as goal

pub returns-in_err-parts-clause-fault : goal.returns-in_err-parts-clause-fault
returns-in_err-parts-clause-fault c =
    let risen = err_from_is_err_and c.from_residual.result c.from_residual.ensures.1 in
    exactly_first (OpenFaultHolds c.args.frame.now c.args.key.now c.args.sci (octets_of c.args.offset)) open_faults
    c.from_residual.result (TagRefused c.in_err-parts.field-0.0)
    (risen.1 ∙ ap Err risen.2)
    (first_tag_fault _ _ _ _ c.in_err-parts.field-0.0 ((c.in_err-parts.ensures.fault c.in_err-parts.field-0.0).0 refl))

pub names_other-requires : goal.names_other-requires
names_other-requires c = let tag = ((c.in_ok-parts.ensures.parts c.in_ok-parts.parts).0 refl).0 in
    omega (arith, tag.long_enough)

pub returns-then-names_other-clause-fault : goal.returns-then-names_other-clause-fault
returns-then-names_other-clause-fault c =
    exactly_first (OpenFaultHolds c.args.frame.now c.args.key.now c.args.sci (octets_of c.args.offset)) open_faults _
    OtherSci refl
    (first_other_sci _ _ _ _ c.in_ok-parts.parts ((c.in_ok-parts.ensures.parts c.in_ok-parts.parts).0 refl)
    c.names_other.result c.names_other.ensures c.if-names_other.true)

pub open_parts-requires : goal.open_parts-requires
open_parts-requires c = ((c.in_ok-parts.ensures.parts c.in_ok-parts.parts).0 refl).0

pub returns-then-not-open_parts-clause-fault : goal.returns-then-not-open_parts-clause-fault
returns-then-not-open_parts-clause-fault c =
    exactly_first (OpenFaultHolds c.args.frame.now c.args.key.now c.args.sci (octets_of c.args.offset)) open_faults _
    NotValid refl
    (first_not_valid _ _ _ _ c.in_ok-parts.parts ((c.in_ok-parts.ensures.parts c.in_ok-parts.parts).0 refl)
    c.names_other.result c.names_other.ensures c.if-names_other.false
    (λ plain opens. let yes = c.open_parts.ensures.exactly.1 (plain, opens) in cc))

pub returns-clause-opened : goal.returns-clause-opened
returns-clause-opened c =
    verified _ _ _ _ c.in_ok-parts.parts ((c.in_ok-parts.ensures.parts c.in_ok-parts.parts).0 refl) _
    c.if-not-open_parts.ensures.opened

pub returns-clause-numbers : goal.returns-clause-numbers
returns-clause-numbers c =
    let tag = ((c.in_ok-parts.ensures.parts c.in_ok-parts.parts).0 refl).0.reading.tag in
    (ap (λ (t : SecTag). t.an) tag, ap (λ (t : SecTag). t.pn) tag)

pub returns-clause-fault : goal.returns-clause-fault
returns-clause-fault c =
    exactly_none (OpenFaultHolds c.args.frame.now c.args.key.now c.args.sci (octets_of c.args.offset))
    open_faults _ _ refl
    (no_fault _ _ _ _ c.in_ok-parts.parts ((c.in_ok-parts.ensures.parts c.in_ok-parts.parts).0 refl)
    c.names_other.result c.names_other.ensures c.if-names_other.false c.open_parts.new.out.items
    c.if-not-open_parts.ensures.opened)
