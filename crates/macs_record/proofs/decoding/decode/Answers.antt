use Rattle.std.proofs.Common.{rules, ◌≡◌, List, ℕ, Ok, Some, length, refl, sym, subst, ap}
use Rattle.macs_fields.specs.First.{IsFirst, NoneHolds}
use Rattle.macs_fields.proofs.FirstRefusal.{exactly_first, exactly_none}
use Rattle.macs_record.specs.Decoding.{RecordFaultHolds, IsSectorOf, record_faults}
use Rattle.macs_record.specs.declared.record.RecordFault.TheVariants.{Field, Rest}
use Rattle.macs_record.proofs.Decoded.{all_zeros, begins, exactly, first_field, first_rest, is_sector, no_fault}
use Rattle.macs_record.proofs.Decoded.{read_once}
use Rattle.macs_record.proofs.decoding.decode.Goals as goal

pub returns-in_default-read_fields-clause-fault : goal.returns-in_default-read_fields-clause-fault
returns-in_default-read_fields-clause-fault c =
    let first = first_field c.in-Some.kind c.new-reader.result c.read_kind.new.from c.read_fields.new.from
    c.in-Some.ensures.some c.in-Some.ensures.found c.in_default-read_fields.ensures.found in
    exactly_first (RecordFaultHolds c.args.sector.now) record_faults _ Field refl
    (subst (λ (s : List ℕ). IsFirst (RecordFaultHolds s) record_faults Field) c.new-reader.ensures first)

pub returns-then-is_zero-clause-exactly : goal.returns-then-is_zero-clause-exactly
returns-then-is_zero-clause-exactly c = λ r.
    let read = c.in-Some-read_fields.ensures.some in
    let whole = begins c.in-Some.kind c.in-Some-read_fields.value c.new-reader.result c.read_kind.new.from
    c.read_fields.new.from c.in-Some.ensures.some read.1 read.2 in
    let size : length c.new-reader.result ≡ 512 = rw c.new-reader.ensures (search rules) in
    let is = is_sector c.in-Some-read_fields.value c.new-reader.result c.read_fields.new.from size read.0 whole
    (c.is_zero.ensures.0 c.if-is_zero.true) in
    let one = exactly c.in-Some.kind c.in-Some-read_fields.value c.new-reader.result c.read_kind.new.from
    c.read_fields.new.from is c.in-Some.ensures.found c.in-Some-read_fields.ensures.found r in (
      (λ same. subst (IsSectorOf r) c.new-reader.ensures (one.0 cc)),
      (λ there. let e = one.1 (subst (IsSectorOf r) (sym c.new-reader.ensures) there) in ap Ok e),
    )

pub returns-then-is_zero-clause-fault : goal.returns-then-is_zero-clause-fault
returns-then-is_zero-clause-fault c =
    let read = c.in-Some-read_fields.ensures.some in
    let whole = begins c.in-Some.kind c.in-Some-read_fields.value c.new-reader.result c.read_kind.new.from
    c.read_fields.new.from c.in-Some.ensures.some read.1 read.2 in
    let size : length c.new-reader.result ≡ 512 = rw c.new-reader.ensures (search rules) in
    let is = is_sector c.in-Some-read_fields.value c.new-reader.result c.read_fields.new.from size read.0 whole
    (c.is_zero.ensures.0 c.if-is_zero.true) in
    exactly_none (RecordFaultHolds c.args.sector.now) record_faults _ c.in-Some-read_fields.value refl
    (subst (λ (s : List ℕ). NoneHolds (RecordFaultHolds s) record_faults) c.new-reader.ensures
    (no_fault c.in-Some-read_fields.value c.new-reader.result is))

pub returns-else-is_zero-clause-fault : goal.returns-else-is_zero-clause-fault
returns-else-is_zero-clause-fault c =
    let first = first_rest c.in-Some.kind c.in-Some-read_fields.value c.new-reader.result c.read_kind.new.from
    c.read_fields.new.from c.in-Some.ensures.some
    c.in-Some-read_fields.ensures.some c.in-Some.ensures.found c.in-Some-read_fields.ensures.found
    (λ zeros. let yes = c.is_zero.ensures.1 zeros in let no = c.if-is_zero.false in cc) in
    exactly_first (RecordFaultHolds c.args.sector.now) record_faults _ Rest refl
    (subst (λ (s : List ℕ). IsFirst (RecordFaultHolds s) record_faults Rest) c.new-reader.ensures first)

pub returns-else-is_zero-clause-exactly : goal.returns-else-is_zero-clause-exactly
returns-else-is_zero-clause-exactly c = λ r. (
  (λ same. absurd cc),
  (λ there.
      let once = read_once c.in-Some.kind c.new-reader.result c.read_kind.new.from c.read_fields.new.from
      (Some c.in-Some-read_fields.value)
      c.in-Some.ensures.found c.in-Some-read_fields.ensures.found r
      (subst (IsSectorOf r) (sym c.new-reader.ensures) there) in
      let yes = c.is_zero.ensures.1 (all_zeros c.read_fields.new.from _ once.1) in
      let no = c.if-is_zero.false in absurd cc),
)
