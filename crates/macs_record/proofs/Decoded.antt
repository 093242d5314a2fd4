-- What is known of a sector, from what was read of it.
use Rattle.std.proofs.Common.{◌≡◌, ◌-◌, ◌++◌, ◌∙◌, ℕ, List, length, replicate, Some, None, Option, inl, inr, refl, sym}
use Rattle.std.proofs.Common.{subst, ap, arith, length-append}
use Rattle.std.proofs.lemmas.List.{length-replicate}
use Rattle.macs_fields.specs.First.{IsFirst, NoneHolds}
use Rattle.macs_record.specs.Decoding.{HasFields, HasKind, RecordFaultHolds, IsSectorOf, record_faults, FieldsFound}
use Rattle.macs_record.specs.Layout.{IsRecord, fields_of, front_of, kind_of, octets_of_kind}
use Rattle.macs_record.specs.Sectors.{padded_sector}
use Rattle.macs_record.specs.declared.kind.Kind.{Kind}
use Rattle.macs_record.specs.declared.record.Record.{Record}
use Rattle.macs_record.specs.declared.record.RecordFault.TheVariants.{Field, Rest}
use Rattle.macs_record.proofs.Numbers.{never}

-- the kind is read wherever it is
abbrev pub KindFound : List ℕ → Option Kind → List ℕ → Type 0
KindFound octets result left =
    (kind : Kind) (rest : List ℕ) → octets ≡ octets_of_kind kind ++ rest → (result ≡ Some kind) × (left ≡ rest)

pub no_fields : (kind : Kind) (sector behind left : List ℕ) → KindFound sector (Some kind) behind
    → FieldsFound kind behind None left → ¬ HasFields sector
no_fields kind sector behind left kinds fields has =
    let k = kinds (kind_of has.0) (fields_of has.0 ++ has.2.0) has.2.1 in
    let same = k.0 in
    let of_kind : kind_of has.0 ≡ kind = cc in
    never _ (fields has.0 has.2.0 has.1 of_kind k.1)

-- a record's sector has its fields, and these its kind
pub has_fields : (r : Record) (sector : List ℕ) → IsSectorOf r sector → HasFields sector
has_fields r sector is = (r, is.range, (replicate (512 - length (front_of r)) 0, sym is.octets))

pub fields_have_kind : (sector : List ℕ) → HasFields sector → HasKind sector
fields_have_kind sector has = (kind_of has.0, (fields_of has.0 ++ has.2.0, has.2.1))

-- the record of a sector is the one that was read
pub read_once : (kind : Kind) (sector behind left : List ℕ) (result : Option Record)
    → KindFound sector (Some kind) behind → FieldsFound kind behind result left
    → (r : Record) → IsSectorOf r sector → (result ≡ Some r) × (left ≡ replicate (512 - length (front_of r)) 0)
read_once kind sector behind left result kinds fields r is =
    let zeros : List ℕ = replicate (512 - length (front_of r)) 0 in
    let k = kinds (kind_of r) (fields_of r ++ zeros) (sym is.octets) in
    let same = k.0 in
    let of_kind : kind_of r ≡ kind = cc in
    fields r zeros is.range of_kind k.1

pub filled : (sector front left : List ℕ) → length sector ≡ 512 → sector ≡ front ++ left
    → left ≡ replicate (length left) 0 → padded_sector front ≡ sector
filled sector front left size whole zeros =
    let room : 512 - length front ≡ length left = omega (arith, ap length whole, length-append {A = ℕ}) in
    ap (λ (n : ℕ). front ++ replicate n 0) room ∙ ap (λ (rest : List ℕ). front ++ rest) (sym zeros) ∙ sym whole

-- what was read begins the sector
pub begins : (kind : Kind) (r : Record) (sector behind left : List ℕ) → sector ≡ octets_of_kind kind ++ behind
    → kind_of r ≡ kind → behind ≡ fields_of r ++ left
    → sector ≡ front_of r ++ left
begins kind r sector behind left here of_kind fields =
    here ∙ ap (λ (xs : List ℕ). octets_of_kind kind ++ xs) fields
    ∙ ap (λ (k : Kind). octets_of_kind k ++ (fields_of r ++ left)) (sym of_kind)

pub is_sector : (r : Record) (sector left : List ℕ) → length sector ≡ 512 → IsRecord r → sector ≡ front_of r ++ left
    → left ≡ replicate (length left) 0
    → IsSectorOf r sector
is_sector r sector left size range whole zeros =
    record { range = range; octets = filled sector (front_of r) left size whole zeros }

-- ---- the faults

pub first_field : (kind : Kind) (sector behind left : List ℕ) → sector ≡ octets_of_kind kind ++ behind
    → KindFound sector (Some kind) behind → FieldsFound kind behind None left
    → IsFirst (RecordFaultHolds sector) record_faults Field
first_field kind sector behind left here kinds fields =
    inr ((λ no. no (kind, (behind, here))), inl (no_fields kind sector behind left kinds fields, refl))

pub all_zeros : (left : List ℕ) (n : ℕ) → left ≡ replicate n 0 → left ≡ replicate (length left) 0
all_zeros left n zeros =
    let size : n ≡ length left = sym (ap length zeros ∙ length-replicate {A = ℕ} n 0) in
    zeros ∙ ap (λ (k : ℕ). replicate k 0) size

pub first_rest : (kind : Kind) (r : Record) (sector behind left : List ℕ) → sector ≡ octets_of_kind kind ++ behind
    → IsRecord r × (kind_of r ≡ kind) × (behind ≡ fields_of r ++ left) → KindFound sector (Some kind) behind
    → FieldsFound kind behind (Some r) left
    → (left ≡ replicate (length left) 0 → ⊥) → IsFirst (RecordFaultHolds sector) record_faults Rest
first_rest kind r sector behind left here read kinds fields more =
    let stands : HasFields sector = (r, read.0, (left, begins kind r sector behind left here read.1 read.2)) in
    inr (
      (λ no. no (fields_have_kind sector stands)),
      inr (
        (λ no. no stands),
        inl (
          (λ has.
              let once = read_once kind sector behind left (Some r) kinds fields has.0 has.1 in
              more (all_zeros left (512 - length (front_of has.0)) once.1)),
          refl,
        ),
      ),
    )

pub no_fault : (r : Record) (sector : List ℕ) → IsSectorOf r sector → NoneHolds (RecordFaultHolds sector) record_faults
no_fault r sector is =
    let stands = has_fields r sector is in
    ((λ no. no (fields_have_kind sector stands)), ((λ no. no stands), ((λ no. no (r, is)), tt)))

-- the record that was read is the sector's, and no other is
pub exactly : (kind : Kind) (value : Record) (sector behind left : List ℕ) → IsSectorOf value sector
    → KindFound sector (Some kind) behind
    → FieldsFound kind behind (Some value) left → (r : Record)
    → (value ≡ r → IsSectorOf r sector) × (IsSectorOf r sector → value ≡ r)
exactly kind value sector behind left is kinds fields r = (
  (λ same. subst (λ (r : Record). IsSectorOf r sector) same is),
  (λ there. let once = (read_once kind sector behind left (Some value) kinds fields r there).0 in cc),
)
