-- Why a sector is rejected as a record, and what is read from the front of octets.
use Rattle.std.specs.Prelude.{◌≡◌, List, [], ◌∷◌, ℕ, ◌++◌, Option, Some, IfSome}
use Rattle.macs_record.specs.Sectors.{Begins}
use Rattle.macs_record.specs.Layout.{IsRecord, front_of, octets_of_kind, sector_of, fields_of, kind_of}
use Rattle.macs_record.specs.declared.kind.Kind.{Kind}
use Rattle.macs_record.specs.declared.record.Record.{Record}
use Rattle.macs_record.specs.declared.record.RecordFault.{RecordFault}
use Rattle.macs_record.specs.declared.record.RecordFault.TheVariants as fault

-- the sector is that of this record
pub record IsSectorOf (r : Record) (sector : List ℕ) : Type 0 where
  pub range : IsRecord r
  pub octets : sector_of r ≡ sector

-- the sector begins with the mark and a kind of record
abbrev pub HasKind : List ℕ → Type 0
HasKind sector = (kind : Kind) × Begins (octets_of_kind kind) sector

-- the sector begins as that of a record whose fields are in their ranges
abbrev pub HasFields : List ℕ → Type 0
HasFields sector = (r : Record) × IsRecord r × Begins (front_of r) sector

-- the sector is that of some record whose fields are in their ranges
abbrev pub HasRecord : List ℕ → Type 0
HasRecord sector = (r : Record) × IsSectorOf r sector

-- when each fault of a sector applies
abbrev pub RecordFaultHolds : List ℕ → RecordFault → Type 0
RecordFaultHolds sector fault.Kind = ¬ HasKind sector
RecordFaultHolds sector fault.Field = ¬ HasFields sector
RecordFaultHolds sector fault.Rest = ¬ HasRecord sector

-- in the order in which they are checked
abbrev pub record_faults : List RecordFault
record_faults = fault.Kind ∷ fault.Field ∷ fault.Rest ∷ []

-- ---- what is read from the front of octets

-- a value that was read is in its range; its octets came first, and the others are left
abbrev pub IsRead : {X : Type 0} → (X → Type 0) → (X → List ℕ) → List ℕ → Option X → List ℕ → Type 0
IsRead range octets_of old result new = IfSome result (λ x. range x × (old ≡ octets_of x ++ new))

-- a value in its range whose octets come first is read
abbrev pub IsFound : {X : Type 0} → (X → Type 0) → (X → List ℕ) → List ℕ → Option X → List ℕ → Type 0
IsFound {X} range octets_of old result new =
    (x : X) (rest : List ℕ) → range x → old ≡ octets_of x ++ rest → (result ≡ Some x) × (new ≡ rest)

-- the same of a record of this kind, by its fields
abbrev pub FieldsRead : Kind → List ℕ → Option Record → List ℕ → Type 0
FieldsRead kind old result new = IfSome result (λ r. IsRecord r × (kind_of r ≡ kind) × (old ≡ fields_of r ++ new))

-- where such fields begin the octets, they are read, and the rest is left
abbrev pub FieldsFound : Kind → List ℕ → Option Record → List ℕ → Type 0
FieldsFound kind old result new =
    (r : Record) (rest : List ℕ) → IsRecord r → kind_of r ≡ kind → old ≡ fields_of r ++ rest
    → (result ≡ Some r) × (new ≡ rest)
