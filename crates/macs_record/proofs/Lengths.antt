-- How many octets records and heads have.
use Rattle.std.proofs.Common.{◌≡◌, ◌≤◌, ◌*◌, ◌-◌, ℕ, List, [], ◌∷◌, length, replicate, arith, length-append, inl, inr}
use Rattle.std.specs.List.{All, concat}
use Rattle.std.proofs.lemmas.List.{length-replicate}
use Rattle.std.proofs.lemmas.List.Elements.{All-head, All-tail}
use Rattle.macs_config.specs.Apply.{IsKey}
use Rattle.macs_record.specs.Heads.{Head, IsHead, head_octets, head_sector_of}
use Rattle.macs_record.specs.Layout.{IsRecord, fields_of, front_of, sector_of}
use Rattle.macs_fields.specs.Fields.{IsOctets}
use Rattle.macs_record.specs.Sectors.{padded_sector}
use Rattle.macs_record.specs.declared.record.Record.{Record}
use Rattle.macs_record.specs.declared.record.Record.TheVariants.{Settings, TxSa, Channel, RxSa, Spent, SetValidate}
use Rattle.macs_record.specs.declared.record.Record.TheVariants.{SetReplay, SetSciMode, TxInstall, TxUse, TxRemove}
use Rattle.macs_record.specs.declared.record.Record.TheVariants.{RxAdd, RxDrop, RxInstall, RxRemove, TxCeiling}
use Rattle.macs_record.specs.declared.record.Record.TheVariants.{RxCeiling}

pub length-concat : (items : List (List ℕ)) → All (IsOctets 32) items → length (concat items) ≡ 32 * length items
length-concat [] are = omega arith
length-concat (item ∷ items) are =
    omega (
      arith,
      length-append item (concat items),
      (All-head (IsOctets 32) item items are).size,
      length-concat items (All-tail (IsOctets 32) item items are),
    )

few_octets : (key : List ℕ) → IsKey key → length key ≤ 32
few_octets key (inl is) = omega (arith, is.size)
few_octets key (inr is) = omega (arith, is.size)

fields_length : (r : Record) → IsRecord r → length (fields_of r) ≤ 482
fields_length (Settings validate replay mode encoding) is = omega arith
fields_length (TxSa an sa ceiling) is = omega (arith, length-append {A = ℕ}, few_octets sa.key is.1)
fields_length (Channel sci) is = omega (arith, is.size)
fields_length (RxSa sci an sa ceiling) is = omega (arith, length-append {A = ℕ}, is.0.size, few_octets sa.key is.2)
fields_length (Spent role fingerprints) is = omega (arith, length-concat fingerprints is.2, is.1)
fields_length (SetValidate validate) is = omega arith
fields_length (SetReplay replay) is = omega arith
fields_length (SetSciMode mode) is = omega arith
fields_length (TxInstall an sa start) is = omega (arith, length-append {A = ℕ}, few_octets sa.key is.1)
fields_length (TxUse an) is = omega arith
fields_length (TxRemove an) is = omega arith
fields_length (RxAdd sci) is = omega (arith, is.size)
fields_length (RxDrop sci) is = omega (arith, is.size)
fields_length (RxInstall sci an sa start) is = omega (arith, length-append {A = ℕ}, is.0.size, few_octets sa.key is.2)
fields_length (RxRemove sci an) is = omega (arith, length-append {A = ℕ}, is.0.size)
fields_length (TxCeiling an ceiling) is = omega arith
fields_length (RxCeiling sci an ceiling) is = omega (arith, length-append {A = ℕ}, is.0.size)

length-padded : (front : List ℕ) → length front ≤ 512 → length (padded_sector front) ≡ 512
length-padded front within = omega
    (arith, length-append front (replicate (512 - length front) 0), length-replicate {A = ℕ} (512 - length front) 0)

pub sector_length : (r : Record) → IsRecord r → length (sector_of r) ≡ 512
sector_length r is = let fields = fields_length r is in length-padded (front_of r) (omega (arith, fields))

pub head_sector_length : (head : Head) → IsHead head → length (head_sector_of head) ≡ 512
head_sector_length head is = length-padded (head_octets head) (omega (arith, length-append {A = ℕ}, is.sci.size))
