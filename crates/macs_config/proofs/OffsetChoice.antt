-- The confidentiality offset of so many octets.
use Rattle.std.proofs.Common.{◌≡◌, ◌↔◌, ◌==◌, ℕ, Bool, true, false, cond, Option, Some, None, refl, sym}
use Rattle.std.proofs.lemmas.Bool.{eqb-true, eqb-false}
use Rattle.macs_fields.specs.Fields.{octets_of}
use Rattle.macs_fields.specs.declared.fields.Offset.{Offset}
use Rattle.macs_fields.specs.declared.fields.Offset.TheVariants.{Zero, Thirty, Fifty}
use Rattle.macs_config.specs.Apply.{offset_at}

module _ (result : Option Offset) (octets : ℕ) (exact : (offset : Offset)
    → (result ≡ Some offset) ↔ (octets ≡ octets_of offset)) where
  by : (made : Option Offset) → made ≡ result → (zero thirty fifty : Bool) → (octets == 0) ≡ zero
      → (octets == 30) ≡ thirty → (octets == 50) ≡ fifty
      → result ≡ cond zero (Some Zero) (cond thirty (Some Thirty) (cond fifty (Some Fifty) None))
  by made is true thirty fifty e0 e30 e50 = (exact Zero).1 (eqb-true octets 0 e0)
  by made is false true fifty e0 e30 e50 = (exact Thirty).1 (eqb-true octets 30 e30)
  by made is false false true e0 e30 e50 = (exact Fifty).1 (eqb-true octets 50 e50)
  by None is false false false e0 e30 e50 = sym is
  by (Some Zero) is false false false e0 e30 e50 = absurd (eqb-false octets 0 e0 ((exact Zero).0 (sym is)))
  by (Some Thirty) is false false false e0 e30 e50 = absurd (eqb-false octets 30 e30 ((exact Thirty).0 (sym is)))
  by (Some Fifty) is false false false e0 e30 e50 = absurd (eqb-false octets 50 e50 ((exact Fifty).0 (sym is)))

  -- what answers exactly the offset of so many octets
  pub is_offset_at : result ≡ offset_at octets
  is_offset_at = by result refl (octets == 0) (octets == 30) (octets == 50) refl refl refl
