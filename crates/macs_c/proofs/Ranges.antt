-- The fields of a tag in their ranges, and the confidentiality offset of so many octets.
use Rattle.std.proofs.Common.{◌≡◌, ◌↔◌, ◌<◌, ◌≤◌, ◌==◌, ◌&&◌, ◌||◌, ℕ, Bool, true, false, Option, Some, None, refl, sym}
use Rattle.std.proofs.Common.{subst, arith}
use Rattle.std.specs.Prelude.{IfSome, IsSome}
use Rattle.std.proofs.lemmas.Bool.{eqb-true, false≢true, lt-ltb}
use Rattle.std.proofs.lemmas.Option.{none-some}
use Rattle.macs_fields.specs.Fields.{octets_of}
use Rattle.macs_fields.specs.declared.fields.Offset.{Offset}
use Rattle.macs_fields.specs.declared.fields.Offset.TheVariants.{Zero, Thirty, Fifty}
use Rattle.macs_c.specs.Fields.{is_in_range, is_offset}
use Rattle.macs_c.specs.declared.fields.MacsTag.{MacsTag}

-- each offset has 0, 30 or 50 octets
octets_are : (offset : Offset) → is_offset (octets_of offset) ≡ true
octets_are Zero = refl
octets_are Thirty = refl
octets_are Fifty = refl

by_tests : (octets : ℕ) (a b c : Bool) → (octets == 0) ≡ a → (octets == 30) ≡ b → (octets == 50) ≡ c
    → (a || b || c) ≡ true → (offset : Offset) × (octets ≡ octets_of offset)
by_tests octets true b c is_0 is_30 is_50 is = (Zero, eqb-true octets 0 is_0)
by_tests octets false true c is_0 is_30 is_50 is = (Thirty, eqb-true octets 30 is_30)
by_tests octets false false true is_0 is_30 is_50 is = (Fifty, eqb-true octets 50 is_50)
by_tests octets false false false is_0 is_30 is_50 is = absurd (false≢true is)

-- and for so many there is one
offset_for : (octets : ℕ) → is_offset octets ≡ true → (offset : Offset) × (octets ≡ octets_of offset)
offset_for octets is = by_tests octets (octets == 0) (octets == 30) (octets == 50) refl refl refl is

pub some_offset : (octets : ℕ) (result : Option Offset)
    → ((offset : Offset) → (result ≡ Some offset) ↔ (octets ≡ octets_of offset))
    → IsSome result ↔ (is_offset octets ≡ true)
some_offset octets None exact = (
  (λ found. absurd (false≢true found)),
  λ is. let found = offset_for octets is in
      absurd (none-some found.0 ((exact found.0).1 found.1)),
)
some_offset octets (Some offset) exact =
    ((λ found. subst (λ o. is_offset o ≡ true) (sym ((exact offset).0 refl)) (octets_are offset)), λ is. refl)

pub its_octets : (octets : ℕ) (result : Option Offset)
    → ((offset : Offset) → (result ≡ Some offset) ↔ (octets ≡ octets_of offset))
    → IfSome result (λ found. octets_of found ≡ octets)
its_octets octets None exact = tt
its_octets octets (Some offset) exact = sym ((exact offset).0 refl)

five : (a b c d e : Bool) → a ≡ true → b ≡ true → c ≡ true → d ≡ true → e ≡ true → (a && b && c && d && e) ≡ true
five a b c d e is_a is_b is_c is_d is_e = rw (is_a, is_b, is_c, is_d, is_e) refl

-- the tests of the five fields, as the code makes them
pub in_range : (tag : MacsTag) → tag.an < 4 → 0 < tag.pn → tag.name ≤ 2 → tag.encrypted ≤ 1
    → is_offset tag.offset ≡ true → is_in_range tag ≡ true
in_range tag an pn name encrypted offset =
    let name_below : tag.name < 3 = omega (arith, name) in
    let encrypted_below : tag.encrypted < 2 = omega (arith, encrypted) in
    five _ _ _ _ _ (lt-ltb tag.an 4 an) (lt-ltb 0 tag.pn pn) (lt-ltb tag.name 3 name_below)
    (lt-ltb tag.encrypted 2 encrypted_below) offset
