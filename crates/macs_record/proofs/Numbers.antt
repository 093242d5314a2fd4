-- Numbers, and what is in front of octets.
use Rattle.std.proofs.Common.{◌≡◌, ◌<◌, ◌^◌, ◌+◌, ◌++◌, ◌∙◌, ℕ, List, length, get_or, Some, None, sym, ap, arith, inl}
use Rattle.std.proofs.Common.{inr, length-append}
use Rattle.std.specs.Int.{to_be_bytes, from_be_bytes, w32, w64}
use Rattle.std.specs.List.{All}
use Rattle.std.proofs.lemmas.Bool.{cases_lt}
use Rattle.std.proofs.lemmas.List.{get_or_append_left, get_or_past}
use Rattle.std.proofs.lemmas.List.Elements.{All-from_get_or}
use Rattle.std.proofs.lemmas.Nat.{be_bytes_4, be_bytes_8, from_be_bytes-to_be_bytes_4, from_be_bytes-to_be_bytes_8}
use Rattle.macs_fields.specs.Fields.{IsOctets}

-- nothing was read where there is something
pub never : {X B : Type 0} (x : X) → (None ≡ Some x) × B → ⊥
never x p = let e = p.0 in cc

-- what is taken from the front of octets
pub taken : (count : ℕ) (old octets new : List ℕ) → All (λ octet. octet < 2 ^ 8) old → length new + count ≡ length old
    → old ≡ octets ++ new
    → IsOctets count octets × (old ≡ octets ++ new)
taken count old octets new range size here = (
  record {
    size = omega (arith, ap length here, length-append octets new);
    each = All-from_get_or (λ (octet : ℕ). octet < 2 ^ 8) octets 0 (λ i within.
        let same = ap (λ (xs : List ℕ). get_or xs i 0) here ∙ get_or_append_left octets new 0 i within in
        let inside : i < length old = omega (arith, ap length here, length-append octets new) in
        let small = range i 0 inside in omega (arith, same, small));
  },
  here,
)

-- the octets are in their range wherever they are read
small : (count : ℕ) (octets : List ℕ) → IsOctets count octets → (i : ℕ) → get_or octets i 0 < 256
small count octets are i = elim (cases_lt i (length octets)) [
  | inl within ↦ are.each i 0 within
  | inr behind ↦ rw (get_or_past octets i 0 behind) (omega arith)
]

pub front_4 : (old new octets : List ℕ) (n : ℕ) → IsOctets 4 octets → n ≡ from_be_bytes w32 octets → old ≡ octets ++ new
    → old ≡ to_be_bytes w32 n ++ new
front_4 old new octets n are is here = here
    ∙ ap (λ (front : List ℕ). front ++ new) (sym (be_bytes_4 octets n are.size (small 4 octets are) is))

pub front_8 : (old new octets : List ℕ) (n : ℕ) → IsOctets 8 octets → n ≡ from_be_bytes w64 octets → old ≡ octets ++ new
    → old ≡ to_be_bytes w64 n ++ new
front_8 old new octets n are is here = here
    ∙ ap (λ (front : List ℕ). front ++ new) (sym (be_bytes_8 octets n are.size (small 8 octets are) is))

pub back_4 : (octets : List ℕ) (result n : ℕ) → n < 2 ^ 32 → result ≡ from_be_bytes w32 octets
    → Some octets ≡ Some (to_be_bytes w32 n) → Some result ≡ Some n
back_4 octets result n range is found =
    let same : octets ≡ to_be_bytes w32 n = cc in
    ap Some (is ∙ ap (from_be_bytes w32) same ∙ from_be_bytes-to_be_bytes_4 n range)

pub back_8 : (octets : List ℕ) (result n : ℕ) → n < 2 ^ 64 → result ≡ from_be_bytes w64 octets
    → Some octets ≡ Some (to_be_bytes w64 n) → Some result ≡ Some n
back_8 octets result n range is found =
    let same : octets ≡ to_be_bytes w64 n = cc in
    ap Some (is ∙ ap (from_be_bytes w64) same ∙ from_be_bytes-to_be_bytes_8 n range)
