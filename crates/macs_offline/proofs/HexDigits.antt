-- Two hex digits of an octet, as they are formatted and as `encode_lower` has them.
use Rattle.std.proofs.Common.{◌≡◌, ℕ, zero, suc, ◌+◌, ◌-◌, ◌/◌, ◌%◌, ◌^◌, ◌<◌, ◌&&◌, Bool, true, false, List, [], ◌∷◌}
use Rattle.std.proofs.Common.{◌++◌, length, take, slice_index, refl, ap, arith, inl, inr}
use Rattle.std.specs.Fmt.{char_count, digits, format_spec, padded_integral}
use Rattle.std.specs.Str.{bytes_eq}
use Rattle.std.proofs.lemmas.Bool.{and_parts, cases_lt}
use Rattle.std.proofs.lemmas.Slice.Eq.{bytes_eq-Decides}
use Rattle.std.proofs.lemmas.List.{take_more}
use Rattle.hex.specs.Hex.{encode_lower, encode_with, lower_digits}

-- an octet under `{:02x}`
abbrev pub formatted : ℕ → List ℕ
formatted octet = padded_integral (format_spec 32 0 4 2 (2 ^ 64 - 1)) false [] (digits 16 false octet)

-- its digits in the table
abbrev pub pair_of : ℕ → List ℕ
pair_of octet = slice_index lower_digits (octet / 16) ∷ slice_index lower_digits (octet % 16) ∷ []

-- the first n octets are formatted as their digits
unfoldable same_below : ℕ → Bool
same_below zero = true
same_below (suc n) = bytes_eq (formatted n) (pair_of n) && same_below n

same_below-256 : same_below 256 ≡ true
unfolding same_below digits padded_integral char_count
same_below-256 = refl

same_below-at : (n octet : ℕ) → same_below n ≡ true → octet < n → bytes_eq (formatted octet) (pair_of octet) ≡ true
unfolding same_below
same_below-at zero octet h lt = absurd (omega arith)
same_below-at (suc n) octet h lt =
    let parts = and_parts (bytes_eq (formatted n) (pair_of n)) (same_below n) h in
    elim (cases_lt octet n) [
      | inl below ↦ same_below-at n octet parts.1 below
      | inr top ↦
          let e : octet ≡ n = omega arith in
          rw e parts.0
    ]

-- an octet is formatted as its two digits
pub formatted-octet : (octet : ℕ) → octet < 256 → formatted octet ≡ pair_of octet
formatted-octet octet h =
    (bytes_eq-Decides (formatted octet) (pair_of octet)).0 (same_below-at 256 octet same_below-256 h)

-- the digits of one more octet
pub encode_lower-push : (octets : List ℕ) (octet : ℕ)
    → encode_lower (octets ++ octet ∷ []) ≡ encode_lower octets ++ pair_of octet
unfolding encode_with
encode_lower-push [] octet = refl
encode_lower-push (first ∷ rest) octet =
    ap (λ (digits : List ℕ). slice_index lower_digits (first / 16) ∷ slice_index lower_digits (first % 16) ∷ digits)
    (encode_lower-push rest octet)

-- the digits of the octets up to the next one
pub encode_lower-more : (octets : List ℕ) (i : ℕ) → i < length octets → slice_index octets i < 256
    → encode_lower (take (i + 1) octets) ≡ encode_lower (take i octets) ++ formatted (slice_index octets i)
encode_lower-more octets i within small =
    rw (take_more octets i 0 within, formatted-octet (slice_index octets i) small)
    (encode_lower-push (take i octets) (slice_index octets i))
