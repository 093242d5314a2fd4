-- What is written on a paper.
use Rattle.std.proofs.Common.{◌≡◌, ◌∙◌, ℕ, ◌+◌, ◌-◌, ◌<◌, ◌≤◌, ◌/◌, ◌%◌, List, [], ◌∷◌, ◌++◌, length, take, get_or}
use Rattle.std.proofs.Common.{slice_index, append_assoc, append-nil, Bool, true, false, Option, Some, None, refl, ap}
use Rattle.std.proofs.Common.{sym, arith, inl, inr}
use Rattle.std.specs.Prelude.{nat_le, if◌then◌else◌}
use Rattle.std.proofs.lemmas.Bool.{cases_lt, le-leb}
use Rattle.std.proofs.lemmas.Bool.Decides.{leb_tells}
use Rattle.std.proofs.lemmas.List.{length-append, take_more}
use Rattle.hex.specs.Hex.{encode_lower, encode_with, lower_digits}
use Rattle.macs_commands.specs.Papers.{IsWritten, Sheet, Writes, blank, fitting, with_octet, with_octets, written}

-- ---- one text after another

octets-after : (room : ℕ) (text : Option (List ℕ)) (front back : List ℕ)
    → with_octets room (with_octets room text front) back ≡ with_octets room text (front ++ back)
octets-after room text [] back = refl
octets-after room text (octet ∷ front) back = octets-after room (with_octet room text octet) front back

-- two texts
pub written_both : (sheet : Sheet) (front back : List ℕ)
    → written (written sheet front) back ≡ written sheet (front ++ back)
unfolding written
written_both sheet front back =
    ap (λ (t : Option (List ℕ)). record { room = sheet.room; text = t }) (octets-after sheet.room sheet.text front back)

-- no text
pub written_none : (sheet : Sheet) → written sheet [] ≡ sheet
unfolding written
written_none sheet = refl

-- the room stays
pub same_room : (sheet : Sheet) (more : List ℕ) → (written sheet more).room ≡ sheet.room
unfolding written
same_room sheet more = refl

-- ---- what fits

cut-stays : (room : ℕ) (more : List ℕ) → with_octets room None more ≡ None
cut-stays room [] = refl
cut-stays room (octet ∷ more) = cut-stays room more

octet-fits : (room : ℕ) (text : List ℕ) (octet : ℕ) → length text < room
    → with_octet room (Some text) octet ≡ Some (text ++ octet ∷ [])
octet-fits room text octet within =
    let size : length (text ++ octet ∷ []) ≡ length text + 1 = length-append text (octet ∷ []) in
    let least : nat_le (length (text ++ octet ∷ [])) room ≡ true =
    le-leb (length (text ++ octet ∷ [])) room (omega (arith, size, within)) in
    rw least refl

octets-fit : (room : ℕ) (text more : List ℕ) → length text + length more ≤ room
    → with_octets room (Some text) more ≡ Some (text ++ more)
octets-fit room text [] within = ap Some (sym (append-nil text))
octets-fit room text (octet ∷ more) within =
    let size : length (text ++ octet ∷ []) ≡ length text + 1 = length-append text (octet ∷ []) in
    ap (λ (t : Option (List ℕ)). with_octets room t more) (octet-fits room text octet (omega (arith, within)))
    ∙ octets-fit room (text ++ octet ∷ []) more (omega (arith, size, within))
    ∙ ap Some (append_assoc text (octet ∷ []) more)

octet-cut : (room : ℕ) (text : List ℕ) (octet : ℕ) → room ≤ length text
    → with_octet room (Some text) octet ≡ None
octet-cut room text octet past =
    let size : length (text ++ octet ∷ []) ≡ length text + 1 = length-append text (octet ∷ []) in
    elim (leb_tells (length (text ++ octet ∷ [])) room) [
      | inl at_most ↦ absurd (let least = at_most.1 in omega (arith, size, least, past))
      | inr more ↦ rw more.0 refl
    ]

octets-cut : (room : ℕ) (text more : List ℕ) → length text ≤ room → room < length text + length more
    → with_octets room (Some text) more ≡ None
octets-cut room text [] within past = absurd (omega (arith, within, past))
octets-cut room text (octet ∷ more) within past = elim (cases_lt (length text) room) [
  | inl below ↦
      let size : length (text ++ octet ∷ []) ≡ length text + 1 = length-append text (octet ∷ []) in
      ap (λ (t : Option (List ℕ)). with_octets room t more) (octet-fits room text octet below)
      ∙ octets-cut room (text ++ octet ∷ []) more (omega (arith, size, below)) (omega (arith, size, past))
  | inr full ↦
      ap (λ (t : Option (List ℕ)). with_octets room t more) (octet-cut room text octet full) ∙ cut-stays room more
]

-- ---- a paper

-- what is on a paper that holds these octets
abbrev pub sheet_of : (room : ℕ) (is_cut : Bool) → List ℕ → Sheet
sheet_of room is_cut octets = record { room = room; text = if is_cut then None else Some octets }

-- octets that fit
pub put_within : (room : ℕ) (is_cut : Bool) (octets more after : List ℕ) → length octets ≤ room
    → length more ≤ room - length octets → after ≡ octets ++ more
    → Writes (sheet_of room is_cut octets) (sheet_of room is_cut after) more
unfolding written
put_within room true octets more after held within is =
    ap (λ (t : Option (List ℕ)). record { room = room; text = t }) (sym (cut-stays room more))
put_within room false octets more after held within is =
    ap (λ (t : Option (List ℕ)). record { room = room; text = t })
    (ap Some is ∙ sym (octets-fit room octets more (omega (arith, held, within))))

-- octets that do not fit
pub put_past : (room : ℕ) (is_cut : Bool) (octets more : List ℕ) → length octets ≤ room
    → room - length octets < length more → Writes (sheet_of room is_cut octets) (sheet_of room true octets) more
unfolding written
put_past room true octets more held past =
    ap (λ (t : Option (List ℕ)). record { room = room; text = t }) (sym (cut-stays room more))
put_past room false octets more held past =
    ap (λ (t : Option (List ℕ)). record { room = room; text = t })
    (sym (octets-cut room octets more held (omega (arith, held, past))))

from_blank : (room : ℕ) (text : List ℕ) → (written (blank room) text).text ≡ fitting room text
unfolding written
from_blank room text = elim (leb_tells (length text) room) [
  | inl fits ↦
      let within = fits.1 in
      octets-fit room [] text (omega (arith, within)) ∙ (rw fits.0 refl)
  | inr more ↦
      let past = more.1 in
      octets-cut room [] text (omega arith) (omega (arith, past)) ∙ (rw more.0 refl)
]

-- what a text leaves of a blank paper
pub exact : (sheet : Sheet) (text : List ℕ) → IsWritten sheet text → sheet.text ≡ fitting sheet.room text
exact sheet text is = ap (λ (s : Sheet). s.text) is ∙ from_blank sheet.room text

-- the room of a blank paper on which a text was written
pub its_room : (room : ℕ) (old new : Sheet) (text : List ℕ) → old ≡ blank room → Writes old new text → new.room ≡ room
its_room room old new text none writes =
    ap (λ (s : Sheet). s.room) (writes ∙ ap (λ (s : Sheet). written s text) none) ∙ same_room (blank room) text

-- a text written on a blank paper is all that is on it
pub all_of_it : (room : ℕ) (old new : Sheet) (text : List ℕ) → old ≡ blank room → Writes old new text
    → IsWritten new text
all_of_it room old new text none writes =
    let from : new ≡ written (blank room) text = writes ∙ ap (λ (s : Sheet). written s text) none in
    let same : new.room ≡ room = ap (λ (s : Sheet). s.room) from ∙ same_room (blank room) text in
    from ∙ ap (λ (r : ℕ). written (blank r) text) (sym same)

-- a text that was not cut is the whole text
pub whole : (room : ℕ) (text octets : List ℕ) → Some octets ≡ fitting room text → octets ≡ text
whole room text octets is = elim (leb_tells (length text) room) [
  | inl fits ↦ let same : Some octets ≡ Some text = is ∙ rw fits.0 refl in cc
  | inr more ↦ let none : Some octets ≡ None = is ∙ rw more.0 refl in absurd cc
]

-- ---- digits

encoded-append : (front back : List ℕ) → encode_lower (front ++ back) ≡ encode_lower front ++ encode_lower back
unfolding encode_with
encoded-append [] back = refl
encoded-append (octet ∷ front) back =
    ap (λ (t : List ℕ). slice_index lower_digits (octet / 16) ∷ slice_index lower_digits (octet % 16) ∷ t)
    (encoded-append front back)

-- no digits
pub no_octet : (sheet : Sheet) → Writes sheet sheet (encode_lower [])
unfolding encode_with
no_octet sheet = sym (written_none sheet)

-- the digits of the octets up to one, and then those of this octet
pub octet_more : (old so_far new : Sheet) (octets : List ℕ) (i : ℕ) (pair : List ℕ) → i < length octets
    → pair ≡ encode_lower (get_or octets i 0 ∷ []) → Writes old so_far (encode_lower (take i octets))
    → Writes so_far new pair → Writes old new (encode_lower (take (i + 1) octets))
octet_more old so_far new octets i pair within two before one =
    one ∙ ap (λ (s : Sheet). written s pair) before ∙ written_both old (encode_lower (take i octets)) pair
    ∙ ap (λ (t : List ℕ). written old (encode_lower (take i octets) ++ t)) two
    ∙ ap (λ (t : List ℕ). written old t) (sym (encoded-append (take i octets) (get_or octets i 0 ∷ [])))
    ∙ ap (λ (t : List ℕ). written old (encode_lower t)) (sym (take_more octets i 0 within))
