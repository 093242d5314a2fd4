-- Texts that are cut at a blank, and texts that have none.
use Rattle.std.proofs.Common.{◌≡◌, ◌≢◌, ℕ, zero, suc, ◌+◌, ◌<◌, ◌^◌, ◌==◌, ◌||◌, Bool, true, false, List, [], ◌∷◌, ◌++◌}
use Rattle.std.proofs.Common.{length, get_or, take, drop, Some, None, Bor, is_ok, decimal, refl, sym, ap}
use Rattle.std.proofs.Common.{◌∙◌, subst, arith}
use Rattle.std.specs.Char.{digit_value}
use Rattle.std.specs.List.{after_first, before_first, list_any, position_or_len}
use Rattle.std.specs.Str.Parse.{AllDigits}
use Rattle.std.proofs.lemmas.Bool.{eqb-false, true≢false}
use Rattle.std.proofs.lemmas.Bool.Decides.{nat_tests}
use Rattle.std.proofs.lemmas.Fmt.{decimal_is_IsNumeral}
use Rattle.std.proofs.lemmas.Grind.{common_steps}
use Rattle.std.proofs.lemmas.List.{append_assoc, drop_all, drop_at, get_or_append_left, get_or_at, length_push}
use Rattle.std.proofs.lemmas.List.{take_all, take_at}
use Rattle.std.proofs.lemmas.List.Sums.{position_or_len_is}
use Rattle.std.proofs.lemmas.Str.Pattern.{IsSplitOnceResult, split_once_first}
use Rattle.hex.specs.Hex.{IsBytes, encode_lower, is_hex_digit}
use Rattle.hex.proofs.HexLemmas.{IsOk-decode_sized, decode_sized-encode_lower}
use Rattle.macs_commands.specs.CommandLines.{after_word, first_word, spaced}

-- ---- texts without an octet

-- no octet of the text is c
abbrev pub Lacks : ℕ → List ℕ → Type 0
Lacks c xs = (i : ℕ) → i < length xs → get_or xs i 0 ≢ c

lacks_nil : (c : ℕ) → Lacks c []
lacks_nil c i within = absurd (omega (arith, within))

lacks_cons : (c x : ℕ) (xs : List ℕ) → (x ≡ c → ⊥) → Lacks c xs → Lacks c (x ∷ xs)
lacks_cons c x xs differs rest zero within = differs
lacks_cons c x xs differs rest (suc i) within = rest i (omega (arith, within))

lacks_more : (c x : ℕ) (xs : List ℕ) (b : Bool) → (x == c) ≡ b → (b || list_any (λ y. y == c) xs) ≡ false
    → (list_any (λ y. y == c) xs ≡ false → Lacks c xs) → Lacks c (x ∷ xs)
lacks_more c x xs true e h rest = absurd (true≢false h)
lacks_more c x xs false e h rest = lacks_cons c x xs (λ same. eqb-false x c e same) (rest h)

-- a text in which a look for the octet finds none
pub lacks : (c : ℕ) (xs : List ℕ) → list_any (λ x. x == c) xs ≡ false → Lacks c xs
lacks c [] h = lacks_nil c
lacks c (x ∷ xs) h = lacks_more c x xs (x == c) refl h (lacks c xs)

digits_lack : (ds : List ℕ) → AllDigits 10 ds → Lacks 32 ds
digits_lack [] digits = lacks_nil 32
digits_lack (d ∷ ds) digits =
    lacks_cons 32 d ds
    (λ blank. let small : 36 < 10 = subst (λ (x : ℕ). digit_value x < 10) blank digits.0 in omega (arith, small))
    (digits_lack ds digits.1)

-- decimal digits
pub decimal_lacks : (n : ℕ) → n < 2 ^ 64 → Lacks 32 (decimal n)
decimal_lacks n small = digits_lack (decimal n) (decimal_is_IsNumeral n small).0.1

-- hex digits
pub hex_lacks : (n : ℕ) (octets : List ℕ) → length octets ≡ n → IsBytes octets → Lacks 32 (encode_lower octets)
hex_lacks n octets size bytes i within blank =
    let decoded = decode_sized-encode_lower octets n size bytes in
    let digits = (IsOk-decode_sized (encode_lower octets) n).0 (ap is_ok decoded) in
    let digit : is_hex_digit 32 ≡ true = subst (λ (x : ℕ). is_hex_digit x ≡ true) blank (digits.1 i 0 within) in
    true≢false (sym digit)

-- ---- where a text is cut

same_test : (c : ℕ) → (c == c) ≡ true
same_test c = grind (arith, nat_tests)

position_or_len-at : (c : ℕ) (xs ys : List ℕ) → Lacks c xs → position_or_len (λ x. x == c) (xs ++ c ∷ ys) ≡ length xs
position_or_len-at c xs ys h =
    position_or_len_is (λ x. x == c) (xs ++ c ∷ ys) (length xs) 0 (grind (arith, common_steps))
    (λ k lt. let ne = h k lt in rw get_or_append_left (grind (arith, nat_tests)))
    (λ _. rw (get_or_at xs c ys 0 (length xs) refl) (same_test c))

before_first-at : (c : ℕ) (xs ys : List ℕ) → Lacks c xs → before_first (λ x. x == c) (xs ++ c ∷ ys) ≡ xs
before_first-at c xs ys h = ap (λ n. take n (xs ++ c ∷ ys)) (position_or_len-at c xs ys h)
    ∙ take_at xs (c ∷ ys) (length xs) refl

after_first-at : (c : ℕ) (xs ys : List ℕ) → Lacks c xs → after_first (λ x. x == c) (xs ++ c ∷ ys) ≡ ys
after_first-at c xs ys h =
    ap (λ n. drop (n + 1) (xs ++ c ∷ ys)) (position_or_len-at c xs ys h)
    ∙ ap (drop (length xs + 1)) (sym (append_assoc xs (c ∷ []) ys))
    ∙ drop_at (xs ++ c ∷ []) ys (length xs + 1) (length_push xs c)

-- a word, a blank, and what comes after that
pub cut_at : (text word rest w after : List ℕ) → (word ≡ first_word text) × (rest ≡ after_word text)
    → text ≡ spaced w after → Lacks 32 w → (word ≡ w) × (rest ≡ after)
cut_at text word rest w after cut is none = (
  cut.0 ∙ ap (λ (t : List ℕ). first_word t) is ∙ before_first-at 32 w after none,
  cut.1 ∙ ap (λ (t : List ℕ). after_word t) is ∙ after_first-at 32 w after none,
)

-- ---- what the standard library finds

-- where there is a blank
pub halves : (text : List ℕ) (x : Bor (List ℕ) × Bor (List ℕ)) → IsSplitOnceResult 32 text (Some x)
    → (x.0.now ≡ first_word text) × (x.1.now ≡ after_word text)
halves text x split = let (inside, front, back) = split_once_first 32 text (Some x) split (omega arith) in (front, back)

-- where there is none
pub whole : (text : List ℕ) → IsSplitOnceResult 32 text None → (text ≡ first_word text) × ([] ≡ after_word text)
whole text split =
    let none = split_once_first 32 text None split (omega arith) in (
      sym (ap (λ n. take n text) none ∙ take_all (length text) text (omega arith)),
      sym (ap (λ n. drop (n + 1) text) none ∙ drop_all (length text + 1) text (omega arith)),
    )
