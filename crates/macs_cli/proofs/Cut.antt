-- The pieces of a text, as they are cut off one by one.
use Rattle.std.proofs.Common.{◌≡◌, ◌∙◌, ℕ, suc, ◌+◌, ◌<◌, ◌≤◌, ◌==◌, ◌++◌, Bool, true, false, List, [], ◌∷◌, Bor}
use Rattle.std.proofs.Common.{Some, None, length, take, drop, refl, arith}
use Rattle.std.specs.List.{position_or_len}
use Rattle.std.proofs.lemmas.Str.Pattern.{IsSplitOnceResult, split_once_first}
use Rattle.macs_cli.specs.Cutting.{led_by, pieces}

-- the octets before the first end
abbrev count : ℕ → List ℕ → ℕ
count end = position_or_len (λ octet. octet == end)

pub pieces-nil : (end : ℕ) → pieces end [] ≡ []
unfolding pieces
pieces-nil end = refl

pieces-end : (end octet : ℕ) (rest : List ℕ) → (octet == end) ≡ true → pieces end (octet ∷ rest) ≡ [] ∷ pieces end rest
unfolding pieces
pieces-end end octet rest h = rw h refl

pieces-other : (end octet : ℕ) (rest : List ℕ) → (octet == end) ≡ false
    → pieces end (octet ∷ rest) ≡ led_by octet (pieces end rest)
unfolding pieces
pieces-other end octet rest h = rw h refl

count-end : (end octet : ℕ) (rest : List ℕ) → (octet == end) ≡ true → count end (octet ∷ rest) ≡ 0
count-end end octet rest h = rw h refl

count-other : (end octet : ℕ) (rest : List ℕ) → (octet == end) ≡ false
    → count end (octet ∷ rest) ≡ 1 + count end rest
count-other end octet rest h = rw h refl

abbrev CutsAtEnd : ℕ → List ℕ → Type 0
CutsAtEnd end text =
    pieces end text ≡ take (count end text) text ∷ pieces end (drop (count end text + 1) text)

cuts-octet : (end octet : ℕ) (rest : List ℕ) → count end (octet ∷ rest) < length (octet ∷ rest)
    → (count end rest < length rest → CutsAtEnd end rest) → CutsAtEnd end (octet ∷ rest)
cuts-octet end octet rest within below = go (octet == end) refl
  where
    go : (is : Bool) → (octet == end) ≡ is → CutsAtEnd end (octet ∷ rest)
    go true e = rw (pieces-end end octet rest e, count-end end octet rest e) refl
    go false e =
        let n : count end (octet ∷ rest) ≡ suc (count end rest) = omega (arith, count-other end octet rest e) in
        let next : suc (count end rest) + 1 ≡ suc (count end rest + 1) = omega arith in
        rw (pieces-other end octet rest e, n, next, below (omega (arith, n))) refl

-- up to the first end is the first piece, and after it are the others
pieces-at_end : (end : ℕ) (text : List ℕ) → count end text < length text → CutsAtEnd end text
pieces-at_end end [] h = absurd (omega arith)
pieces-at_end end (octet ∷ rest) h = cuts-octet end octet rest h (pieces-at_end end rest)

one_piece-octet : (end octet : ℕ) (rest : List ℕ) → length (octet ∷ rest) ≤ count end (octet ∷ rest)
    → (0 < length rest → length rest ≤ count end rest → pieces end rest ≡ rest ∷ [])
    → pieces end (octet ∷ rest) ≡ (octet ∷ rest) ∷ []
one_piece-octet end octet rest none below = go (octet == end) refl
  where
    last : (others : List ℕ) → (0 < length others → pieces end others ≡ others ∷ [])
        → led_by octet (pieces end others) ≡ (octet ∷ others) ∷ []
    last [] h = rw (pieces-nil end) refl
    last (next ∷ others) h = rw (h (omega arith)) refl

    go : (is : Bool) → (octet == end) ≡ is → pieces end (octet ∷ rest) ≡ (octet ∷ rest) ∷ []
    go true e = let n = count-end end octet rest e in absurd (omega (arith, n))
    go false e =
        let n = count-other end octet rest e in
        rw (pieces-other end octet rest e) (last rest (λ some. below some (omega (arith, n))))

-- a text without an end is one piece
pieces-no_end : (end : ℕ) (text : List ℕ) → 0 < length text → length text ≤ count end text
    → pieces end text ≡ text ∷ []
pieces-no_end end [] some none = absurd (omega arith)
pieces-no_end end (octet ∷ rest) some none = one_piece-octet end octet rest none (pieces-no_end end rest)

-- ---- what the standard library finds

-- where there is an end
pub pieces-halves : (end : ℕ) (text : List ℕ) (x : Bor (List ℕ) × Bor (List ℕ)) → IsSplitOnceResult end text (Some x)
    → end < 128 → pieces end text ≡ x.0.now ∷ pieces end x.1.now
pieces-halves end text x split low =
    let (inside, front, back) = split_once_first end text (Some x) split low in
    rw (front, back) (pieces-at_end end text inside)

-- where there is none
pub pieces-whole : (end : ℕ) (text : List ℕ) → IsSplitOnceResult end text None → end < 128 → 0 < length text
    → pieces end text ≡ text ∷ pieces end []
pieces-whole end text split low some =
    let none = split_once_first end text None split low in
    rw (pieces-nil end) (pieces-no_end end text some (omega (arith, none)))
