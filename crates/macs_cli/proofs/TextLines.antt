-- The lines of a text, as they are cut off one by one.
use Rattle.std.proofs.Common.{◌≡◌, ◌≢◌, ℕ, zero, suc, ◌+◌, ◌-◌, ◌<◌, ◌≤◌, ◌==◌, Bool, true, false, List, [], ◌∷◌}
use Rattle.std.proofs.Common.{length, take, drop, slice_index, slice_index_or, if◌then◌else◌, ◌++◌, nat_lt, Option}
use Rattle.std.proofs.Common.{Some, None, length-drop, length-take, refl, ap, ◌∙◌, arith}
use Rattle.std.specs.List.{position, position_or_len}
use Rattle.std.proofs.lemmas.List.{nil_from_length, take_all}
use borrow.Author.Tests.{ltb-true, ltb-false}
use Rattle.macs_cli.specs.Lines.{led_by, line_at, lines}

abbrev is_feed : ℕ → Bool
is_feed octet = octet == 10

-- the octets in front of the first line feed
abbrev count : List ℕ → ℕ
count = position_or_len is_feed

pub lines-nil : lines [] ≡ []
unfolding lines
lines-nil = refl

-- a line feed in front is the end of an empty line
lines-feed : (octet : ℕ) (rest : List ℕ) → is_feed octet ≡ true → lines (octet ∷ rest) ≡ [] ∷ lines rest
unfolding lines
lines-feed octet rest h = rw h refl

-- another octet is the first of the first line
lines-other : (octet : ℕ) (rest : List ℕ) → is_feed octet ≡ false → lines (octet ∷ rest) ≡ led_by octet (lines rest)
unfolding lines
lines-other octet rest h = rw h refl

-- ---- a carriage return

count-feed : (octet : ℕ) (rest : List ℕ) → is_feed octet ≡ true → count (octet ∷ rest) ≡ 0
count-feed octet rest h = rw h refl

count-other : (octet : ℕ) (rest : List ℕ) → is_feed octet ≡ false → count (octet ∷ rest) ≡ 1 + count rest
count-other octet rest h = rw h refl

abbrev CutsAtFeed : List ℕ → Type 0
CutsAtFeed text = lines text ≡ take (count text) text ∷ lines (drop (count text + 1) text)

cuts-octet : (octet : ℕ) (rest : List ℕ) → count (octet ∷ rest) < length (octet ∷ rest)
    → (count rest < length rest → CutsAtFeed rest) → CutsAtFeed (octet ∷ rest)
cuts-octet octet rest within below = go (is_feed octet) refl
  where
    go : (feed : Bool) → is_feed octet ≡ feed → CutsAtFeed (octet ∷ rest)
    go true e = rw (lines-feed octet rest e, count-feed octet rest e) refl
    go false e =
        let n : count (octet ∷ rest) ≡ suc (count rest) = omega (arith, count-other octet rest e) in
        let next : suc (count rest) + 1 ≡ suc (count rest + 1) = omega arith in
        rw (lines-other octet rest e, n, next, below (omega (arith, n))) refl

-- up to the first line feed is the first line, and after it are the others
pub lines-at_feed : (text : List ℕ) → count text < length text → CutsAtFeed text
lines-at_feed [] h = absurd (omega arith)
lines-at_feed (octet ∷ rest) h = cuts-octet octet rest h (lines-at_feed rest)

-- one more octet that is no line feed
one_line-octet : (octet : ℕ) (rest : List ℕ) → length (octet ∷ rest) ≤ count (octet ∷ rest)
    → (0 < length rest → length rest ≤ count rest → lines rest ≡ rest ∷ []) → lines (octet ∷ rest) ≡ (octet ∷ rest) ∷ []
one_line-octet octet rest none below = go (is_feed octet) refl
  where
    last : (others : List ℕ) → (0 < length others → lines others ≡ others ∷ [])
        → led_by octet (lines others) ≡ (octet ∷ others) ∷ []
    last [] h = rw lines-nil refl
    last (next ∷ others) h = rw (h (omega arith)) refl

    go : (feed : Bool) → is_feed octet ≡ feed → lines (octet ∷ rest) ≡ (octet ∷ rest) ∷ []
    go true e = let n = count-feed octet rest e in absurd (omega (arith, n))
    go false e =
        let n = count-other octet rest e in
        rw (lines-other octet rest e) (last rest (λ some. below some (omega (arith, n))))

-- a text with no line feed is one line
pub lines-no_feed : (text : List ℕ) → 0 < length text → length text ≤ count text → lines text ≡ text ∷ []
lines-no_feed [] some none = absurd (omega arith)
lines-no_feed (octet ∷ rest) some none = one_line-octet octet rest none (lines-no_feed rest)

-- ---- at the first line feed, as it is searched for

-- where there is one, the lines are the first and those of what is after it
pub lines-cut : (text : List ℕ) (end : ℕ) → position is_feed text ≡ Some end
    → lines text ≡ take end text ∷ lines (take (length text - (end + 1)) (drop (end + 1) text))
lines-cut text end found = go (nat_lt (count text) (length text)) refl found
  where
    go : (within : Bool) → nat_lt (count text) (length text) ≡ within
        → (if within then Some (count text) else None) ≡ Some end
        → lines text ≡ take end text ∷ lines (take (length text - (end + 1)) (drop (end + 1) text))
    go true within same =
        let place : count text ≡ end = cc in
        let cut = lines-at_feed text (ltb-true _ _ within) in
        let rest = length-drop (end + 1) text in
        let whole = take_all (length text - (end + 1)) (drop (end + 1) text) (omega (arith, rest)) in
        rw whole (rw place at cut)
    go false within same = cc

-- where there is none, the text is one line
pub lines-uncut : (text : List ℕ) → 0 < length text → position is_feed text ≡ None → lines text ≡ text ∷ lines []
lines-uncut text some none = rw lines-nil (lines-no_feed text some (go (nat_lt (count text) (length text)) refl none))
  where
    go : (within : Bool) → nat_lt (count text) (length text) ≡ within
        → (if within then Some (count text) else None) ≡ None
        → length text ≤ count text
    go true within same = cc
    go false within same = ltb-false _ _ within

-- a text that is not empty has a line
length-lines : (text : List ℕ) → 0 < length text → 0 < length (lines text)
length-lines text some = go (position is_feed text) refl
  where
    go : (found : Option ℕ) → position is_feed text ≡ found → 0 < length (lines text)
    go None e = omega (arith, ap length (lines-uncut text some e))
    go (Some end) e = omega (arith, ap length (lines-cut text end e))

-- ---- four lines

-- a text has so many lines more than what is after its first four
length-cut : (text second third fourth rest a b d e : List ℕ) → lines text ≡ a ∷ lines second
    → lines second ≡ b ∷ lines third
    → lines third ≡ d ∷ lines fourth → lines fourth ≡ e ∷ lines rest → length (lines text) ≡ 4 + length (lines rest)
length-cut text second third fourth rest a b d e one two three four =
    omega (arith, ap length one, ap length two, ap length three, ap length four)

-- a text with something after its first four lines has more
pub more_than_four : (text second third fourth rest a b d e : List ℕ) → lines text ≡ a ∷ lines second
    → lines second ≡ b ∷ lines third
    → lines third ≡ d ∷ lines fourth → lines fourth ≡ e ∷ lines rest → 0 < length rest → length (lines text) ≢ 4
more_than_four text second third fourth rest a b d e one two three four some =
    let behind = length-lines rest some in
    let all = length-cut text second third fourth rest a b d e one two three four in
    λ is. omega (arith, is)

-- a text with nothing after its first four lines has four
pub exactly_four : (text second third fourth rest a b d e : List ℕ) → lines text ≡ a ∷ lines second
    → lines second ≡ b ∷ lines third
    → lines third ≡ d ∷ lines fourth → lines fourth ≡ e ∷ lines rest → length rest ≡ 0 → length (lines text) ≡ 4
exactly_four text second third fourth rest a b d e one two three four none =
    let all = length-cut text second third fourth rest a b d e one two three four in
    let empty = ap lines (nil_from_length rest none) ∙ lines-nil in
    omega (arith, ap length empty)

-- ---- lengths

-- each line is no longer than the text
lines-within : (text : List ℕ) (i : ℕ) → length (slice_index_or (lines text) i []) ≤ length text
unfolding lines
lines-within [] i = omega arith
lines-within (octet ∷ rest) i = go (is_feed octet) (lines rest) i (lines-within rest)
  where
    go : (feed : Bool) (others : List (List ℕ)) (i : ℕ) → ((k : ℕ) → length (slice_index_or others k []) ≤ length rest)
        → length (slice_index_or (if feed then [] ∷ others else led_by octet others) i []) ≤ length (octet ∷ rest)
    go true others zero h = omega arith
    go true others (suc i) h = omega (arith, h i)
    go false [] zero h = omega arith
    go false [] (suc i) h = omega arith
    go false (line ∷ more) zero h = omega (arith, h 0)
    go false (line ∷ more) (suc i) h = omega (arith, h (suc i))

pub length-line_at : (text : List ℕ) (i : ℕ) → length (line_at text i) ≤ length text
length-line_at text i = go (slice_index line (length line - 1) == 13)
  where
    line : List ℕ
    line = slice_index_or (lines text) i []

    go : (returned : Bool) → length (if returned then take (length line - 1) line else line) ≤ length text
    go true = omega (arith, length-take (length line - 1) line, lines-within text i)
    go false = lines-within text i
