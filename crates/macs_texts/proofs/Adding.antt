-- What is written in a loop, and piece by piece.
use Rattle.std.proofs.Common.{◌≡◌, ◌∙◌, ℕ, ◌+◌, ◌<◌, ◌≤◌, List, [], ◌∷◌, ◌++◌, length, take, get_or, append_assoc}
use Rattle.std.proofs.Common.{append-nil, refl, ap, sym, arith}
use Rattle.std.specs.Prelude.{codes, flat_map}
use Rattle.std.proofs.lemmas.Grind.{flat_map-append}
use Rattle.std.proofs.lemmas.List.{take_all, take_more}
use Rattle.macs_commands.specs.Papers.{Sheet, Writes, written}
use Rattle.macs_commands.proofs.Written.{written_both, written_none}
use Rattle.macs_texts.specs.Lines.{line}

-- the lines of the items up to one, and then those of this item
pub one_more : {X : Type 0} (f : X → List ℕ) (xs : List X) (i : ℕ) (d : X) → i < length xs
    → (f (get_or xs i d) ≡ f (get_or xs i d))
    × (flat_map f (take (i + 1) xs) ≡ flat_map f (take i xs) ++ f (get_or xs i d))
one_more f xs i d within = (
  refl,
  rw (
    take_more xs i d within,
    flat_map-append f (take i xs) (get_or xs i d ∷ []),
    append-nil (f (get_or xs i d)),
  ) refl,
)

-- the same on a paper
pub next-item : {X : Type 0} (f : X → List ℕ) (xs : List X) (count i : ℕ) (d x : X) (front before after : Sheet)
    → length xs ≡ count → i < count → x ≡ get_or xs i d → Writes front before (flat_map f (take i xs))
    → Writes before after (f x) → Writes front after (flat_map f (take (i + 1) xs))
next-item {X = X} f xs count i d x front before after counted below is so_far added =
    let within : i < length xs = omega (arith, counted, below) in
    added ∙ ap (λ (s : Sheet). written s (f x)) so_far ∙ written_both front (flat_map f (take i xs)) (f x)
    ∙ ap (λ (y : X). written front (flat_map f (take i xs) ++ f y)) is
    ∙ ap (λ (t : List ℕ). written front t) (sym ((one_more f xs i d within).1))

-- what a loop wrote after other lines
pub looped : {X : Type 0} (f : X → List ℕ) (xs : List X) (count i : ℕ) (front before after : Sheet)
    (lines : List ℕ) → length xs ≡ count → count ≤ i → Writes front before lines
    → Writes before after (flat_map f (take i xs))
    → Writes front after (lines ++ flat_map f xs)
looped {X = X} f xs count i front before after lines counted end so_far added =
    let past : length xs ≤ i = omega (arith, counted, end) in
    added ∙ ap (λ (s : Sheet). written s (flat_map f (take i xs))) so_far
    ∙ written_both front lines (flat_map f (take i xs))
    ∙ ap (λ (t : List X). written front (lines ++ flat_map f t)) (take_all i xs past)

-- once the items that are left are written too, all are: with this as its invariant a loop may need no answer
abbrev pub WritesRest : {X : Type 0} → (X → List ℕ) → List X → List X → Sheet → Sheet → Type 0
WritesRest lines all left front so_far = written so_far (flat_map lines left) ≡ written front (flat_map lines all)

-- one text after another, for search
pub joined : (sheet : Sheet) (front back : List ℕ) → written (written sheet front) back ≡ written sheet (front ++ back)
joined = written_both

-- no text, for search
pub empty : (sheet : Sheet) → written sheet [] ≡ sheet
empty = written_none

-- lines, and then more
pub and_then : (front before after : Sheet) (lines more : List ℕ) → Writes front before lines
    → Writes before after more → Writes front after (lines ++ more)
and_then front before after lines more one two =
    two ∙ ap (λ (s : Sheet). written s more) one ∙ written_both front lines more

-- words, and then the rest of their line
pub and_line : (front before after : Sheet) (words more : List ℕ) → Writes front before words
    → Writes before after (line more) → Writes front after (line (words ++ more))
and_line front before after words more one two =
    and_then front before after words (line more) one two
    ∙ ap (λ (t : List ℕ). written front t) (sym (append_assoc words more (10 ∷ [])))

-- the beginning of a label, and then the rest of the line
pub labelled : (front before after : Sheet) (label more : List ℕ)
    → Writes front before (codes "," ++ (label ++ codes "=\"")) → Writes before after (line more)
    → Writes front after (line (codes "," ++ (label ++ (codes "=\"" ++ more))))
labelled front before after label more one two =
    and_line front before after (codes "," ++ (label ++ codes "=\"")) more one two
    ∙ ap (λ (t : List ℕ). written front (line (codes "," ++ t))) (append_assoc label (codes "=\"") more)

-- the beginning of a sample, and then the rest of its line
pub named : (front before after : Sheet) (name labels more : List ℕ)
    → Writes front before (name ++ (codes "{" ++ labels)) → Writes before after (line more)
    → Writes front after (line (name ++ (codes "{" ++ (labels ++ more))))
named front before after name labels more one two =
    and_line front before after (name ++ (codes "{" ++ labels)) more one two
    ∙ ap (λ (t : List ℕ). written front (line t)) (append_assoc name (codes "{" ++ labels) more)

-- the beginning of a sample, and then more labels
pub more_labels : (front before after : Sheet) (name labels more : List ℕ)
    → Writes front before (name ++ (codes "{" ++ labels)) → Writes before after more
    → Writes front after (name ++ (codes "{" ++ (labels ++ more)))
more_labels front before after name labels more one two =
    and_then front before after (name ++ (codes "{" ++ labels)) more one two
    ∙ ap (λ (t : List ℕ). written front t) (append_assoc name (codes "{" ++ labels) more)

-- no lines
pub nothing : (sheet : Sheet) (lines : List ℕ) → lines ≡ [] → Writes sheet sheet lines
nothing sheet lines none = sym (written_none sheet) ∙ ap (λ (t : List ℕ). written sheet t) (sym none)
