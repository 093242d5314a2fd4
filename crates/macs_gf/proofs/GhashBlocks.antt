-- The blocks of padded and joined strings, and GHASH over them one after another.
use Rattle.std.proofs.Common.{◌≡◌, ℕ, ◌+◌, ◌-◌, ◌*◌, ◌/◌, ◌%◌, ◌<◌, ◌≤◌, List, [], ◌∷◌, ◌++◌, length, replicate, take}
use Rattle.std.proofs.Common.{drop, get_or, sym, refl, ap, ◌∙◌, arith, inl, inr}
use Rattle.std.specs.Int.{w128, from_be_bytes}
use Rattle.std.specs.List.{slice_range}
use Rattle.std.proofs.lemmas.Bool.{cases_lt}
use Rattle.std.proofs.lemmas.Grind.{same_number_lists}
use Rattle.std.proofs.lemmas.List.{drop-append-le, drop-drop, drop_at, get_or-append_right, get_or-drop}
use Rattle.std.proofs.lemmas.List.{get_or-replicate, get_or-take, get_or_append_left, get_or_past, length-append}
use Rattle.std.proofs.lemmas.List.{length-drop, length-replicate, length-take-le, take-append-le, take_more}
use Rattle.std.proofs.lemmas.List.FromFn.{get_or-map-range_with_len, length-map-range_with_len}
use Rattle.std.proofs.lemmas.List.Sums.{fold-append}
use Rattle.macs_gf.specs.Ghash.{absorb, block_at, blocks_of, ghash_from, padded_string}

-- ---- padding

-- a padded string has whole blocks, as many as the string needs
pub length-padded : (octets : List ℕ) → length (padded_string octets) ≡ 16 * ((length octets + 15) / 16)
length-padded octets =
    let zeros : ℕ = (16 - length octets % 16) % 16 in
    omega (arith, length-append octets (replicate zeros 0), length-replicate {A = ℕ} zeros 0)

-- an octet past the end reads as the zero that pads
pub get_or-padded : (octets : List ℕ) (k : ℕ) → get_or (padded_string octets) k 0 ≡ get_or octets k 0
get_or-padded octets k =
    let zeros : ℕ = (16 - length octets % 16) % 16 in
    elim (cases_lt k (length octets)) [
      | inl inside ↦ get_or_append_left octets (replicate zeros 0) 0 k inside
      | inr past ↦
          get_or-append_right octets (replicate zeros 0) (length octets) k 0 refl past
          ∙ (elim (cases_lt (k - length octets) zeros) [
            | inl among ↦ get_or-replicate zeros (k - length octets) 0 0 among
            | inr beyond ↦ get_or_past (replicate zeros 0) (k - length octets) 0
                (omega (arith, length-replicate {A = ℕ} zeros 0))
          ])
          ∙ sym (get_or_past octets k 0 past)
    ]

-- ---- blocks

-- the octets of block i
pub block_octets : (octets : List ℕ) (i : ℕ)
    → slice_range octets (16 * i) (16 * i + 16) ≡ take 16 (drop (16 * i) octets)
block_octets octets i =
    let size : 16 * i + 16 - 16 * i ≡ 16 = omega arith in
    ap (λ (n : ℕ). take n (drop (16 * i) octets)) size

-- a block from its sixteen octets
pub block_at-is : (octets block : List ℕ) (i : ℕ) → length block ≡ 16 → 16 * i + 16 ≤ length octets
    → ((k : ℕ) → k < 16 → get_or block k 0 ≡ get_or octets (16 * i + k) 0)
    → from_be_bytes w128 block ≡ block_at octets i
block_at-is octets block i size inside each =
    let rest : List ℕ = drop (16 * i) octets in
    let long : 16 ≤ length rest = omega (arith, length-drop (16 * i) octets) in
    let same : block ≡ take 16 rest =
    same_number_lists block (take 16 rest) (omega (arith, length-take-le 16 rest long))
    (λ k below. each k (omega arith) ∙ sym (get_or-take 16 rest k 0 (omega arith) ∙ get_or-drop (16 * i) octets k 0)) in
    ap (from_be_bytes w128) (same ∙ sym (block_octets octets i))

-- a block of the front of a string
pub block_at-append_left : (front octets : List ℕ) (i : ℕ) → 16 * i + 16 ≤ length front
    → block_at (front ++ octets) i ≡ block_at front i
block_at-append_left front octets i inside =
    let rest : List ℕ = drop (16 * i) front in
    let long : 16 ≤ length rest = omega (arith, length-drop (16 * i) front) in
    let same : take 16 (drop (16 * i) (front ++ octets)) ≡ take 16 rest =
    ap (take 16) (drop-append-le (16 * i) front octets (omega arith)) ∙ take-append-le 16 rest octets long in
    ap (from_be_bytes w128) (block_octets (front ++ octets) i ∙ same ∙ sym (block_octets front i))

-- a block after n whole blocks
pub block_at-append_right : (front octets : List ℕ) (n i : ℕ) → length front ≡ 16 * n → n ≤ i
    → block_at (front ++ octets) i ≡ block_at octets (i - n)
block_at-append_right front octets n i size behind =
    let place : 16 * i ≡ 16 * n + 16 * (i - n) = omega arith in
    let rest : drop (16 * i) (front ++ octets) ≡ drop (16 * (i - n)) octets =
    ap (λ (k : ℕ). drop k (front ++ octets)) place ∙ sym (drop-drop (16 * (i - n)) (16 * n) (front ++ octets))
    ∙ ap (drop (16 * (i - n))) (drop_at front octets (16 * n) size) in
    ap (from_be_bytes w128) (block_octets (front ++ octets) i ∙ ap (take 16) rest ∙ sym (block_octets octets (i - n)))

-- how many whole blocks a string has
pub length-blocks_of : (octets : List ℕ) → length (blocks_of octets) ≡ length octets / 16
unfolding blocks_of
length-blocks_of octets = length-map-range_with_len (block_at octets) 0 (length octets / 16)

-- each of them
pub get_or-blocks_of : (octets : List ℕ) (i : ℕ) → i < length octets / 16
    → get_or (blocks_of octets) i 0 ≡ block_at octets i
unfolding blocks_of
get_or-blocks_of octets i below =
    get_or-map-range_with_len (block_at octets) 0 (length octets / 16) i i 0 below (omega arith)

-- the blocks of a string after whole blocks
pub blocks_of-append : (front octets : List ℕ) → length front % 16 ≡ 0
    → blocks_of (front ++ octets) ≡ blocks_of front ++ blocks_of octets
blocks_of-append front octets whole =
    let n : ℕ = length front / 16 in
    let size : length front ≡ 16 * n = omega arith in
    let first : length (blocks_of front) ≡ n = length-blocks_of front in
    let all : length (front ++ octets) / 16 ≡ n + length octets / 16 = omega (arith, length-append front octets) in
    let count : length (blocks_of (front ++ octets)) ≡ length (blocks_of front ++ blocks_of octets) =
    omega (
      arith,
      all,
      length-blocks_of (front ++ octets),
      first,
      length-blocks_of octets,
      length-append (blocks_of front) (blocks_of octets),
    ) in
    same_number_lists (blocks_of (front ++ octets)) (blocks_of front ++ blocks_of octets) count (λ k below.
    let within : k < length (front ++ octets) / 16 = omega (arith, below, length-blocks_of (front ++ octets)) in
    get_or-blocks_of (front ++ octets) k within
    ∙ (elim (cases_lt k n) [
      | inl early ↦
          block_at-append_left front octets k (omega arith)
          ∙ sym (get_or_append_left (blocks_of front) (blocks_of octets) 0 k (omega arith)
          ∙ get_or-blocks_of front k early)
      | inr late ↦
          block_at-append_right front octets n k size late
          ∙ sym (get_or-append_right (blocks_of front) (blocks_of octets) n k 0 first late
          ∙ get_or-blocks_of octets (k - n) (omega arith))
    ]))

-- ---- GHASH

-- the blocks of two lists, one list after the other
pub ghash_from-append : (h y : ℕ) (first second : List ℕ)
    → ghash_from h y (first ++ second) ≡ ghash_from h (ghash_from h y first) second
ghash_from-append h y first second = fold-append (absorb h) y first second

-- one block more
pub ghash_from-more : (h y : ℕ) (blocks : List ℕ) (i block : ℕ) → i < length blocks → block ≡ get_or blocks i 0
    → ghash_from h y (take (i + 1) blocks) ≡ absorb h (ghash_from h y (take i blocks)) block
ghash_from-more h y blocks i block below is =
    ap (ghash_from h y) (take_more blocks i 0 below) ∙ ghash_from-append h y (take i blocks) (get_or blocks i 0 ∷ [])
    ∙ ap (absorb h (ghash_from h y (take i blocks))) (sym is)
