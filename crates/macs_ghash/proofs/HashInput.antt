-- The blocks of the string that is hashed.
use Rattle.std.proofs.Common.{◌≢◌, ◌≡◌, ℕ, ◌+◌, ◌-◌, ◌*◌, ◌/◌, ◌<◌, ◌≤◌, List, ◌++◌, length, get_or, refl, ap, ◌∙◌}
use Rattle.std.proofs.Common.{arith, inl, inr}
use Rattle.std.proofs.lemmas.Bool.{cases_lt}
use Rattle.std.specs.Int.{w64, w128, from_be_bytes, to_be_bytes}
use Rattle.std.proofs.lemmas.List.{append_assoc, length-append, take_all}
use Rattle.macs_gf.proofs.GhashBlocks.{block_at-append_left, block_at-append_right, get_or-blocks_of, length-blocks_of}
use Rattle.macs_gf.proofs.GhashBlocks.{length-padded}
use Rattle.macs_gf.specs.Ghash.{block_at, blocks_of, hash_input, padded_string}

-- how many blocks a string fills
abbrev pub filled : List ℕ → ℕ
filled octets = (length octets + 15) / 16

-- the parts of what is hashed
grouped : (a c : List ℕ) → hash_input a c
    ≡ padded_string a ++ (padded_string c ++ (to_be_bytes w64 (8 * length a) ++ to_be_bytes w64 (8 * length c)))
grouped a c =
    let m : List ℕ = to_be_bytes w64 (8 * length a) in
    let n : List ℕ = to_be_bytes w64 (8 * length c) in
    append_assoc (padded_string a ++ padded_string c) m n ∙ append_assoc (padded_string a) (padded_string c) (m ++ n)

-- how many octets are hashed
pub length-input : (a c : List ℕ) → length (hash_input a c) ≡ 16 * (filled a + filled c + 1)
length-input a c =
    let p : List ℕ = padded_string a in
    let q : List ℕ = padded_string c in
    let m : List ℕ = to_be_bytes w64 (8 * length a) in
    let n : List ℕ = to_be_bytes w64 (8 * length c) in
    let last : length (m ++ n) ≡ 16 = refl in
    ap length (grouped a c) ∙ omega
    (arith, last, length-append p (q ++ (m ++ n)), length-append q (m ++ n), length-padded a, length-padded c)

-- how many blocks are hashed
pub length-input_blocks : (a c : List ℕ) → length (blocks_of (hash_input a c)) ≡ filled a + filled c + 1
length-input_blocks a c = omega (arith, length-blocks_of (hash_input a c), length-input a c)

-- a block of them
pub input-block : (a c : List ℕ) (i : ℕ) → i < filled a + filled c + 1
    → get_or (blocks_of (hash_input a c)) i 0 ≡ block_at (hash_input a c) i
input-block a c i below =
    let octets : length (hash_input a c) / 16 ≡ filled a + filled c + 1 = omega (arith, length-input a c) in
    get_or-blocks_of (hash_input a c) i (omega arith)

-- a block of the first string
pub input-first : (a c : List ℕ) (i : ℕ) → i < filled a → block_at (hash_input a c) i ≡ block_at (padded_string a) i
input-first a c i below =
    ap (λ s. block_at s i) (grouped a c)
    ∙ block_at-append_left (padded_string a) (padded_string c
    ++ (to_be_bytes w64 (8 * length a) ++ to_be_bytes w64 (8 * length c))) i (omega (arith, length-padded a))

-- a block of the second
pub input-second : (a c : List ℕ) (i j : ℕ) → j + filled a ≡ i → i < filled a + filled c
    → block_at (hash_input a c) i ≡ block_at (padded_string c) j
input-second a c i j place below =
    let rest : List ℕ = to_be_bytes w64 (8 * length a) ++ to_be_bytes w64 (8 * length c) in
    let same : i - filled a ≡ j = omega arith in
    ap (λ s. block_at s i) (grouped a c)
    ∙ block_at-append_right (padded_string a) (padded_string c ++ rest) (filled a) i (length-padded a) (omega arith)
    ∙ ap (block_at (padded_string c ++ rest)) same
    ∙ block_at-append_left (padded_string c) rest j (omega (arith, length-padded c))

-- the lengths
pub input-last : (a c : List ℕ) (i : ℕ) → filled a + filled c ≤ i → i < filled a + filled c + 1
    → block_at (hash_input a c) i
    ≡ from_be_bytes w128 (to_be_bytes w64 (8 * length a) ++ to_be_bytes w64 (8 * length c))
input-last a c i behind below =
    let rest : List ℕ = to_be_bytes w64 (8 * length a) ++ to_be_bytes w64 (8 * length c) in
    let none : i - filled a - filled c ≡ 0 = omega arith in
    let size : length rest ≡ 16 = refl in
    ap (λ s. block_at s i) (grouped a c)
    ∙ block_at-append_right (padded_string a) (padded_string c ++ rest) (filled a) i (length-padded a) (omega arith)
    ∙ block_at-append_right (padded_string c) rest (filled c) (i - filled a) (length-padded c) (omega arith)
    ∙ ap (block_at rest) none ∙ ap (from_be_bytes w128) (take_all 16 rest (omega (arith, size)))

-- one block more after the zero blocks
pub block_more_behind : (old new f : ℕ → ℕ) (m n k : ℕ) → n + k < m → ((j : ℕ) → j < k → old (n + j) ≡ f j)
    → new (n + k) ≡ f k
    → ((l : ℕ) → l < m → l ≢ n + k → new l ≡ old l)
    → (j : ℕ) → j < k + 1 → new (n + j) ≡ f j
block_more_behind old new f m n k below held is others j h = elim (cases_lt j k) [
  | inl lt ↦ others (n + j) (omega arith) (λ e. absurd (omega (arith, e))) ∙ held j lt
  | inr ge ↦
      let same : j ≡ k = omega arith in
      rw same is
]
