-- What the length of a key says: how many words it has.
use Rattle.std.proofs.Common.{◌≡◌, ℕ, ◌≤◌, ◌⊎◌, List, length, arith, inl, inr}
use Rattle.macs_aes.specs.KeyExpansion.{words_in_key}

-- a key has some words
pub words_in_key-some : (key : List ℕ) → (length key ≡ 16) ⊎ (length key ≡ 32) → 1 ≤ words_in_key key
words_in_key-some key (inl size) = omega (arith, size)
words_in_key-some key (inr size) = omega (arith, size)

-- it has eight at most
pub words_in_key-most : (key : List ℕ) → (length key ≡ 16) ⊎ (length key ≡ 32) → words_in_key key ≤ 8
words_in_key-most key (inl size) = omega (arith, size)
words_in_key-most key (inr size) = omega (arith, size)
