-- Round keys in words of bits: bit j of word k is bit k of octet j.
use Rattle.std.specs.Prelude.{ℕ, List, map, slice_index}
use Rattle.std.specs.Int.{bit_at}
use Rattle.std.specs.List.{range_with_len}
use Rattle.macs_aes.specs.Cipher.{xor_tables}
use Rattle.macs_aes.specs.Blocks.{combined, octet_basis}

-- octet j of the words
abbrev pub octet_in_words : List ℕ → ℕ → ℕ
octet_in_words words j = combined octet_basis (map (λ k. bit_at (slice_index words k) j) (range_with_len 0 8))

-- the sixteen octets of the words
unfoldable pub octets_in_words : List ℕ → List ℕ
octets_in_words words = map (octet_in_words words) (range_with_len 0 16)

-- AddRoundKey of each block
abbrev pub keyed : List ℕ → List (List ℕ) → List (List ℕ)
keyed key blocks = map (λ s. xor_tables s key) blocks
