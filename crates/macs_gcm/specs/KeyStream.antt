-- Key stream of initialisation vectors by the deterministic construction (NIST SP 800-38D, 8.2.1): a fixed field of 64
-- bits, and an invocation field of 32, which counts.
use Rattle.std.specs.Prelude.{◌≡◌, ◌<◌, ℕ, ◌+◌, ◌^◌, List, [], ◌++◌, get_or}
use Rattle.std.specs.Int.{w32, to_be_bytes}
use Rattle.macs_aes.specs.Cipher.{encrypt}

-- the counter block with this number of this many invocations from the first on, encrypted
abbrev pub IsRow : ℕ → List ℕ → List ℕ → ℕ → ℕ → List (List ℕ) → Type 0
IsRow count key fixed first number row = (j : ℕ) → j < count → first + j < 2 ^ 32
    → get_or row j [] ≡ encrypt key (fixed ++ to_be_bytes w32 (first + j) ++ to_be_bytes w32 number)

-- row by row, the counter blocks with the numbers from 1 on
abbrev pub IsStream : ℕ → List ℕ → List ℕ → ℕ → ℕ → List (List (List ℕ)) → Type 0
IsStream count key fixed first depth rows = (c : ℕ) → c < depth → IsRow count key fixed first (c + 1) (get_or rows c [])
