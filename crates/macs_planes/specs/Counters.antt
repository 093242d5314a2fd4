-- The blocks of a group that differ only in their last octet.
use Rattle.std.specs.Prelude.{ℕ, ◌+◌, ◌*◌, ◌/◌, ◌%◌, List, [], ◌∷◌, ◌++◌, take, slice_index, if◌then◌else◌, ◌==◌}

-- a block with n added to its last octet
unfoldable pub numbered : List ℕ → ℕ → List ℕ
numbered block n = take 15 block ++ (slice_index block 15 + n) ∷ []

-- zero, except in the last octet of each block, which is the block's number: octet m of the planes belongs to blocks 8
-- * (m / 16) + n
abbrev pub number_at : ℕ → ℕ → ℕ
number_at m n = if m % 16 == 15 then 8 * (m / 16) + n else 0
