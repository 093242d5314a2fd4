-- Blocks of sixteen octets.
use Rattle.std.specs.Prelude.{◌≡◌, ◌<◌, ℕ, List, map}
use Rattle.std.specs.List.{range_with_len}
use Rattle.macs_aes.specs.Blocks.{octet}

-- there are this many blocks, of sixteen octets each
pub record AreBlocks (lanes : ℕ) (blocks : List (List ℕ)) : Type 0 where
  pub whole : blocks ≡ map (λ i. map (octet blocks i) (range_with_len 0 16)) (range_with_len 0 lanes)
  pub small : (i j : ℕ) → i < lanes → j < 16 → octet blocks i j < 256
