-- An input as it was read.
use Rattle.std.specs.Prelude.{ℕ, Bool, List, Option}

-- what was left of an input before reading, where known, and whether a read of it failed
pub record InputRead : Type 0 where
  pub octets : Option (List ℕ)
  pub has_failed : Bool

-- these values for a reader before and after
abbrev pub read_of : {R : Type 0} → (R → Option (List ℕ)) → (R → Bool) → R → R → InputRead
read_of remaining has_failed before after = record { octets = remaining before; has_failed = has_failed after }
