-- The states that a source and a sink report.
use Rattle.std.specs.Prelude.{ℕ, Bool, List, Option}

-- the octets that a source has left, if known, and whether a read of it ever failed
pub record SourceState : Type 0 where
  pub left : Option (List ℕ)
  pub failed : Bool

-- the octets that a sink took, if known, whether a write or a flush of it ever failed, and whether all that it took is
-- flushed
pub record SinkState : Type 0 where
  pub held : Option (List ℕ)
  pub failed : Bool
  pub flushed : Bool
