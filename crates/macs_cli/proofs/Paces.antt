-- How a relay takes its turns, where a number that it has is not read.
use Rattle.std.proofs.Common.{◌≡◌, ◌<◌, ◌^◌, ◌∙◌, ℕ, List, Option, Some, None, IfSome, codes, sym}
use Rattle.std.specs.Prelude.{IsSome}
use Rattle.clap.specs.Words.{Row, Text, first_of}
use Rattle.macs_cli.specs.Waits.{IsRoom, IsWaitLimit}
use Rattle.macs_cli.specs.Words.{FitsPace, HasNumber, HasPace, MayHaveNumber, MayHaveRoom}
use Rattle.macs_cli.specs.declared.words.pace.Milliseconds.{Milliseconds}
use Rattle.macs_cli.specs.declared.words.pace.Pace.{Pace}
use Rattle.macs_cli.specs.declared.words.pace.Pace.TheVariants.{Sleepless, Waiting}

-- a number that is there
pub number-unread : (rows : List Row) (name text : Text) (read : Option ℕ) → first_of name rows ≡ Some text
    → ((n : ℕ) → HasNumber rows name n → n < 2 ^ 64 → IsSome read) → read ≡ None
    → (number : Option ℕ) → MayHaveNumber rows name number → IfSome number (λ n. n < 2 ^ 64) → ⊥
number-unread rows name text read there found is None has fits = let e = sym there ∙ has in cc
number-unread rows name text read there found is (Some n) has fits = let some = found n has fits in cc

-- turns, where no wait is given
pub turns-unread : (rows : List Row) (read : Option ℕ) → first_of (codes "wait") rows ≡ None
    → ((n : ℕ) → HasNumber rows (codes "turns") n → n < 2 ^ 64 → IsSome read) → read ≡ None
    → (pace : Pace) → HasPace rows pace → FitsPace pace → ⊥
turns-unread rows read none found is (Sleepless turns) has fits = let some = found turns has.0 fits in cc
turns-unread rows read none found is (Waiting limit turns) has fits = let e = sym none ∙ has.0.1 in cc

-- a wait that is there
pub wait-unread : (rows : List Row) (text : Text) (read : Option Milliseconds)
    → first_of (codes "wait") rows ≡ Some text
    → ((n : ℕ) → HasNumber rows (codes "wait") n → IsWaitLimit n → IsSome read) → read ≡ None
    → (pace : Pace) → HasPace rows pace → FitsPace pace → ⊥
wait-unread rows text read there found is (Sleepless turns) has fits = let e = sym there ∙ has.1 in cc
wait-unread rows text read there found is (Waiting limit turns) has fits = let some = found limit.0 has.0 has.1 in cc

-- the octets of a buffer, where they are given
pub room-unread : (rows : List Row) (name text : Text) (read : Option ℕ) → first_of name rows ≡ Some text
    → ((n : ℕ) → HasNumber rows name n → IsRoom n → IsSome read) → read ≡ None
    → (room : Option ℕ) → MayHaveRoom rows name room → ⊥
room-unread rows name text read there found is None has = let e = sym there ∙ has in cc
room-unread rows name text read there found is (Some n) has = let some = found n has.0 has.1 in cc
