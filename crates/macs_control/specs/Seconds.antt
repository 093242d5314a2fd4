-- Seconds that end.
use Rattle.std.specs.Prelude.{◌≡◌, ◌+◌, Bool, true, false, if◌then◌else◌, Option, Some, None, nat_le}
use Rattle.std.specs.Duration.{as_nanos}
use Rattle.std.specs.declared.time.Duration.{Duration}

-- a second or more, 10^9 ns, has passed between two times, or there was no earlier one
abbrev pub is_over : Option Duration → Duration → Bool
is_over None now = true
is_over (Some earlier) now = nat_le (as_nanos earlier + 1000000000) (as_nanos now)

-- The clock gives this time, or fails. The answer is whether a second has ended by then, and if so, that time is the
-- last one from now on
abbrev pub LooksAtTime : Option Duration → Option Duration → Bool → Option Duration → Type 0
LooksAtTime None last ended new = (ended ≡ false) × (new ≡ last)
LooksAtTime (Some now) last ended new = (ended ≡ is_over last now) × (new ≡ (if ended then Some now else last))

-- the same for any time of a clock
abbrev pub LooksAtClock : Option Duration → Bool → Option Duration → Type 0
LooksAtClock last ended new = (time : Option Duration) × LooksAtTime time last ended new
