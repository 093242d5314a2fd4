-- How long a relay may sleep, and how large a buffer may be.
use Rattle.std.specs.Prelude.{◌<◌, ◌≤◌, ℕ}

-- 1 to 60,000 ms
abbrev pub IsWaitLimit : ℕ → Type 0
IsWaitLimit milliseconds = (0 < milliseconds) × (milliseconds ≤ 60000)

-- 1 to 1,073,741,823 octets: twice as many, which is what Linux buffers, fits in 31 bits
abbrev pub IsRoom : ℕ → Type 0
IsRoom octets = (0 < octets) × (octets ≤ 1073741823)
