-- What Linux reports about the pending signals of a process, proc(5).
use Rattle.std.specs.Prelude.{◌≡◌, ◌≤◌, ◌<◌, ◌++◌, ◌/◌, ◌%◌, ◌^◌, ℕ, List, ◌∷◌, codes, length}
use Rattle.std.specs.Str.Parse.{IsNumeral, digits_value, without_leading_plus}
use Rattle.macs_commands.specs.Inboxes.{HasNoFeed}

-- the mark of the signals pending for the process as a whole stands between these texts, and at no earlier place
abbrev pub IsAroundMark : List ℕ → List ℕ → List ℕ → Type 0
IsAroundMark status front behind = (status ≡ front ++ (codes "ShdPnd:\t" ++ behind))
    × ((earlier rest : List ℕ) → status ≡ earlier ++ (codes "ShdPnd:\t" ++ rest) → length front ≤ length earlier)

-- the text after the mark, up to the end of the line
abbrev pub HasDigits : List ℕ → List ℕ → Type 0
HasDigits status digits = (front back : List ℕ) × IsAroundMark status front (digits ++ 10 ∷ back) × HasNoFeed digits

-- Hex digits of a 64-bit set of signals that SIGTERM, which is 15, is in: signal n is the bit of weight 2^(n - 1). A
-- plus may precede the digits
abbrev pub IsTermSet : List ℕ → Type 0
IsTermSet digits = IsNumeral 16 (without_leading_plus digits) × (digits_value 16 (without_leading_plus digits) < 2 ^ 64)
    × (digits_value 16 (without_leading_plus digits) / 16384 % 2 ≡ 1)

-- the text says that SIGTERM is pending
abbrev pub IsTermPending : List ℕ → Type 0
IsTermPending status = (digits : List ℕ) × HasDigits status digits × IsTermSet digits
