-- When the last frame arrived that verified, as noticed at the desk's next look.
use Rattle.std.specs.Prelude.{◌≡◌, ◌≢◌, ◌⊎◌, ◌+◌, ◌-◌, ◌^◌, ℕ, min, Bool, true, false, Option}
use Rattle.macs_rxsc.specs.declared.counters.RxCounters.{RxCounters}
use Rattle.macs_control.specs.Listening.{IsKnown}

-- how many frames verified, up to 2^64 - 1
abbrev pub good_frames : RxCounters → ℕ
good_frames c = min (c.ok + c.delayed) (2 ^ 64 - 1)

-- the time is noted if more frames verified than before; if it is known, it is that time
abbrev pub NotesGood : Option (Option ℕ) → ℕ → ℕ → Option ℕ → Option ℕ → Type 0
NotesGood time before frames old new =
    ((frames ≡ before) × (new ≡ old)) ⊎ ((frames ≢ before) × IsKnown time new)

-- the same if it is time to look
abbrev pub NotesGoodIf : Bool → Option (Option ℕ) → ℕ → ℕ → Option ℕ → Option ℕ → Type 0
NotesGoodIf true time before frames old new = NotesGood time before frames old new
NotesGoodIf false time before frames old new = new ≡ old

-- how many frames had verified at the last look
abbrev pub good_after : Bool → ℕ → ℕ → ℕ
good_after true before frames = frames
good_after false before frames = before
