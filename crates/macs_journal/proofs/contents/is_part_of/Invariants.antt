use Rattle.std.proofs.Common.{◌≡◌, ◌⊎◌, ◌<◌, ℕ, get_or}
use Rattle.macs_journal.proofs.contents.is_part_of.Given as goal

-- each octet so far is a part
abbrev pub invariant-loop-i : goal.invariant-loop-i
invariant-loop-i l = (k : ℕ) → k < l.i → (get_or l.sector k 0 ≡ 0) ⊎ (get_or l.sector k 0 ≡ get_or l.whole k 0)
