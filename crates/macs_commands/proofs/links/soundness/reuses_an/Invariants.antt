-- None of those so far is before one of its number.
use Rattle.std.proofs.Common.{◌≡◌, drop}
use Rattle.macs_commands.specs.Reading.{reuses_an}
use Rattle.macs_commands.proofs.links.soundness.reuses_an.Given as goal

abbrev pub invariant-loop-i : goal.invariant-loop-i
invariant-loop-i l = reuses_an l.fn.pairs ≡ reuses_an (drop l.i l.fn.pairs)
