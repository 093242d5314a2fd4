use Rattle.std.proofs.Common.{◌≡◌, ◌+◌, ◌++◌, drop, string_bytes}
use Rattle.macs_offline.specs.Trying.{trial_lines}
use Rattle.macs_offline.proofs.trial.trial_lines.Given as goal

-- the lines so far, and those from here on, are all
abbrev pub invariant-loop-i : goal.invariant-loop-i
invariant-loop-i l = string_bytes l.text ++ trial_lines (l.i + 1) (drop l.i l.outcomes) ≡ trial_lines 1 l.outcomes
