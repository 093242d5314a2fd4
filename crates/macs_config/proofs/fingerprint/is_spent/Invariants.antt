use Rattle.std.proofs.Common.{◌≡◌, take}
use Rattle.macs_config.specs.Config.{is_spent}
use Rattle.macs_config.proofs.fingerprint.is_spent.Given as goal

abbrev pub invariant-loop-other : goal.invariant-loop-other
invariant-loop-other l = l.found ≡ is_spent (take l.other-index l.spent) l.fingerprint
