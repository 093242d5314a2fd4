use Rattle.std.proofs.Common.{rules}
use Rattle.macs_disk.specs.FileFailures.{Reads}
use Rattle.macs_disk.proofs.InterruptedCalls.{moved-late, none-yet}
use Rattle.macs_disk.proofs.file_calls.read_exact_at.Goals as goal

pub returns-then-from-clause-cause : goal.returns-then-from-clause-cause
returns-then-from-clause-cause g c = moved-late _ _ Reads _ (none-yet _) (search rules)
