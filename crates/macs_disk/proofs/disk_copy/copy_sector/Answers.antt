use Rattle.std.proofs.Common.{rules}
use Rattle.std.specs.IoError.{error_kind}
use Rattle.macs_disk.specs.FileFailures.{Reads}
use Rattle.macs_disk.proofs.InterruptedCalls.{fails-of}
use Rattle.macs_disk.proofs.disk_copy.copy_sector.Goals as goal

pub returns-in_default-clause-cause : goal.returns-in_default-clause-cause
returns-in_default-clause-cause g c = λ device.
    fails-of _ _ Reads error_kind c.read_sector.result (search rules) c.read_sector.ensures.cause
