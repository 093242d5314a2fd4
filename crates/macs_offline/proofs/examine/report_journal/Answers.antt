use Rattle.std.proofs.Common.{refl}
use Rattle.macs_disk.specs.MemDisks.{disk_of}
use Rattle.macs_store.specs.Value.{standing_in}
use Rattle.macs_offline.proofs.Examined.{refused-so}
use Rattle.macs_offline.proofs.examine.report_journal.Goals as goal

pub returns-in_ok-text-in-Ok-clause-reported : goal.returns-in_ok-text-in-Ok-clause-reported
returns-in_ok-text-in-Ok-clause-reported c = λ disk opening records told.
    let opens = rw c.in-Ok.is at opening in
    (standing_in c.in-Ok.store, opens.found refl, c.in_ok-text-in-Ok.ensures records told, refl)

pub returns-in-Err-clause-ended : goal.returns-in-Err-clause-ended
returns-in-Err-clause-ended c = λ disk opening.
    let refuses = rw c.in-Err.is at opening in
    refused-so (disk_of disk) c.in-Err.refused.fault c.failure_in_memory.result c.failure_in_memory.ensures
    (λ other. refuses.found other refl)
