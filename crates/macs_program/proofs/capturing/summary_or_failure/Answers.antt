use Rattle.macs_program.proofs.capturing.summary_or_failure.Goals as goal

pub failure_of_run-requires : goal.failure_of_run-requires
failure_of_run-requires c = rw c.in-Err.is at c.requires
