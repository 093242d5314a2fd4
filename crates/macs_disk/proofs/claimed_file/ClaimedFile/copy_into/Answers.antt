use Rattle.std.proofs.Common.{inl, inr, refl, rules}
use Rattle.std.specs.IoError.{error_kind}
use Rattle.macs_disk.proofs.InterruptedCalls.{not-synced}
use Rattle.macs_disk.proofs.claimed_file.ClaimedFile.copy_into.Goals as goal

pub returns-in_default-clause-refused : goal.returns-in_default-clause-refused
returns-in_default-clause-refused g c =
    let (kind, fails) = not-synced _ (g.F.DiskFile.failures c.copy_octets.new.into) _ error_kind c.sync.result
    c.in_ok-copy_octets.ensures.quiet (search rules) c.sync.ensures.failure in
    (c.sync.new.self, inr (inl (refl, kind, fails)))
