use Rattle.std.proofs.Common.{subst}
use Rattle.macs_disk.specs.States.{DiskState, IsImage}
use Rattle.macs_disk.proofs.FileCalls.{left-as}
use Rattle.macs_disk.proofs.laws.a_file_is_left_as_its_disk.Goals as goal

pub returns : goal.returns
returns g c it image left behaves is =
    subst (λ (s : DiskState). IsImage s image)
    (left-as g.F.DiskFile.file it.layout it.past.items it.shown it.file it.clock it.kept (left behaves)) is
