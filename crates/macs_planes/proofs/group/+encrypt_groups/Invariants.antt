use Rattle.std.proofs.Common.{length}
use Rattle.macs_planes.proofs.group.+encrypt_groups.Given as goal

abbrev pub decreases-encrypt_groups : goal.decreases-encrypt_groups
decreases-encrypt_groups l = length l.blocks.now
