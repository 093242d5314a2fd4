use Rattle.std.specs.Prelude.{◌+◌}
use Rattle.macs_c.proofs.image.ImageDisk.refuse.Given as goal

abbrev pub ghost-with : goal.ghost-with
ghost-with a = (a.self.now.calls, a.self.now.more + 1)
