use Rattle.std.specs.Prelude.{◌+◌}
use Rattle.macs_c.proofs.image.ImageDisk.count.Given as goal

abbrev pub ghost-with : goal.ghost-with
ghost-with a = (a.self.now.calls + 1, a.self.now.more)
