use Rattle.macs_c.proofs.image.ImageDisk.stop.Given as goal

abbrev pub ghost-with : goal.ghost-with
ghost-with a = (a.self.now.calls, 0)
