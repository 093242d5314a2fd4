use Rattle.macs_c.proofs.reported.ReportedDisk.of.Given as goal

abbrev pub ghost-begun : goal.ghost-begun
ghost-begun g a = (a.sectors.now, g.honest)
