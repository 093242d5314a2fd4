use Rattle.macs_c.proofs.starting.store_of.Given as goal

abbrev pub ghost-of : goal.ghost-of
ghost-of g a = g.honest
