use Rattle.macs_c.proofs.endpoint_exports.macs_open.Given as goal

abbrev pub ghost-store_of : goal.ghost-store_of
ghost-store_of g a = g.honest
