use Rattle.macs_c.proofs.endpoint_exports.macs_did_call.Given as goal

abbrev pub ghost-did_call : goal.ghost-did_call
ghost-did_call g a = g.next
