use Rattle.macs_c.specs.ReportedDisks.{failures_in}
use Rattle.macs_c.proofs.stepping.did_call.Given as goal

abbrev pub ghost-after : goal.ghost-after
ghost-after g a = (g.next, failures_in a._answer)
