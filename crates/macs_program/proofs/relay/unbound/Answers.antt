use Rattle.std.proofs.Common.{inr}
use Rattle.macs_program.proofs.relay.unbound.Goals as goal

pub returns-in-Err-clause-kept : goal.returns-in-Err-clause-kept
returns-in-Err-clause-kept g c = let ended = c.look_at.ensures.ended in inr (rw c.in-Err.is at ended)

pub returns-in-Err-clause-unbound : goal.returns-in-Err-clause-unbound
returns-in-Err-clause-unbound g c = let ended = c.look_at.ensures.ended in inr (rw c.in-Err.is at ended)
