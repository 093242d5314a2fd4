-- the name is none of those that it was compared with
use Rattle.macs_program.proofs.Refused.{AreOthers}
use Rattle.macs_program.proofs.sending.refusal_named.Given as goal

abbrev pub invariant-loop-refusal : goal.invariant-loop-refusal
invariant-loop-refusal l = AreOthers l.name l.refusal-index
