use Rattle.std.proofs.Common.{arith, inl, inr}
use Rattle.std.proofs.lemmas.Result.{IfOk-weaker}
use Rattle.macs_journal.proofs.OnlyReads.{read-done, read-start}
use Rattle.macs_journal.proofs.bad_journal.is_used.Goals as goal

pub returns-then-slot-count-clause-reads : goal.returns-then-slot-count-clause-reads
returns-then-slot-count-clause-reads g c = read-done _ _ _ (read-start _) tt

pub returns-clause-used : goal.returns-clause-used
returns-clause-used g c =
    IfOk-weaker c.gate_is_open.result _ _ (λ is known honest.
    let gate = known honest in (
      λ yes. inr (gate.0 yes),
      λ used. elim used [
        | inl snapshot ↦ absurd (let past = c.if-slot-count.false in omega (arith, snapshot, past))
        | inr opens ↦ gate.1 opens
      ],
    )) c.gate_is_open.ensures.gate
