use Rattle.macs_program.proofs.Performed.{judges, protects, relays, validates, validates-so}
use Rattle.macs_program.proofs.run.perform_on_frames.Goals as goal

pub returns-in-Protect : goal.returns-in-Protect
returns-in-Protect g c =
    λ input. rw c.in-Protect.is (protects g.row.T.Denot _ _ _ _ input _ _ _ _ _ _ _ c.pass.ensures.printed
    c.pass.ensures.failed c.pass.ensures.silent c.pass.ensures.ended c.pass.ensures.broken)

pub returns-then-is_each : goal.returns-then-is_each
returns-then-is_each g c = λ input.
    rw c.in-Validate.is
    (validates-so g.row.T.Denot _ _ _ _ input _ _ _ _ _ _ _ c.in-Validate.is_each _ c.if-is_each.true
    (judges g.row.T.Denot _ _ _ _ input _ _ _ _ _ _ _ c.judge.ensures.printed c.judge.ensures.failed
    c.judge.ensures.front
    c.judge.ensures.ended c.judge.ensures.broken))

pub returns-else-is_each : goal.returns-else-is_each
returns-else-is_each g c = λ input.
    rw c.in-Validate.is
    (validates-so g.row.T.Denot _ _ _ _ input _ _ _ _ _ _ _ c.in-Validate.is_each _ c.if-is_each.false
    (validates g.row.T.Denot _ _ _ _ input _ _ _ _ _ _ _ c.pass-else-is_each.ensures.printed
    c.pass-else-is_each.ensures.failed
    c.pass-else-is_each.ensures.silent c.pass-else-is_each.ensures.ended c.pass-else-is_each.ensures.broken))

pub returns-in-Relay : goal.returns-in-Relay
returns-in-Relay g c =
    λ input. rw c.in-Relay.is (relays g.row.T.Denot _ _ _ _ input _ _ _ _ _ _ _ c.relay.ensures)
