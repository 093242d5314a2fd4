use Rattle.macs_program.proofs.Performed.{asks, checks, examines, inspects, keys, plans, tells}
use Rattle.macs_program.proofs.run.perform_tool.Goals as goal

pub returns-in-Ask : goal.returns-in-Ask
returns-in-Ask g c = λ input. rw c.in-Ask.is
    (asks g.row.T.Denot _ _ _ _ input _ _ _ _ _ _ c.ask.ensures.printed c.ask.ensures.failed c.ask.ensures.front
    c.ask.ensures.broken)

pub returns-in-Key : goal.returns-in-Key
returns-in-Key g c = λ input. rw c.in-Key.is
    (keys g.row.T.Denot _ _ _ _ input _ _ _ _ c.key.ensures.printed c.key.ensures.failed c.key.ensures.silent
    c.key.ensures.broken)

pub returns-in-Inspect : goal.returns-in-Inspect
returns-in-Inspect g c =
    λ input. rw c.in-Inspect.is (inspects g.row.T.Denot _ _ _ _ input _ _ _ _ c.inspect.ensures.printed
    c.inspect.ensures.failed c.inspect.ensures.ended c.inspect.ensures.front c.inspect.ensures.broken)

pub returns-in-Check : goal.returns-in-Check
returns-in-Check g c = λ input. rw c.in-Check.is (checks g.row.T.Denot _ _ _ _ input _ _ _ _ _ c.check.ensures.printed
    c.check.ensures.ended c.check.ensures.silent c.check.ensures.broken)

pub returns-in-Plan : goal.returns-in-Plan
returns-in-Plan g c =
    λ input. rw c.in-Plan.is (plans g.row.T.Denot _ _ _ _ input _ _ _ c.in-Plan.file c.in-Plan.end c.in-Plan.stage
    c.plan.ensures.printed c.plan.ensures.ended c.plan.ensures.silent c.plan.ensures.broken)

pub returns-in-Examine : goal.returns-in-Examine
returns-in-Examine g c =
    λ input. rw c.in-Examine.is (examines g.row.T.Denot _ _ _ _ input _ _ _ _ _ c.examine.ensures.printed
    c.examine.ensures.ended c.examine.ensures.silent c.examine.ensures.broken)

pub returns-in-About : goal.returns-in-About
returns-in-About g c = λ input. rw c.in-About.is (tells g.row.T.Denot _ _ _ _ input _ _ _ c.about.ensures.printed
    c.about.ensures.ended c.about.ensures.silent c.about.ensures.broken)
