use Rattle.std.proofs.Common.{inl, inr}
use Rattle.macs_program.proofs.overruns.digits_in.Goals as goal

pub returns-in-Some-behind-2-clause-lacks : goal.returns-in-Some-behind-2-clause-lacks
returns-in-Some-behind-2-clause-lacks c = λ none. inr (
  c.in-Some.references.now,
  c.in-Some.ensures.found,
  inr (
    c.in-Some-behind.pointer.now,
    c.in-Some-behind.ensures.found,
    inr (c.in-Some-behind-2.dropped.now, c.in-Some-behind-2.ensures.found, c.last_column.ensures.lacks none),
  ),
)

pub returns-in-None-clause-lacks : goal.returns-in-None-clause-lacks
returns-in-None-clause-lacks c = λ none. inr (
  c.in-Some.references.now,
  c.in-Some.ensures.found,
  inr (c.in-Some-behind.pointer.now, c.in-Some-behind.ensures.found, inl (c.in-None.ensures.lacks none)),
)
