use Rattle.std.proofs.Common.{None, Some}
use Rattle.std.proofs.lemmas.Str.Pattern.{split_text_parts}
use Rattle.macs_program.proofs.overruns.behind.Goals as goal

pub returns-in-Some-clause-found : goal.returns-in-Some-clause-found
returns-in-Some-clause-found c = (
  c.in-Some.field-0-0.now,
  split_text_parts c.args.mark.now c.args.text.now (Some (c.in-Some.field-0-0, c.in-Some.rest)) c.in-Some.ensures.cases,
)

pub returns-in-None-clause-lacks : goal.returns-in-None-clause-lacks
returns-in-None-clause-lacks c =
    λ _. split_text_parts c.args.mark.now c.args.text.now None c.in-None.ensures.cases
