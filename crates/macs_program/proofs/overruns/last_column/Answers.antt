use Rattle.std.proofs.Common.{None, Some, arith, inl, inr, refl}
use Rattle.std.proofs.lemmas.Str.Pattern.{split_parts}
use Rattle.macs_program.proofs.overruns.last_column.Goals as goal

pub returns-in-Some-split_once-clause-found : goal.returns-in-Some-split_once-clause-found
returns-in-Some-split_once-clause-found c =
    let end = split_parts 10 c.args.text.now (Some (c.in-Some.line, c.in-Some.field-0-1)) c.in-Some.ensures.cases
    (omega arith) in
    let cut =
    split_parts 32 c.in-Some.line.now (Some (c.in-Some-split_once.column, c.in-Some-split_once.field-0-1))
    c.in-Some-split_once.ensures.cases (omega arith) in
    (c.in-Some.line.now, c.in-Some.field-0-1.now, end.0, inr (c.in-Some-split_once.field-0-1.now, cut.0))

pub returns-in-None-clause-found : goal.returns-in-None-clause-found
returns-in-None-clause-found c =
    let end = split_parts 10 c.args.text.now (Some (c.in-Some.line, c.in-Some.field-0-1)) c.in-Some.ensures.cases
    (omega arith) in
    (c.in-Some.line.now, c.in-Some.field-0-1.now, end.0, inl refl)

pub returns-in_default-clause-lacks : goal.returns-in_default-clause-lacks
returns-in_default-clause-lacks c =
    λ _. split_parts 10 c.args.text.now None c.in_default.ensures.cases (omega arith)
