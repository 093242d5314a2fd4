use Rattle.std.proofs.Common.{inl, inr}
use Rattle.std.proofs.lemmas.Result.{err_from_is_err_and}
use Rattle.macs_program.proofs.AskedFor.{asked-both}
use Rattle.macs_program.proofs.captures.open_both.Goals as goal

pub returns-in_err-source-clause-front : goal.returns-in_err-source-clause-front
returns-in_err-source-clause-front g c =
    let p = err_from_is_err_and c.from_residual.result c.from_residual.ensures.1 in
    rw p.1 (inl c.in_err-source.ensures.refused)

pub returns-in_err-sink-clause-front : goal.returns-in_err-sink-clause-front
returns-in_err-sink-clause-front g c =
    let p = err_from_is_err_and c.from_residual-in_err-sink.result c.from_residual-in_err-sink.ensures.1 in
    rw p.1 (inr (asked-both _ (g.C.Captures.asked c.open.new.self) _ _ _ c.in_ok-source.ensures.opened
    c.in_err-sink.ensures.refused))

pub returns-clause-order : goal.returns-clause-order
returns-clause-order g c =
    asked-both _ (g.C.Captures.asked c.open.new.self) _ _ _ c.in_ok-source.ensures.opened c.in_ok-sink.ensures.made
