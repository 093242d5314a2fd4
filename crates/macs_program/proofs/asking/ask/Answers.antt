use Rattle.std.proofs.lemmas.Result.{err_from_is_err_and}
use Rattle.macs_program.specs.Asking.{SaysOfAsking}
use Rattle.macs_program.proofs.Told.{PutSo, named-fails, named-output, nothing-printed, output-named, put-so}
use Rattle.macs_program.proofs.Told.{unreached-fails, unreached-unbroken}
use Rattle.macs_program.proofs.asking.ask.Given.{Over}
use Rattle.macs_program.proofs.asking.ask.Goals as goal
use Rattle.macs_program.proofs.asking.ask.Goals.{After-converse}

-- what the conversation says
so : (g : Over) (c : After-converse g)
    → PutSo (SaysOfAsking c.args.path.now c.args.question) c.args.question c.args.is_json
    (g.W.Stream.contents c.args.out.now) (g.W.Stream.contents c.converse.new.out) (g.W.Stream.failed c.converse.new.out)
    c.converse.result
so g c =
    put-so g.W.Stream.contents g.W.Stream.failed c.args.path.now _ c.args.out.now _ c.converse.new.out
    g.T.File.Read.remaining c.args.question c.args.is_json c.converse.result c.converse.ensures

pub returns-in_err-asker-clause-failed : goal.returns-in_err-asker-clause-failed
returns-in_err-asker-clause-failed g c =
    let p = err_from_is_err_and c.from_residual.result c.from_residual.ensures.1 in
    rw (p.1, p.2) (unreached-fails c.args.path.now c.args.question _ c.in_err-asker.ensures)

pub returns-in_err-asker-clause-front : goal.returns-in_err-asker-clause-front
returns-in_err-asker-clause-front g c =
    let p = err_from_is_err_and c.from_residual.result c.from_residual.ensures.1 in
    rw p.1 (λ other. nothing-printed c.args.question (g.W.Stream.contents c.args.out.now))

pub returns-in_err-asker-clause-broken : goal.returns-in_err-asker-clause-broken
returns-in_err-asker-clause-broken g c =
    let p = err_from_is_err_and c.from_residual.result c.from_residual.ensures.1 in
    rw (p.1, p.2) (unreached-unbroken c.args.path.now c.args.question c.in_err-asker.field-0.0
    (g.W.Stream.failed c.args.out.now) c.in_err-asker.ensures)

pub returns-in-Ok-clause-printed : goal.returns-in-Ok-clause-printed
returns-in-Ok-clause-printed g c =
    rw c.in-Ok.is at (so g (goal.at.returns-in-Ok-clause-printed g c).After-converse).printed

pub returns-clause-failed : goal.returns-clause-failed
returns-clause-failed g c =
    let said = c.named_failure.ensures in
    named-fails c.args.path.now c.args.question c.in-Err.failure c.named_failure.result
    (rw c.in-Err.is at (so g (goal.at.returns-clause-failed g c).After-converse).failed)
    (record { gone = said.gone; other = said.other_end; same = said.same })

pub returns-clause-front : goal.returns-clause-front
returns-clause-front g c =
    let said = c.named_failure.ensures in
    λ other. (rw c.in-Err.is at (so g (goal.at.returns-clause-front g c).After-converse).front)
    (named-output c.args.path.now c.args.question c.in-Err.failure c.named_failure.result
    (record { gone = said.gone; other = said.other_end; same = said.same }) other)

pub returns-clause-broken : goal.returns-clause-broken
returns-clause-broken g c =
    let said = c.named_failure.ensures in
    λ output. (rw c.in-Err.is at (so g (goal.at.returns-clause-broken g c).After-converse).broken)
    (output-named c.args.path.now c.args.question c.in-Err.failure c.named_failure.result
    (rw c.in-Err.is at (so g (goal.at.returns-clause-broken g c).After-converse).failed)
    (record { gone = said.gone; other = said.other_end; same = said.same }) output)
