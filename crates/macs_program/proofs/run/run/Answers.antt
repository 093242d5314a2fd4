use Rattle.std.proofs.Common.{inl, inr, refl, sym, ◌∙◌}
use Rattle.macs_program.proofs.Codes.{code-disk, code-usage, no-success, not-failed, refused-link}
use Rattle.macs_cli.specs.Failing.{failure_status}
use Rattle.macs_program.specs.Inputs.{read_of}
use Rattle.macs_program.specs.Run.{FailsFor, PrintsUnlessFailed, complaint}
use Rattle.macs_cli.specs.Words.{texts}
use Rattle.macs_program.proofs.run.run.Goals as goal

pub returns-in-Err-clause-usage : goal.returns-in-Err-clause-usage
returns-in-Err-clause-usage g c =
    λ code. c.in-Err.ensures.usage (code-usage (failure_status c.in-Err.failure) (sym c.report.ensures.status ∙ code))

pub returns-in-Err-clause-disk : goal.returns-in-Err-clause-disk
returns-in-Err-clause-disk g c =
    λ code. c.in-Err.ensures.disk (code-disk (failure_status c.in-Err.failure) (sym c.report.ensures.status ∙ code))

pub returns-in-Err-clause-help : goal.returns-in-Err-clause-help
returns-in-Err-clause-help g c =
    λ code. c.in-Err.ensures.help (code-usage (failure_status c.in-Err.failure) (sym c.report.ensures.status ∙ code))

pub returns-in-Ok-clause-reported : goal.returns-in-Ok-clause-reported
returns-in-Ok-clause-reported g c = not-failed c.in-Ok.status c.code.result c.in-Ok.ensures.status c.code.ensures

pub returns-in-Err-clause-reported : goal.returns-in-Err-clause-reported
returns-in-Err-clause-reported g c = λ done refused. (
  c.in-Err.failure,
  c.report.ensures.status,
  c.report.ensures.printed,
  c.in-Err.ensures.fails,
  c.in-Err.ensures.before,
  c.in-Err.ensures.broken,
)

pub returns-in-Ok-clause-replied : goal.returns-in-Ok-clause-replied
returns-in-Ok-clause-replied g c = λ which. inl (c.in-Ok.status, c.code.ensures, c.in-Ok.ensures.replied, refl)

pub returns-in-Err-clause-replied : goal.returns-in-Err-clause-replied
returns-in-Err-clause-replied g c = λ which.
    inr (refused-link
    (λ failure. PrintsUnlessFailed (g.E.Stream.contents c.args.err.now) (g.E.Stream.contents c.report.new.err)
    (g.E.Stream.failed c.report.new.err) (complaint failure))
    (λ failure. FailsFor g.row.T.Denot g.T.File.DiskFile.file g.T.File.Read.remaining (texts c.args.words.now)
    (read_of g.R.Input.remaining g.R.Input.failed c.args.input.now c.act.new.input)
    (g.W.Stream.contents c.args.out.now) (g.W.Stream.contents c.act.new.out) failure)
    _ c.in-Err.failure c.report.result c.report.ensures.status c.report.ensures.printed c.in-Err.ensures.fails
    c.in-Err.ensures.before which)

pub returns-in-Err-clause-quiet : goal.returns-in-Err-clause-quiet
returns-in-Err-clause-quiet g c = no-success c.in-Err.failure c.report.result c.report.ensures.status
