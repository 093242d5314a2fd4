use Rattle.macs_edge.specs.CaptureRuns.{run_of}
use Rattle.macs_program.proofs.EachLine.{each-broken, each-printed}
use Rattle.macs_program.proofs.judging.print_each.Goals as goal

pub returns-then-has_failed : goal.returns-then-has_failed
returns-then-has_failed g c =
    each-broken g.W.Stream.contents g.W.Stream.failed g.D.SectorDisk.disk
    (run_of c.args.endpoint.now (g.R.Source.state c.args.source.now) (g.S.Sink.state c.args.sink.now))
    (run_of c.run_judging-answer.new.endpoint (g.R.Source.state c.run_judging-answer.new.source)
    (g.S.Sink.state c.run_judging-answer.new.sink))
    c.args.out.now c.run_judging-answer.new.out c.run_judging-answer.new.lines c.run_judging-answer.result
    c.run_judging-answer.ensures.judged c.if-has_failed.true

pub returns : goal.returns
returns g c =
    each-printed g.W.Stream.contents g.W.Stream.failed g.D.SectorDisk.disk
    (run_of c.args.endpoint.now (g.R.Source.state c.args.source.now) (g.S.Sink.state c.args.sink.now))
    (run_of c.run_judging-answer.new.endpoint (g.R.Source.state c.run_judging-answer.new.source)
    (g.S.Sink.state c.run_judging-answer.new.sink))
    c.args.out.now c.run_judging-answer.new.out c.run_judging-answer.new.lines c.run_judging-answer.result
    c.run_judging-answer.ensures.judged c.run_judging-answer.ensures.failed c.if-has_failed.false
