use Rattle.std.proofs.lemmas.Result.{err_from_is_err_and}
use Rattle.macs_edge.specs.CaptureRuns.{run_of}
use Rattle.macs_program.proofs.EachLine.{each-stopped, each-summed, each-unsummed}
use Rattle.macs_program.proofs.judging.judge_frames.Goals as goal

pub returns-in_err-summary : goal.returns-in_err-summary
returns-in_err-summary g c =
    let p = err_from_is_err_and c.from_residual.result c.from_residual.ensures.1 in
    each-stopped g.W.Stream.contents g.W.Stream.failed g.D.SectorDisk.disk c.args.is_all
    (run_of c.args.endpoint.now (g.R.Source.state c.args.source.now) (g.S.Sink.state c.args.sink.now))
    (run_of c.print_each.new.endpoint (g.R.Source.state c.print_each.new.source) (g.S.Sink.state c.print_each.new.sink))
    c.args.out.now c.print_each.new.out c.in_err-summary.field-0.0 p.0 c.from_residual.result p.1 p.2
    c.in_err-summary.ensures

pub returns-in_err-print_octets : goal.returns-in_err-print_octets
returns-in_err-print_octets g c =
    let p =
    err_from_is_err_and c.from_residual-in_err-print_octets.result c.from_residual-in_err-print_octets.ensures.1 in
    each-stopped g.W.Stream.contents g.W.Stream.failed g.D.SectorDisk.disk c.args.is_all
    (run_of c.args.endpoint.now (g.R.Source.state c.args.source.now) (g.S.Sink.state c.args.sink.now))
    (run_of c.print_each.new.endpoint (g.R.Source.state c.print_each.new.source) (g.S.Sink.state c.print_each.new.sink))
    c.args.out.now c.print_octets.new.out c.in_err-print_octets.field-0.0 p.0
    c.from_residual-in_err-print_octets.result p.1 p.2
    (each-unsummed g.W.Stream.contents g.W.Stream.failed g.D.SectorDisk.disk c.args.is_all
    (run_of c.args.endpoint.now (g.R.Source.state c.args.source.now) (g.S.Sink.state c.args.sink.now))
    (run_of c.print_each.new.endpoint (g.R.Source.state c.print_each.new.source) (g.S.Sink.state c.print_each.new.sink))
    c.args.out.now c.print_each.new.out c.print_octets.new.out c.in_ok-summary.summary c.in_err-print_octets.field-0.0
    c.in_err-print_octets.ensures.failed c.in_err-print_octets.ensures.broken c.in_ok-summary.ensures)

pub returns : goal.returns
returns g c =
    each-summed g.W.Stream.contents g.W.Stream.failed g.D.SectorDisk.disk c.args.is_all
    (run_of c.args.endpoint.now (g.R.Source.state c.args.source.now) (g.S.Sink.state c.args.sink.now))
    (run_of c.print_each.new.endpoint (g.R.Source.state c.print_each.new.source) (g.S.Sink.state c.print_each.new.sink))
    c.args.out.now c.print_each.new.out c.print_octets.new.out c.in_ok-summary.summary c.pass_status.result
    c.as_slice.result.now c.summary_line.result.items c.as_slice.ensures.value c.summary_line.ensures
    c.in_ok-summary.ensures
    c.in_ok-print_octets.ensures.printed c.pass_status.ensures
