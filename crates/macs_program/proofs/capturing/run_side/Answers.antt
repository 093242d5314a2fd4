use Rattle.std.proofs.Common.{subst, sym}
use Rattle.macs_edge.specs.CaptureRuns.{RunsOver, run_of}
use Rattle.macs_edge.specs.declared.settling.Side.{Side}
use Rattle.macs_program.proofs.capturing.run_side.Goals as goal

pub returns-in-Controlled : goal.returns-in-Controlled
returns-in-Controlled g c =
    subst (λ (d : Side). RunsOver g.D.SectorDisk.disk d
    (run_of c.args.endpoint.now (g.R.Source.state c.args.source.now) (g.W.Sink.state c.args.sink.now))
    c.run_protect.result
    (run_of c.run_protect.new.endpoint (g.R.Source.state c.run_protect.new.source)
    (g.W.Sink.state c.run_protect.new.sink)))
    (sym c.in-Controlled.is) c.run_protect.ensures.runs

pub returns-in-Common : goal.returns-in-Common
returns-in-Common g c =
    subst (λ (d : Side). RunsOver g.D.SectorDisk.disk d
    (run_of c.args.endpoint.now (g.R.Source.state c.args.source.now) (g.W.Sink.state c.args.sink.now))
    c.run_validate.result
    (run_of c.run_validate.new.endpoint (g.R.Source.state c.run_validate.new.source)
    (g.W.Sink.state c.run_validate.new.sink)))
    (sym c.in-Common.is) c.run_validate.ensures.runs
