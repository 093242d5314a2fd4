use Rattle.std.proofs.Common.{Err, [], inl, inr, refl, subst}
use Rattle.std.proofs.lemmas.Result.{err_from_is_err_and}
use Rattle.macs_pcap.specs.Header.{header_text}
use Rattle.macs_pcap.specs.Writing.{WritesText}
use Rattle.macs_pcap.specs.declared.fault.PcapFault.{PcapFault}
use Rattle.macs_edge.specs.CaptureRuns.{run_of}
use Rattle.macs_edge.specs.Telling.{telling_of}
use Rattle.macs_edge.proofs.capture_runs.run_telling.Goals as goal

pub returns-in_err-header : goal.returns-in_err-header
returns-in_err-header g c =
    let risen = err_from_is_err_and c.from_residual.result c.from_residual.ensures.1 in (
      [],
      inl (
        c.in_err-header.field-0.0,
        rw (risen.1, risen.2) refl,
        c.in_err-header.ensures,
        refl {a = c.args.endpoint.now},
        refl {a = g.W.Sink.state c.args.sink.now},
        refl,
      ),
      refl {a = telling_of c.args.told.now c.args.to.now},
    )

pub returns-in_err-write_header : goal.returns-in_err-write_header
returns-in_err-write_header g c =
    let risen =
    err_from_is_err_and c.from_residual-in_err-write_header.result c.from_residual-in_err-write_header.ensures.1 in
    let is = c.in_err-write_header.ensures.write.names in
    let writes = subst (λ (f : PcapFault).
    WritesText {T = Unit {0}} (g.W.Sink.state c.args.sink.now) (g.W.Sink.state c.write_header.new.sink)
    (header_text c.in_ok-header.header) (Err f)) is c.in_err-write_header.ensures in (
      [],
      inr (inl (
        c.in_ok-header.header,
        c.in_ok-header.ensures,
        rw (risen.1, risen.2, is) refl,
        writes,
        refl {a = c.args.endpoint.now},
        refl,
      )),
      refl {a = telling_of c.args.told.now c.args.to.now},
    )

pub returns : goal.returns
returns g c =
    let between = run_of c.args.endpoint.now (g.R.Source.state c.read_header.new.source)
    (g.W.Sink.state c.write_header.new.sink) in
    let (verdicts, judges, telling) = c.run_records.ensures in (
      verdicts,
      inr (inr (
        c.in_ok-header.header,
        between,
        c.in_ok-header.ensures,
        c.in_ok-write_header.ensures,
        refl {a = c.args.endpoint.now},
        judges,
      )),
      telling,
    )
