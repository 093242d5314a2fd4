use Rattle.std.proofs.Common.{◌∙◌, Err, ap}
use Rattle.std.proofs.lemmas.Result.{err_from_is_err_and}
use Rattle.macs_pcap.proofs.Taken.{frame-unread}
use Rattle.macs_pcap.proofs.reader.read_into.Goals as goal

pub returns-in_err-read_frame-clause-unread : goal.returns-in_err-read_frame-clause-unread
returns-in_err-read_frame-clause-unread g c =
    let frame = c.in_err-read_frame in
    let risen =
    err_from_is_err_and c.from_residual-in_err-read_frame.result c.from_residual-in_err-read_frame.ensures.1 in
    frame-unread (g.R.Source.state c.args.source.now) (g.R.Source.state c.read_record_header.new.source)
    (g.R.Source.state c.read_frame.new.source)
    c.args.big c.in_ok-header.field-0 c.in-Some.header frame.field-0.0 c.from_residual-in_err-read_frame.result
    c.in-Some.is
    c.in_ok-header.ensures.taken frame.ensures.names (λ memory. ap g.R.Source.state (frame.ensures.memory memory).1)
    (risen.1 ∙ ap Err risen.2)
