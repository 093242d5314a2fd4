use Rattle.std.proofs.Common.{◌∙◌, Err, ap}
use Rattle.std.proofs.lemmas.Result.{err_from_is_err_and}
use Rattle.macs_pcap.proofs.Taken.{record_header-faulted, record_header-taken}
use Rattle.macs_pcap.proofs.reader.read_record_header.Goals as goal

pub returns-in_err-header-clause-fault : goal.returns-in_err-header-clause-fault
returns-in_err-header-clause-fault g c =
    let header = c.in_err-header in
    let risen = err_from_is_err_and c.from_residual-in_err-header.result c.from_residual-in_err-header.ensures.1 in
    record_header-faulted _ _ c.args.big c.args.count c.in_ok-octets.field-0 c.in-Some.octets header.field-0.0
    c.from_residual-in_err-header.result c.in-Some.is
    c.in_ok-octets.ensures.taken header.ensures.fault (risen.1 ∙ ap Err risen.2)

pub returns-clause-taken : goal.returns-clause-taken
returns-clause-taken g c =
    let header = c.in_ok-header.ensures in
    record_header-taken _ _ c.args.big c.in_ok-octets.field-0 c.in-Some.octets c.in_ok-header.header c.in-Some.is
    c.in_ok-octets.ensures.taken header.stamp header.kept header.sound
