use Rattle.std.proofs.Common.{rules}
use Rattle.macs_pcap.proofs.Sent.{both-sent, first-cut}
use Rattle.macs_pcap.proofs.writer.write_record.Goals as goal

pub returns-in_err-send : goal.returns-in_err-send
returns-in_err-send g c =
    first-cut _ _ _ _ _ c.send.result c.from_residual.result c.record_header_octets.ensures c.send.ensures
    (search rules) c.from_residual.ensures.0 (search rules)

pub returns : goal.returns
returns g c = both-sent _ _ _ _ _ _ _ c.record_header_octets.ensures c.in_ok-send.ensures.whole
    c.in_ok-send.ensures.write.done c.send-2.ensures
