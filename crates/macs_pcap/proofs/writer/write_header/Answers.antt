use Rattle.macs_pcap.proofs.Sent.{text-sent}
use Rattle.macs_pcap.proofs.writer.write_header.Goals as goal

pub returns : goal.returns
returns g c = text-sent _ _ _ _ _ c.header_octets.ensures c.send.ensures
