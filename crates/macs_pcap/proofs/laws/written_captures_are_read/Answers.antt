use Rattle.macs_pcap.proofs.WrittenRecord.{records-read}
use Rattle.macs_pcap.proofs.laws.written_captures_are_read.Goals as goal

pub returns : goal.returns
returns c = records-read
