use Rattle.macs_pcap.proofs.WrittenRecord.{record-read}
use Rattle.macs_pcap.proofs.laws.written_records_are_read.Goals as goal

pub returns : goal.returns
returns c = record-read
