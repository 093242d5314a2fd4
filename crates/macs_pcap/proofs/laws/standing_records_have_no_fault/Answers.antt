use Rattle.macs_pcap.proofs.WrittenRecord.{begins-none}
use Rattle.macs_pcap.proofs.laws.standing_records_have_no_fault.Goals as goal

pub returns : goal.returns
returns c = begins-none
