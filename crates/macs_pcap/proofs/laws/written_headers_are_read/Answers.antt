use Rattle.macs_pcap.proofs.WrittenHeader.{header-read, header-sound}
use Rattle.macs_pcap.proofs.laws.written_headers_are_read.Goals as goal

pub returns-clause-read : goal.returns-clause-read
returns-clause-read c = header-read

pub returns-clause-sound : goal.returns-clause-sound
returns-clause-sound c = header-sound
