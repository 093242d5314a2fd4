-- Why a capture is not inspected whole.
use Rattle.std.specs.Prelude.{ℕ, Bool, true, false, List, codes}
use Rattle.macs_pcap.specs.declared.fault.PcapFault.{PcapFault}
use Rattle.macs_pcap.specs.declared.fault.PcapFault.TheVariants as pcap

-- because of a fault of its header; the flag is whether the file is pcapng
abbrev pub header_text : Bool → PcapFault → List ℕ
header_text true pcap.BadMagic = codes "a pcapng file (editcap -F pcap IN OUT)"
header_text false pcap.BadMagic = codes "not a capture"
header_text is_pcapng pcap.BadVersion = codes "not of version 2.4"
header_text is_pcapng pcap.NotEthernet = codes "not of Ethernet frames"
header_text is_pcapng pcap.CutFile = codes "ends inside its header"
header_text is_pcapng fault = codes "cannot be read"

-- because of a fault of a record
abbrev pub record_text : PcapFault → List ℕ
record_text pcap.CutFile = codes "ends inside a record"
record_text pcap.CutRecord = codes "a record of a part of a frame"
record_text pcap.RecordTooLong = codes "a record of more than 262144 octets"
record_text pcap.TooManyRecords = codes "more than 4294967295 records"
record_text fault = codes "cannot be read"
