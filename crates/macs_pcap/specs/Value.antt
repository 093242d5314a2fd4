-- A reader and a writer of captures, as their callers see them.
use Rattle.std.specs.Prelude.{ℕ, Bool, Option}
use Rattle.macs_pcap.specs.declared.fault.PcapFault.{PcapFault}
use Rattle.macs_pcap.specs.declared.header.Header.{Header}
use Rattle.macs_pcap.specs.declared.reader.PcapReader.{PcapReader}
use Rattle.macs_pcap.specs.declared.writer.PcapWriter.{PcapWriter}

-- the source of a reader
abbrev pub source_of : {R : Type 0} → PcapReader R → R
source_of reader = reader.source

-- the fields of the header
abbrev pub header_of : {R : Type 0} → PcapReader R → Header
header_of reader = reader.header

-- how many capture records were taken
abbrev pub count_of : {R : Type 0} → PcapReader R → ℕ
count_of reader = reader.count

-- the fault that a reader returns for good
abbrev pub lasting_fault : {R : Type 0} → PcapReader R → Option PcapFault
lasting_fault reader = reader.fault

-- the sink of a writer
abbrev pub sink_of : {W : Type 0} → PcapWriter W → W
sink_of writer = writer.sink

-- numbers are written big-endian
abbrev pub writes_big : {W : Type 0} → PcapWriter W → Bool
writes_big writer = writer.big

-- the fault that a writer returns for good
abbrev pub writer_fault : {W : Type 0} → PcapWriter W → Option PcapFault
writer_fault writer = writer.fault
