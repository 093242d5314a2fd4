-- What is wrong with the octets of a capture: the first fault that applies, in order.
use Rattle.std.specs.Prelude.{ℕ, ◌-◌, ◌^◌, ◌==◌, nat_le, nat_lt, if◌then◌else◌, Bool, not, List, length, take, Option}
use Rattle.std.specs.Prelude.{Some, None}
use Rattle.std.specs.Option.{option_or}
use Rattle.macs_pcap.specs.Header.{has_magic, has_version, is_of_ethernet, longest}
use Rattle.macs_pcap.specs.Records.{kept_in, original_in}
use Rattle.macs_pcap.specs.declared.fault.PcapFault.{PcapFault}
use Rattle.macs_pcap.specs.declared.fault.PcapFault.TheVariants.{BadMagic, BadVersion, NotEthernet, CutFile, CutRecord}
use Rattle.macs_pcap.specs.declared.fault.PcapFault.TheVariants.{RecordTooLong, TooManyRecords}

-- the maximum number of capture records that are read
abbrev pub max_records : ℕ
max_records = 2 ^ 32 - 1

-- in the 24 octets of a header
abbrev pub field_fault : List ℕ → Option PcapFault
field_fault octets =
    if not (has_magic octets) then Some BadMagic
    else if not (has_version octets) then Some BadVersion
    else if not (is_of_ethernet octets) then Some NotEthernet
    else None

-- in the octets where a header should be
abbrev pub header_fault : List ℕ → Option PcapFault
header_fault left = if nat_lt (length left) 24 then Some CutFile else field_fault (take 24 left)

-- in the 16 octets of a record header, after `count` capture records
abbrev pub record_header_fault : Bool → ℕ → List ℕ → Option PcapFault
record_header_fault big count header =
    if nat_le max_records count then Some TooManyRecords
    else if nat_lt longest (kept_in big header) then Some RecordTooLong
    else if nat_lt (kept_in big header) (original_in big header) then Some CutRecord
    else None

-- in the octets after a record header, where its frame should be
abbrev pub frame_fault : ℕ → ℕ → Option PcapFault
frame_fault kept octets = if nat_lt octets kept then Some CutFile else None

-- in the octets where a capture record should be, after `count` others; none if there is no octet, which is the end
abbrev pub record_fault : Bool → ℕ → List ℕ → Option PcapFault
record_fault big count left =
    if length left == 0 then None
    else if nat_lt (length left) 16 then Some CutFile
    else option_or (record_header_fault big count (take 16 left))
    (frame_fault (kept_in big (take 16 left)) (length left - 16))
