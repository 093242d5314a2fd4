-- The records of a capture, one after another after its header: a record header of 16 octets, then the frame.
use Rattle.std.specs.Prelude.{◌≡◌, ◌≤◌, ℕ, Bool, List, ◌++◌, length, take}
use Rattle.macs_pcap.specs.Header.{longest, number_at, octets_of}
use Rattle.macs_pcap.specs.declared.header.Stamp.{Stamp}

-- a frame with its timestamp
pub record CaptureRecord : Type 0 where
  pub stamp : Stamp
  pub frame : List ℕ

-- a record header as it is written: timestamp, and both lengths as that of the frame
abbrev pub record_header_text : Bool → Stamp → ℕ → List ℕ
record_header_text big stamp size =
    octets_of big 4 stamp.seconds ++ (octets_of big 4 stamp.fraction ++ (octets_of big 4 size ++ octets_of big 4 size))

-- a capture record as it is written
abbrev pub record_text : Bool → Stamp → List ℕ → List ℕ
record_text big stamp frame = record_header_text big stamp (length frame) ++ frame

-- ---- a capture record as it is read

-- the timestamp in a record header
abbrev pub stamp_in : Bool → List ℕ → Stamp
stamp_in big header = record { seconds = number_at big 4 0 header; fraction = number_at big 4 4 header }

-- the kept length: how many octets of the frame come after the record header
abbrev pub kept_in : Bool → List ℕ → ℕ
kept_in big header = number_at big 4 8 header

-- the original length: how many octets the frame had when it was captured
abbrev pub original_in : Bool → List ℕ → ℕ
original_in big header = number_at big 4 12 header

-- the whole frame was kept, and it is not too long
pub record IsSoundRecordHeader (big : Bool) (header : List ℕ) : Type 0 where
  pub octets : length header ≡ 16
  pub short : kept_in big header ≤ longest
  pub uncut : original_in big header ≤ kept_in big header

-- `left` begins with a capture record, followed by `rest`
pub record BeginsWithRecord (big : Bool) (left : List ℕ) (taken : CaptureRecord) (rest : List ℕ) : Type 0 where
  pub header : IsSoundRecordHeader big (take 16 left)
  pub stamp : taken.stamp ≡ stamp_in big (take 16 left)
  pub kept : length taken.frame ≡ kept_in big (take 16 left)
  pub octets : left ≡ take 16 left ++ (taken.frame ++ rest)
