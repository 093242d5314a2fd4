-- Capture records, one after another.
use Rattle.std.specs.Prelude.{◌≡◌, ◌<◌, ◌≤◌, ◌^◌, Bool, ℕ, List, [], ◌∷◌, ◌++◌, length}
use Rattle.macs_pcap.specs.Header.{longest}
use Rattle.macs_pcap.specs.Records.{BeginsWithRecord, CaptureRecord, record_text}
use Rattle.macs_pcap.specs.declared.header.Header.{Header}

-- the numbers of a header have four octets
pub record IsHeader (header : Header) : Type 0 where
  pub zone_fits : header.zone < 2 ^ 32
  pub sigfigs_fits : header.sigfigs < 2 ^ 32

-- the numbers of a timestamp have four octets, and the frame is not too long
pub record IsCaptureRecord (taken : CaptureRecord) : Type 0 where
  pub seconds : taken.stamp.seconds < 2 ^ 32
  pub fraction : taken.stamp.fraction < 2 ^ 32
  pub short : length taken.frame ≤ longest

-- `left` begins with these capture records, one after another, followed by `rest`
abbrev pub BeginsWithRecords : Bool → List ℕ → List CaptureRecord → List ℕ → Type 0
BeginsWithRecords big left [] rest = rest ≡ left
BeginsWithRecords big left (taken ∷ more) rest =
    (between : List ℕ) × BeginsWithRecord big left taken between × BeginsWithRecords big between more rest

-- the octets of these capture records as they are written
abbrev pub records_text : Bool → List CaptureRecord → List ℕ
records_text big [] = []
records_text big (taken ∷ more) = record_text big taken.stamp taken.frame ++ records_text big more
