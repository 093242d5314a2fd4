-- The header of a capture, its first 24 octets. The magic at the start gives the octet order of every number in the
-- capture, and the unit of timestamps.
use Rattle.std.specs.Prelude.{◌≡◌, ◌==◌, ◌&&◌, ◌||◌, if◌then◌else◌, ◌++◌, ℕ, Bool, true, false, List, take, drop}
use Rattle.byteorder.specs.Endian.{big_bytes, big_number, little_bytes, little_number}
use Rattle.macs_pcap.specs.declared.header.Header.{Header}

-- ---- numbers in a capture: all of them in one octet order, that of its header

-- a number in n octets, big-endian if `big`, else little-endian
abbrev pub octets_of : Bool → ℕ → ℕ → List ℕ
octets_of big n number = if big then big_bytes n number else little_bytes n number

-- the number in the n octets starting at a place, read in the same order
unfoldable pub number_at : Bool → ℕ → ℕ → List ℕ → ℕ
number_at big n place octets = if big then big_number n (drop place octets) else little_number n (drop place octets)

-- ---- a header as it is written

-- the magic as a number: timestamps are in nanoseconds, or in microseconds
abbrev pub magic_of : Bool → ℕ
magic_of nanos = if nanos then 0xa1b23c4d else 0xa1b2c3d4

-- the version of the format is 2.4: its major number
abbrev pub major_version : ℕ
major_version = 2

-- its minor number
abbrev pub minor_version : ℕ
minor_version = 4

-- the link type of Ethernet
abbrev pub ethernet : ℕ
ethernet = 1

-- the longest frame that a capture record may have, in octets
abbrev pub longest : ℕ
longest = 262144

-- a header as it is written: magic, version, zone, sigfigs, the longest frame, link type
abbrev pub header_text : Header → List ℕ
header_text header =
    octets_of header.big 4 (magic_of header.nanos)
    ++ (octets_of header.big 2 major_version ++ (octets_of header.big 2 minor_version
    ++ (octets_of header.big 4 header.zone ++ (octets_of header.big 4 header.sigfigs
    ++ (octets_of header.big 4 longest ++ octets_of header.big 4 ethernet)))))

-- ---- a header as it is read, from its 24 octets

-- a number is one of the two magics
abbrev pub is_magic : ℕ → Bool
is_magic number = number == magic_of false || number == magic_of true

-- big-endian, according to the magic
abbrev pub is_big : List ℕ → Bool
is_big octets = is_magic (number_at true 4 0 octets)

-- the magic is valid in one of the two octet orders
abbrev pub has_magic : List ℕ → Bool
has_magic octets = is_big octets || is_magic (number_at false 4 0 octets)

-- the version is that of the format
abbrev pub has_version : List ℕ → Bool
has_version octets =
    number_at (is_big octets) 2 4 octets == major_version && number_at (is_big octets) 2 6 octets == minor_version

-- the link type, as a whole word, is that of Ethernet
abbrev pub is_of_ethernet : List ℕ → Bool
is_of_ethernet octets = number_at (is_big octets) 4 20 octets == ethernet

-- the fields of a header that are kept
abbrev pub header_in : List ℕ → Header
header_in octets = record {
  big = is_big octets;
  nanos = number_at (is_big octets) 4 0 octets == magic_of true;
  zone = number_at (is_big octets) 4 8 octets;
  sigfigs = number_at (is_big octets) 4 12 octets;
}

-- `left` begins with a header with these fields, followed by `rest`
pub record BeginsWithHeader (left : List ℕ) (header : Header) (rest : List ℕ) : Type 0 where
  pub says : header ≡ header_in (take 24 left)
  pub octets : left ≡ take 24 left ++ rest
