-- A capture record that was written is read.
use Rattle.std.proofs.Common.{◌≡◌, ◌∙◌, ◌<◌, ◌≤◌, ◌^◌, ℕ, ◌+◌, Bool, List, [], ◌∷◌, ◌++◌, length, take, refl, sym, ap}
use Rattle.std.proofs.Common.{arith, subst, append-nil, append_assoc, length-append}
use Rattle.std.specs.Prelude.{All, None}
use Rattle.std.proofs.lemmas.List.Elements.{All-tail}
use Rattle.macs_pcap.proofs.Fronts.{front, length-front, Stands, behind-number, length-octets_of, number-stands}
use Rattle.macs_pcap.proofs.Taken.{sound-none}
use Rattle.macs_pcap.specs.Captures.{BeginsWithRecords, IsCaptureRecord, records_text}
use Rattle.macs_pcap.specs.Faults.{max_records, record_fault}
use Rattle.macs_pcap.specs.Header.{longest, number_at, octets_of}
use Rattle.macs_pcap.specs.Records.{BeginsWithRecord, CaptureRecord, IsSoundRecordHeader, record_header_text, kept_in}
use Rattle.macs_pcap.specs.Records.{original_in, record_text, stamp_in}
use Rattle.macs_pcap.specs.declared.header.Stamp.{Stamp}

-- ---- the record header

pub length-record_header : (big : Bool) (stamp : Stamp) (size : ℕ) → length (record_header_text big stamp size) ≡ 16
length-record_header big stamp size =
    let seconds = octets_of big 4 stamp.seconds in
    let fraction = octets_of big 4 stamp.fraction in
    let lengths = octets_of big 4 size in
    omega (
      arith,
      length-append seconds (fraction ++ (lengths ++ lengths)),
      length-append fraction (lengths ++ lengths),
      length-append lengths lengths,
      length-octets_of big 4 stamp.seconds,
      length-octets_of big 4 stamp.fraction,
      length-octets_of big 4 size,
    )

module _ (big : Bool) (stamp : Stamp) (size : ℕ) where
  fraction-stands : Stands big 4 4 stamp.fraction (record_header_text big stamp size)
      (octets_of big 4 size ++ octets_of big 4 size)
  fraction-stands = behind-number big 4 0 stamp.seconds (record_header_text big stamp size)
      (octets_of big 4 stamp.fraction ++ (octets_of big 4 size ++ octets_of big 4 size)) refl

  kept-stands : Stands big 4 8 size (record_header_text big stamp size) (octets_of big 4 size)
  kept-stands = behind-number big 4 4 stamp.fraction (record_header_text big stamp size)
      (octets_of big 4 size ++ octets_of big 4 size) fraction-stands

  original-stands : Stands big 4 12 size (record_header_text big stamp size) []
  original-stands = behind-number big 4 8 size (record_header_text big stamp size) (octets_of big 4 size) kept-stands
      ∙ sym (append-nil (octets_of big 4 size))

same-stamp : (stamp : Stamp) (seconds fraction : ℕ) → seconds ≡ stamp.seconds → fraction ≡ stamp.fraction
    → stamp ≡ record { seconds = seconds; fraction = fraction }
same-stamp stamp seconds fraction p q = λ i. record { seconds = sym p i; fraction = sym q i }

pub record_header-stamp : (big : Bool) (stamp : Stamp) (size : ℕ) → stamp.seconds < 2 ^ 32 → stamp.fraction < 2 ^ 32
    → stamp ≡ stamp_in big (record_header_text big stamp size)
record_header-stamp big stamp size seconds fraction =
    let header = record_header_text big stamp size in
    same-stamp stamp (number_at big 4 0 header) (number_at big 4 4 header)
    (number-stands big 4 0 stamp.seconds header
    (octets_of big 4 stamp.fraction ++ (octets_of big 4 size ++ octets_of big 4 size)) refl seconds)
    (number-stands big 4 4 stamp.fraction header (octets_of big 4 size ++ octets_of big 4 size)
    (fraction-stands big stamp size) fraction)

pub record_header-kept : (big : Bool) (stamp : Stamp) (size : ℕ) → size ≤ longest
    → kept_in big (record_header_text big stamp size) ≡ size
record_header-kept big stamp size short =
    let fits : size < 256 ^ 4 = omega (arith, short) in
    number-stands big 4 8 size (record_header_text big stamp size) (octets_of big 4 size)
    (kept-stands big stamp size) fits

pub record_header-original : (big : Bool) (stamp : Stamp) (size : ℕ) → size ≤ longest
    → original_in big (record_header_text big stamp size) ≡ size
record_header-original big stamp size short =
    let fits : size < 256 ^ 4 = omega (arith, short) in
    number-stands big 4 12 size (record_header_text big stamp size) [] (original-stands big stamp size) fits

pub record_header-sound : (big : Bool) (stamp : Stamp) (size : ℕ) → size ≤ longest
    → IsSoundRecordHeader big (record_header_text big stamp size)
record_header-sound big stamp size short =
    let kept = record_header-kept big stamp size short in
    let original = record_header-original big stamp size short in
    record {
      octets = length-record_header big stamp size;
      short = omega (arith, kept, short);
      uncut =
          omega (arith, kept, original);
    }

-- ---- the record

pub record-read : (big : Bool) (taken : CaptureRecord) (rest : List ℕ) → IsCaptureRecord taken
    → BeginsWithRecord big (record_text big taken.stamp taken.frame ++ rest) taken rest
record-read big taken rest fits =
    let size = length taken.frame in
    let header = record_header_text big taken.stamp size in
    let left = record_text big taken.stamp taken.frame ++ rest in
    let split : left ≡ header ++ (taken.frame ++ rest) = append_assoc header taken.frame rest in
    let same : take 16 left ≡ header =
    front left header (taken.frame ++ rest) 16 (length-record_header big taken.stamp size) split in
    record {
      header = subst (λ (l : List ℕ). IsSoundRecordHeader big l) (sym same)
          (record_header-sound big taken.stamp size fits.short);
      stamp = subst (λ (l : List ℕ). taken.stamp ≡ stamp_in big l) (sym same)
          (record_header-stamp big taken.stamp size fits.seconds fits.fraction);
      kept = subst (λ (l : List ℕ). size ≡ kept_in big l) (sym same)
          (sym (record_header-kept big taken.stamp size fits.short));
      octets = split ∙ ap (λ (l : List ℕ). l ++ (taken.frame ++ rest)) (sym same);
    }

-- a capture record that is somewhere has no fault
pub begins-none : (big : Bool) (count : ℕ) (left rest : List ℕ) (taken : CaptureRecord)
    → BeginsWithRecord big left taken rest → count < max_records
    → record_fault big count left ≡ None
begins-none big count left rest taken begins few =
    let all : length left ≡ 16 + length (taken.frame ++ rest) =
    length-front left (take 16 left) (taken.frame ++ rest) 16 begins.header.octets begins.octets in
    let behind = length-append taken.frame rest in
    sound-none big count left begins.header few (omega (arith, all, behind, begins.kept))

pub records-read : (big : Bool) (records : List CaptureRecord) (rest : List ℕ) → All IsCaptureRecord records
    → BeginsWithRecords big (records_text big records ++ rest) records rest
records-read big [] rest fits = refl
records-read big (taken ∷ more) rest fits =
    let one = record_text big taken.stamp taken.frame in
    let behind = records_text big more ++ rest in
    let split : (one ++ records_text big more) ++ rest ≡ one ++ behind =
    append_assoc one (records_text big more) rest in
    let first = record-read big taken behind (fits 0 taken (omega arith)) in (
      behind,
      subst (λ (l : List ℕ). BeginsWithRecord big l taken behind) (sym split) first,
      records-read big more rest (All-tail IsCaptureRecord taken more fits),
    )
