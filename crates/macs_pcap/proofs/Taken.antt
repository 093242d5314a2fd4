-- What the octets say that were taken from a source.
use Rattle.std.proofs.Common.{rules, ◌≡◌, ◌≢◌, ◌∙◌, ◌<◌, ◌≤◌, ◌⊎◌, ℕ, ◌+◌, Bool, false, List, ◌++◌, length, take}
use Rattle.std.proofs.Common.{replicate, Option, Some, None, Result, Ok, Err, IfErr, IfOk, IfSome, inr, refl, sym, ap}
use Rattle.std.proofs.Common.{arith, subst}
use Rattle.std.specs.Prelude.{◌==◌, nat_lt}
use Rattle.std.specs.Io.KnownBytes.{Consumes}
use Rattle.std.proofs.lemmas.Bool.{le-ltb}
use Rattle.macs_pcap.proofs.Fronts.{front, length-front, whole-taken}
use Rattle.macs_pcap.specs.Faults.{field_fault, record_header_fault, header_fault, max_records, record_fault}
use Rattle.macs_pcap.specs.Header.{BeginsWithHeader, header_in}
use Rattle.macs_pcap.specs.Reading.{AnswersRecordHeaderFault, HoldsOfLeft, IsOfRecordHeader, LeavesFrame, ReadsHeader}
use Rattle.macs_pcap.specs.Reading.{TakesRecordHeader, TakesOctets, TellsFailedRead, fault_in}
use Rattle.macs_pcap.specs.Records.{IsSoundRecordHeader, kept_in, stamp_in}
use Rattle.macs_pcap.specs.States.{SourceState}
use Rattle.macs_pcap.specs.declared.fault.PcapFault.{PcapFault}
use Rattle.macs_pcap.specs.declared.fault.PcapFault.TheVariants.{CutFile, Read, Memory, Write}
use Rattle.macs_pcap.specs.declared.fields.RecordHeader.{RecordHeader}
use Rattle.macs_pcap.specs.declared.header.Header.{Header}
use Rattle.macs_pcap.specs.declared.header.Stamp.{Stamp}

-- ---- the header

header-taken : (before after : Option (List ℕ)) (octets : List ℕ) (answer : Result Header PcapFault)
    → length octets ≡ 24 → Consumes before after octets
    → IfOk answer (λ header. header ≡ header_in octets)
    → IfOk answer (λ header. HoldsOfLeft before after (λ left rest. BeginsWithHeader left header rest))
header-taken None after octets (Ok header) size taken says = tt
header-taken (Some left) None octets (Ok header) size taken says = absurd taken
header-taken (Some left) (Some rest) octets (Ok header) size taken says =
    let same : take 24 left ≡ octets = front left octets rest 24 size taken in
    record { says = says ∙ ap header_in (sym same); octets = taken ∙ ap (λ (l : List ℕ). l ++ rest) (sym same) }
header-taken before after octets (Err fault) size taken says = tt

header-faulted : (before after : Option (List ℕ)) (octets : List ℕ) (answer : Result Header PcapFault)
    → length octets ≡ 24 → Consumes before after octets
    → fault_in answer ≡ field_fault octets
    → IfSome before (λ left. (answer ≡ Err Read) ⊎ (fault_in answer ≡ header_fault left))
header-faulted None after octets answer size taken fault = tt
header-faulted (Some left) None octets answer size taken fault = absurd taken
header-faulted (Some left) (Some rest) octets answer size taken fault =
    let same : take 24 left ≡ octets = front left octets rest 24 size taken in
    let all : length left ≡ 24 + length rest = length-front left octets rest 24 size taken in
    let enough : nat_lt (length left) 24 ≡ false = le-ltb (length left) 24 (omega (arith, all)) in
    let judged : header_fault left ≡ field_fault octets = rw enough (ap field_fault same) in
    inr (fault ∙ sym judged)

-- the 24 octets were read, and are judged
pub header-read : (before after : SourceState) (octets : List ℕ) (count : ℕ) (answer : Result Header PcapFault)
    → length octets ≡ 24 → 24 ≤ count
    → Consumes before.left after.left (take count octets) → IfOk answer (λ header. header ≡ header_in octets)
    → fault_in answer ≡ field_fault octets
    → TellsFailedRead before.failed after.failed answer → IfErr answer (λ fault. (fault ≢ Write) × (fault ≢ Memory))
    → ReadsHeader before after answer
header-read before after octets count answer size enough taken says fault read names =
    let whole = whole-taken before.left after.left octets 24 count size enough taken in
    record {
      header = header-taken before.left after.left octets answer size whole says;
      fault = header-faulted before.left after.left octets answer size whole fault;
      read = read;
      names = names;
    }

-- ---- record headers

-- the octets that were taken say what a sound record header says
pub record_header-taken : (before after : Option (List ℕ)) (big : Bool) (found : Option (List ℕ)) (octets : List ℕ)
    (header : RecordHeader) → found ≡ Some octets
    → HoldsOfLeft before after (TakesOctets found) → header.stamp ≡ stamp_in big octets
    → header.kept ≡ kept_in big octets → IsSoundRecordHeader big octets
    → HoldsOfLeft before after (TakesRecordHeader big (Some header))
record_header-taken None after big found octets header is taken stamp kept sound = tt
record_header-taken (Some left) None big found octets header is taken stamp kept sound = absurd taken
record_header-taken (Some left) (Some rest) big found octets header is taken stamp kept sound =
    let (size, split) = subst (λ (f : Option (List ℕ)). TakesOctets f left rest) is taken in
    let same : octets ≡ take 16 left = sym (front left octets rest 16 size split) in (
      subst (IsSoundRecordHeader big) same sound,
      stamp ∙ ap (stamp_in big) same,
      kept ∙ ap (kept_in big) same,
      split ∙ ap (λ (l : List ℕ). l ++ rest) same,
    )

-- a fault of a record header is the first of the octets where its capture record should be
faulted-by : (big : Bool) (count : ℕ) (left : List ℕ) (fault : PcapFault) → 16 ≤ length left
    → record_header_fault big count (take 16 left) ≡ Some fault
    → record_fault big count left ≡ Some fault
faulted-by big count left fault enough is =
    let some : (length left == 0) ≡ false = search rules in
    let whole : nat_lt (length left) 16 ≡ false = le-ltb (length left) 16 enough in
    rw (some, whole, is) refl

record_header-judged : (before after : Option (List ℕ)) (big : Bool) (count : ℕ) (octets : List ℕ) (fault : PcapFault)
    → HoldsOfLeft before after (TakesOctets (Some octets)) → Some fault ≡ record_header_fault big count octets
    → IfSome before (AnswersRecordHeaderFault big count fault)
record_header-judged None after big count octets fault taken is = tt
record_header-judged (Some left) None big count octets fault taken is = absurd taken
record_header-judged (Some left) (Some rest) big count octets fault taken is =
    let same : octets ≡ take 16 left = sym (front left octets rest 16 taken.0 taken.1) in
    let all : length left ≡ 16 + length rest = length-front left octets rest 16 taken.0 taken.1 in
    inr (faulted-by big count left fault (omega (arith, all)) (sym (is ∙ ap (record_header_fault big count) same)))

pub record_header-faulted : (before after : Option (List ℕ)) (big : Bool) (count : ℕ) (found : Option (List ℕ))
    (octets : List ℕ) (fault : PcapFault)
    (answer : Result (Option RecordHeader) PcapFault) → found ≡ Some octets
    → HoldsOfLeft before after (TakesOctets found)
    → Some fault ≡ record_header_fault big count octets → answer ≡ Err fault
    → IfErr answer (λ fault. IfSome before (AnswersRecordHeaderFault big count fault))
record_header-faulted before after big count found octets fault answer is-found taken is is-answer =
    let taken_octets = subst (λ (f : Option (List ℕ)). HoldsOfLeft before after (TakesOctets f)) is-found taken in
    let judged : IfSome before (AnswersRecordHeaderFault big count fault) =
    record_header-judged before after big count octets fault taken_octets is in
    rw is-answer judged

-- ---- capture records

left-behind : (before after : Option (List ℕ)) (big : Bool) (header : RecordHeader)
    → HoldsOfLeft before after (TakesRecordHeader big (Some header))
    → (octets : List ℕ) × (length octets ≡ 16) × Consumes before after octets
left-behind None after big header taken = (replicate 16 0, refl, tt)
left-behind (Some left) None big header taken = absurd taken
left-behind (Some left) (Some rest) big header taken = (take 16 left, taken.0.octets, taken.3)

-- the record header was taken, and nothing after it
pub record_header-left : (before after : SourceState) (big : Bool) (header : RecordHeader)
    → HoldsOfLeft before.left after.left (TakesRecordHeader big (Some header)) → LeavesFrame before after
record_header-left before after big header taken = left-behind before.left after.left big header taken

-- of the faults of a frame only want of room is found before it is read
memory-alone : (fault : PcapFault) → (fault ≡ CutFile) ⊎ (fault ≡ Read) ⊎ (fault ≡ Memory) → IsOfRecordHeader fault
    → fault ≡ Memory
memory-alone fault names is = search rules

-- at a fault of a frame that is found before it is read, the record header was taken, and nothing after it
pub frame-unread : (before between after : SourceState) (big : Bool) (found : Option RecordHeader)
    (header : RecordHeader) (fault : PcapFault)
    (answer : Result (Option Stamp) PcapFault) → found ≡ Some header
    → HoldsOfLeft before.left between.left (TakesRecordHeader big found)
    → (fault ≡ CutFile) ⊎ (fault ≡ Read) ⊎ (fault ≡ Memory) → (fault ≡ Memory → after ≡ between) → answer ≡ Err fault
    → IfErr answer (λ fault. IsOfRecordHeader fault → LeavesFrame before after)
frame-unread before between after big found header fault answer is-found taken names same is-answer =
    let unread : IsOfRecordHeader fault → LeavesFrame before after =
    λ is. subst (λ (s : SourceState). LeavesFrame before s) (sym (same (memory-alone fault names is)))
    (record_header-left before between big header (subst (λ (h : Option RecordHeader).
    HoldsOfLeft before.left between.left (TakesRecordHeader big h)) is-found taken)) in
    rw is-answer unread

-- so many octets are after the record header
pub sound-none : (big : Bool) (count : ℕ) (left : List ℕ) → IsSoundRecordHeader big (take 16 left) → count < max_records
    → 16 + kept_in big (take 16 left) ≤ length left
    → record_fault big count left ≡ None
sound-none big count left sound few enough = search rules
