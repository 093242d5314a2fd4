-- An input has one header and one list of capture records.
use Rattle.std.proofs.Common.{◌≡◌, ◌≤◌, ◌<◌, ◌+◌, ◌⊎◌, inl, inr, ℕ, Bool, List, [], ◌∷◌, ◌++◌, length, take, Some, refl}
use Rattle.std.proofs.Common.{sym, ap, ◌∙◌, subst, arith, append-nil, length-append}
use Rattle.std.proofs.lemmas.List.{append_cancel_left}
use Rattle.macs_pcap.specs.Captures.{BeginsWithRecords}
use Rattle.macs_pcap.specs.Faults.{max_records, record_fault}
use Rattle.macs_pcap.specs.Header.{BeginsWithHeader}
use Rattle.macs_pcap.specs.Records.{BeginsWithRecord, CaptureRecord}
use Rattle.macs_pcap.specs.declared.fault.PcapFault.{PcapFault}
use Rattle.macs_pcap.specs.declared.header.Header.{Header}
use Rattle.macs_pcap.proofs.Fronts.{front}
use Rattle.macs_pcap.proofs.WrittenRecord.{begins-none}
use Rattle.macs_edge.specs.CaptureRuns.{AreAllRecords}

-- ---- one header, one record

split_once : (a b more rest : List ℕ) → length a ≡ length b → a ++ more ≡ b ++ rest → (a ≡ b) × (more ≡ rest)
split_once a b more rest size same =
    let fronts : a ≡ b = sym (front (a ++ more) a more (length b) size refl)
    ∙ front (a ++ more) b rest (length b) refl same in
    (fronts, append_cancel_left b more rest (ap (λ (l : List ℕ). l ++ more) (sym fronts) ∙ same))

pub header-once : (left more rest : List ℕ) (a b : Header) → BeginsWithHeader left a more → BeginsWithHeader left b rest
    → (a ≡ b) × (more ≡ rest)
header-once left more rest a b x y =
    (x.says ∙ sym y.says, append_cancel_left (take 24 left) more rest (sym x.octets ∙ y.octets))

record-once : (big : Bool) (left more rest : List ℕ) (a b : CaptureRecord) → BeginsWithRecord big left a more
    → BeginsWithRecord big left b rest → (a ≡ b) × (more ≡ rest)
record-once big left more rest a b x y =
    let parts = split_once a.frame b.frame more rest (x.kept ∙ sym y.kept)
    (append_cancel_left (take 16 left) (a.frame ++ more) (b.frame ++ rest) (sym x.octets ∙ y.octets)) in
    let stamp = x.stamp ∙ sym y.stamp in
    ((λ i. record { stamp = stamp i; frame = parts.0 i }), parts.1)

-- ---- records up to the end or a fault

-- no record is read after so many: there is the end, or a fault
abbrev IsLast : Bool → ℕ → List ℕ → Type 0
IsLast big count rest = (rest ≡ []) ⊎ ((fault : PcapFault) × (record_fault big count rest ≡ Some fault))

-- where there is a record it is read
not_last : (big : Bool) (count : ℕ) (left rest : List ℕ) (taken : CaptureRecord) → BeginsWithRecord big left taken rest
    → count < max_records → ¬ IsLast big count left
not_last big count left rest taken begins few (inl is) =
    let size : length (take 16 left) ≡ 0 = ap (λ (l : List ℕ). length (take 16 l)) is in
    let whole = begins.header.octets in
    omega (arith, size, whole)
not_last big count left rest taken begins few (inr (fault, is)) =
    let none = begins-none big count left rest taken begins few in
    cc

-- records that were taken are the first of all, after so many others
first-of-all : (big : Bool) (count : ℕ) (left rest end : List ℕ) (records all : List CaptureRecord)
    → count + length records ≤ max_records
    → BeginsWithRecords big left records rest → BeginsWithRecords big left all end → IsLast big (count + length all) end
    → (more : List CaptureRecord) × (all ≡ records ++ more) × BeginsWithRecords big rest more end
first-of-all big count left rest end [] all few stand every last =
    (all, refl, subst (λ (l : List ℕ). BeginsWithRecords big l all end) (sym stand) every)
first-of-all big count left rest end (one ∷ others) [] few stand every last =
    let here : count + 0 ≡ count = omega arith in
    let last_here =
    subst (λ (n : ℕ). IsLast big n left) here (subst (λ (l : List ℕ). IsLast big (count + 0) l) every last) in
    absurd (not_last big count left stand.0 one stand.1 (omega (arith, few)) last_here)
first-of-all big count left rest end (one ∷ others) (first ∷ later) few stand every last =
    let (same, between) = record-once big left stand.0 every.0 one first stand.1 every.1 in
    let on = subst (λ (l : List ℕ). BeginsWithRecords big l later end) (sym between) every.2 in
    let size : count + length (first ∷ later) ≡ (count + 1) + length later = omega arith in
    let (more, split, behind) =
    first-of-all big (count + 1) stand.0 rest end others later (omega (arith, few)) stand.2 on
    (subst (λ (n : ℕ). IsLast big n end) size last) in
    (more, ap (λ (r : CaptureRecord). r ∷ later) (sym same) ∙ ap (λ (l : List CaptureRecord). one ∷ l) split, behind)

pub front-of-all : (big : Bool) (left rest end : List ℕ) (records all : List CaptureRecord)
    → length records ≤ max_records
    → BeginsWithRecords big left records rest → BeginsWithRecords big left all end → IsLast big (length all) end
    → (more : List CaptureRecord) × (all ≡ records ++ more) × BeginsWithRecords big rest more end
front-of-all big left rest end records all few stand every last =
    let size : length all ≡ 0 + length all = omega arith in
    first-of-all big 0 left rest end records all (omega (arith, few)) stand every
    (subst (λ (n : ℕ). IsLast big n end) size last)

-- where none can be read after them they are all
pub all-there : (big : Bool) (rest end : List ℕ) (count : ℕ) (records all more : List CaptureRecord)
    → length records ≡ count → length all ≤ max_records
    → IsLast big count rest → all ≡ records ++ more → BeginsWithRecords big rest more end → all ≡ records
all-there big rest end count records all [] size few last split behind = split ∙ append-nil records
all-there big rest end count records all (one ∷ others) size few last split behind =
    let longer : length all ≡ length records + length (one ∷ others) = ap length split
    ∙ length-append records (one ∷ others) in
    absurd (not_last big count rest behind.0 one behind.1 (omega (arith, longer, few, size)) last)

pub all-once : (big : Bool) (left : List ℕ) (records all : List CaptureRecord) → AreAllRecords big left records
    → AreAllRecords big left all → all ≡ records
all-once big left records all x y =
    let (more, split, behind) = front-of-all big left x.rest y.rest records all x.few x.stand y.stand y.last in
    all-there big x.rest y.rest (length records) records all more refl y.few x.last split behind
