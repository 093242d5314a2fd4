-- A header that was written is read.
use Rattle.std.proofs.Common.{◌≡◌, ◌∙◌, ℕ, Bool, true, false, List, [], ◌++◌, length, take, None, refl, sym, ap, arith}
use Rattle.std.proofs.Common.{append-nil, length-append}
use Rattle.std.specs.Prelude.{◌==◌, ◌&&◌, nat_lt}
use Rattle.std.proofs.lemmas.Bool.{le-ltb}
use Rattle.macs_pcap.proofs.Fronts.{front, Stands, behind-number, length-octets_of, number-stands}
use Rattle.macs_pcap.specs.Captures.{IsHeader}
use Rattle.macs_pcap.specs.Faults.{field_fault, header_fault}
use Rattle.macs_pcap.specs.Header.{BeginsWithHeader, ethernet, has_magic, has_version, header_in, header_text, is_big}
use Rattle.macs_pcap.specs.Header.{is_of_ethernet, longest, magic_of, major_version, minor_version, number_at}
use Rattle.macs_pcap.specs.Header.{octets_of}
use Rattle.macs_pcap.specs.declared.header.Header.{Header}

-- ---- the magic

big-read : (big nanos : Bool) (rest : List ℕ) → is_big (octets_of big 4 (magic_of nanos) ++ rest) ≡ big
unfolding number_at
big-read true true rest = refl
big-read true false rest = refl
big-read false true rest = refl
big-read false false rest = refl

magic-read : (big nanos : Bool) (rest : List ℕ) → has_magic (octets_of big 4 (magic_of nanos) ++ rest) ≡ true
unfolding number_at
magic-read true true rest = refl
magic-read true false rest = refl
magic-read false true rest = refl
magic-read false false rest = refl

nanos-read : (big nanos : Bool) (rest : List ℕ)
    → (number_at big 4 0 (octets_of big 4 (magic_of nanos) ++ rest) == magic_of true) ≡ nanos
unfolding number_at
nanos-read true true rest = refl
nanos-read true false rest = refl
nanos-read false true rest = refl
nanos-read false false rest = refl

-- ---- the fields after it

-- where the fields are in octets that are a header's, each part by a name
record Placed (h : Header) (octets : List ℕ) : Type 0 where
  major : number_at h.big 2 4 octets ≡ major_version
  minor : number_at h.big 2 6 octets ≡ minor_version
  zone : number_at h.big 4 8 octets ≡ h.zone
  sigfigs : number_at h.big 4 12 octets ≡ h.sigfigs
  link : number_at h.big 4 20 octets ≡ ethernet

placed : (h : Header) → IsHeader h → Placed h (header_text h)
placed h fits =
    let big = h.big in
    let octets : List ℕ = header_text h in
    let link : List ℕ = octets_of big 4 ethernet in
    let snaplen : List ℕ = octets_of big 4 longest ++ link in
    let sigfigs : List ℕ = octets_of big 4 h.sigfigs ++ snaplen in
    let zone : List ℕ = octets_of big 4 h.zone ++ sigfigs in
    let minor : List ℕ = octets_of big 2 minor_version ++ zone in
    let major : List ℕ = octets_of big 2 major_version ++ minor in
    let at_major : Stands big 2 4 major_version octets minor =
    behind-number big 4 0 (magic_of h.nanos) octets major refl in
    let at_minor : Stands big 2 6 minor_version octets zone =
    behind-number big 2 4 major_version octets minor at_major in
    let at_zone : Stands big 4 8 h.zone octets sigfigs = behind-number big 2 6 minor_version octets zone at_minor in
    let at_sigfigs : Stands big 4 12 h.sigfigs octets snaplen = behind-number big 4 8 h.zone octets sigfigs at_zone in
    let at_snaplen : Stands big 4 16 longest octets link = behind-number big 4 12 h.sigfigs octets snaplen at_sigfigs in
    let at_link : Stands big 4 20 ethernet octets [] = behind-number big 4 16 longest octets link at_snaplen
    ∙ sym (append-nil link) in
    record {
      major = number-stands big 2 4 major_version octets minor at_major (omega arith);
      minor = number-stands big 2 6 minor_version octets zone at_minor (omega arith);
      zone = number-stands big 4 8 h.zone octets sigfigs at_zone fits.zone_fits;
      sigfigs = number-stands big 4 12 h.sigfigs octets snaplen at_sigfigs fits.sigfigs_fits;
      link = number-stands big 4 20 ethernet octets [] at_link (omega arith);
    }

length-header : (h : Header) → length (header_text h) ≡ 24
length-header h =
    let big = h.big in
    let link : List ℕ = octets_of big 4 ethernet in
    let snaplen : List ℕ = octets_of big 4 longest ++ link in
    let sigfigs : List ℕ = octets_of big 4 h.sigfigs ++ snaplen in
    let zone : List ℕ = octets_of big 4 h.zone ++ sigfigs in
    let minor : List ℕ = octets_of big 2 minor_version ++ zone in
    let major : List ℕ = octets_of big 2 major_version ++ minor in
    omega (
      arith,
      length-append (octets_of big 4 (magic_of h.nanos)) major,
      length-append (octets_of big 2 major_version) minor,
      length-append (octets_of big 2 minor_version) zone,
      length-append (octets_of big 4 h.zone) sigfigs,
      length-append (octets_of big 4 h.sigfigs) snaplen,
      length-append (octets_of big 4 longest) link,
      length-octets_of big 4 (magic_of h.nanos),
      length-octets_of big 2 major_version,
      length-octets_of big 2 minor_version,
      length-octets_of big 4 h.zone,
      length-octets_of big 4 h.sigfigs,
      length-octets_of big 4 longest,
      length-octets_of big 4 ethernet,
    )

-- ---- what they say, over octets of which nothing more is known

same-header : (h : Header) (octets : List ℕ) → is_big octets ≡ h.big
    → (number_at h.big 4 0 octets == magic_of true) ≡ h.nanos → Placed h octets
    → h ≡ header_in octets
same-header h octets order magic is =
    let nanos : (number_at (is_big octets) 4 0 octets == magic_of true) ≡ h.nanos =
    ap (λ (b : Bool). number_at b 4 0 octets == magic_of true) order ∙ magic in
    let zone : number_at (is_big octets) 4 8 octets ≡ h.zone = ap (λ (b : Bool). number_at b 4 8 octets) order
    ∙ is.zone in
    let sigfigs : number_at (is_big octets) 4 12 octets ≡ h.sigfigs = ap (λ (b : Bool). number_at b 4 12 octets) order
    ∙ is.sigfigs in
    λ i. record { big = sym order i; nanos = sym nanos i; zone = sym zone i; sigfigs = sym sigfigs i }

version-read : (h : Header) (octets : List ℕ) → is_big octets ≡ h.big → Placed h octets → has_version octets ≡ true
version-read h octets order is =
    let major : number_at (is_big octets) 2 4 octets ≡ major_version = ap (λ (b : Bool). number_at b 2 4 octets) order
    ∙ is.major in
    let minor : number_at (is_big octets) 2 6 octets ≡ minor_version = ap (λ (b : Bool). number_at b 2 6 octets) order
    ∙ is.minor in
    ap (λ (n : ℕ). n == major_version && number_at (is_big octets) 2 6 octets == minor_version) major
    ∙ ap (λ (n : ℕ). n == minor_version) minor

link-read : (h : Header) (octets : List ℕ) → is_big octets ≡ h.big → Placed h octets → is_of_ethernet octets ≡ true
link-read h octets order is =
    let link : number_at (is_big octets) 4 20 octets ≡ ethernet = ap (λ (b : Bool). number_at b 4 20 octets) order
    ∙ is.link in
    ap (λ (n : ℕ). n == ethernet) link

faultless : (octets : List ℕ) → has_magic octets ≡ true → has_version octets ≡ true → is_of_ethernet octets ≡ true
    → field_fault octets ≡ None
faultless octets magic version link = rw (magic, version, link) refl

-- ---- the header

abbrev behind-magic : (h : Header) → List ℕ
behind-magic h =
    octets_of h.big 2 major_version
    ++ (octets_of h.big 2 minor_version ++ (octets_of h.big 4 h.zone ++ (octets_of h.big 4 h.sigfigs
    ++ (octets_of h.big 4 longest ++ octets_of h.big 4 ethernet))))

pub header-read : (h : Header) (rest : List ℕ) → IsHeader h → BeginsWithHeader (header_text h ++ rest) h rest
header-read h rest fits =
    let same : take 24 (header_text h ++ rest) ≡ header_text h =
    front (header_text h ++ rest) (header_text h) rest 24 (length-header h) refl in
    let says = same-header h (header_text h) (big-read h.big h.nanos (behind-magic h))
    (nanos-read h.big h.nanos (behind-magic h)) (placed h fits) in
    record { says = says ∙ ap header_in (sym same); octets = ap (λ (l : List ℕ). l ++ rest) (sym same) }

sound-by : (left octets : List ℕ) → nat_lt (length left) 24 ≡ false → take 24 left ≡ octets → field_fault octets ≡ None
    → header_fault left ≡ None
sound-by left octets enough same none = rw enough (ap field_fault same ∙ none)

pub header-sound : (h : Header) (rest : List ℕ) → IsHeader h → header_fault (header_text h ++ rest) ≡ None
header-sound h rest fits =
    let same : take 24 (header_text h ++ rest) ≡ header_text h =
    front (header_text h ++ rest) (header_text h) rest 24 (length-header h) refl in
    let all = length-append (header_text h) rest in
    let enough : nat_lt (length (header_text h ++ rest)) 24 ≡ false =
    le-ltb (length (header_text h ++ rest)) 24 (omega (arith, all, length-header h)) in
    let order = big-read h.big h.nanos (behind-magic h) in
    let is = placed h fits in
    sound-by (header_text h ++ rest) (header_text h) enough same
    (faultless (header_text h) (magic-read h.big h.nanos (behind-magic h)) (version-read h (header_text h) order is)
    (link-read h (header_text h) order is))
