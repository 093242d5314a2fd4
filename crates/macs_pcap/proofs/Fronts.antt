-- What is in front of a list, and numbers in it that were written.
use Rattle.std.proofs.Common.{◌≡◌, ◌∙◌, ◌≤◌, ◌+◌, ◌++◌, ◌<◌, ◌^◌, ℕ, List, length, take, ap, arith, subst}
use Rattle.std.proofs.Common.{length-append, take_all, Option, Bool, true, false, drop, sym}
use Rattle.std.proofs.Math.Seq.{take-append_seam}
use Rattle.std.specs.Io.KnownBytes.{Consumes}
use Rattle.std.proofs.lemmas.List.{drop-drop, drop_at}
use Rattle.byteorder.specs.Endian.{big_number, little_number}
use Rattle.byteorder.specs.Numbers.{big_number-reads_back, length-bytes_high_first, length-bytes_low_first}
use Rattle.byteorder.specs.Numbers.{little_number-reads_back}
use Rattle.macs_pcap.specs.Header.{number_at, octets_of}

-- a part of known length that is in front
pub front : (left part rest : List ℕ) (n : ℕ) → length part ≡ n → left ≡ part ++ rest → take n left ≡ part
front left part rest n size e =
    subst (λ (k : ℕ). take k left ≡ part) size (ap (take (length part)) e ∙ take-append_seam part rest)

pub length-front : (left part rest : List ℕ) (n : ℕ) → length part ≡ n → left ≡ part ++ rest
    → length left ≡ n + length rest
length-front left part rest n size e =
    let both : length left ≡ length part + length rest = ap length e ∙ length-append part rest in
    omega (arith, both, size)

-- a buffer that was filled was taken whole
pub whole-taken : (before after : Option (List ℕ)) (buffer : List ℕ) (n count : ℕ) → length buffer ≡ n → n ≤ count
    → Consumes before after (take count buffer)
    → Consumes before after buffer
whole-taken before after buffer n count size enough taken =
    let all : length buffer ≤ count = omega arith in subst (Consumes before after) (take_all count buffer all) taken

-- ---- numbers that were written

pub length-octets_of : (big : Bool) (n number : ℕ) → length (octets_of big n number) ≡ n
length-octets_of true n number = length-bytes_high_first n number
length-octets_of false n number = length-bytes_low_first 0 n number

-- from a place on there are the octets of a number, and others after them
abbrev pub Stands : Bool → ℕ → ℕ → ℕ → List ℕ → List ℕ → Type 0
Stands big n place number octets rest = drop place octets ≡ octets_of big n number ++ rest

pub number-stands : (big : Bool) (n place number : ℕ) (octets rest : List ℕ) → Stands big n place number octets rest
    → number < 256 ^ n
    → number_at big n place octets ≡ number
unfolding number_at
number-stands true n place number octets rest stands fits = ap (big_number n) stands
    ∙ big_number-reads_back n number rest fits
number-stands false n place number octets rest stands fits = ap (little_number n) stands
    ∙ little_number-reads_back n number rest fits

-- what is after that number
pub behind-number : (big : Bool) (n place number : ℕ) (octets rest : List ℕ) → Stands big n place number octets rest
    → drop (place + n) octets ≡ rest
behind-number big n place number octets rest stands =
    sym (drop-drop n place octets) ∙ ap (drop n) stands
    ∙ drop_at (octets_of big n number) rest n (length-octets_of big n number)
