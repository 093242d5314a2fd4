-- A frame with a written SecTAG is read as it was written.
use Rattle.std.proofs.Common.{◌≡◌, ◌∙◌, ◌<◌, ◌≤◌, ◌+◌, ◌%◌, ◌&&◌, ℕ, zero, suc, Bool, true, false, List, ◌∷◌, ◌++◌}
use Rattle.std.proofs.Common.{length, take, drop, get_or, refl, ap, sym, arith, rules, length-append}
use Rattle.std.proofs.lemmas.Bool.Decides.{nat_tests}
use Rattle.std.proofs.lemmas.List.{drop-drop, drop_at, get_or-append_right, take_at}
use Rattle.std.proofs.lemmas.Nat.{from_be_bytes-to_be_bytes_4}
use Rattle.std.specs.Int.{w32, from_be_bytes}
use Rattle.std.specs.Prelude.{if◌then◌else◌}
use Rattle.macs_frame.specs.declared.tag.ScName.{ScName}
use Rattle.macs_frame.specs.declared.tag.ScName.TheVariants.{Explicit, EndStation, Implicit}
use Rattle.macs_frame.specs.declared.tag.SecTag.{SecTag}
use Rattle.macs_frame.specs.declared.tag.Parts.{Parts}
use Rattle.macs_frame.specs.Protection.{IsName, IsWritten, name_bits, sci_octets, short_of, tag_octets, written_tag}
use Rattle.macs_frame.specs.Tag.{Agrees, IsForKay, IsTagged, Tag, changed, control, encrypted, end_at, end_station}
use Rattle.macs_frame.specs.Tag.{has_bit, has_sci, name_of, pn_of, sci_of, short_length, single_copy_broadcast}
use Rattle.macs_frame.specs.Tag.{start_of, has_version}

-- ---- octet 3

-- octet 3 of a tag with these fields
abbrev octet_of : ScName → Bool → Bool → ℕ → ℕ
octet_of name e c an = name_bits name + (if e then 0x08 else 0) + (if c then 0x04 else 0) + an

abbrev is_explicit : ScName → Bool
is_explicit (Explicit sci) = true
is_explicit EndStation = false
is_explicit Implicit = false

abbrev is_end_station : ScName → Bool
is_end_station (Explicit sci) = false
is_end_station EndStation = true
is_end_station Implicit = false

-- what the octet says is what it was made of
record Bits (name : ScName) (e c : Bool) (an : ℕ) : Type 0 where
  pub version : has_version (octet_of name e c an) ≡ false
  pub end_station : end_station (octet_of name e c an) ≡ is_end_station name
  pub has_sci : has_sci (octet_of name e c an) ≡ is_explicit name
  pub single_copy : single_copy_broadcast (octet_of name e c an) ≡ false
  pub encrypted : encrypted (octet_of name e c an) ≡ e
  pub changed : changed (octet_of name e c an) ≡ c
  pub number : octet_of name e c an % 4 ≡ an

four : (P : ℕ → Type 0) → P 0 → P 1 → P 2 → P 3 → (n : ℕ) → n < 4 → P n
four P a b c d zero h = a
four P a b c d (suc zero) h = b
four P a b c d (suc (suc zero)) h = c
four P a b c d (suc (suc (suc zero))) h = d
four P a b c d (suc (suc (suc (suc n)))) h = absurd (omega arith)

bits : (name : ScName) (e c : Bool) (an : ℕ) → an < 4 → Bits name e c an
bits (Explicit s) true true an h =
    four (Bits (Explicit s) true true) (search rules) (search rules) (search rules) (search rules) an h
bits (Explicit s) true false an h =
    four (Bits (Explicit s) true false) (search rules) (search rules) (search rules) (search rules) an h
bits (Explicit s) false true an h =
    four (Bits (Explicit s) false true) (search rules) (search rules) (search rules) (search rules) an h
bits (Explicit s) false false an h =
    four (Bits (Explicit s) false false) (search rules) (search rules) (search rules) (search rules) an h
bits EndStation true true an h =
    four (Bits EndStation true true) (search rules) (search rules) (search rules) (search rules) an h
bits EndStation true false an h =
    four (Bits EndStation true false) (search rules) (search rules) (search rules) (search rules) an h
bits EndStation false true an h =
    four (Bits EndStation false true) (search rules) (search rules) (search rules) (search rules) an h
bits EndStation false false an h =
    four (Bits EndStation false false) (search rules) (search rules) (search rules) (search rules) an h
bits Implicit true true an h =
    four (Bits Implicit true true) (search rules) (search rules) (search rules) (search rules) an h
bits Implicit true false an h =
    four (Bits Implicit true false) (search rules) (search rules) (search rules) (search rules) an h
bits Implicit false true an h =
    four (Bits Implicit false true) (search rules) (search rules) (search rules) (search rules) an h
bits Implicit false false an h =
    four (Bits Implicit false false) (search rules) (search rules) (search rules) (search rules) an h

-- ---- the fields of a frame

-- the SCI is there where the tag spells it out
abbrev SciAt : ScName → List ℕ → Type 0
SciAt (Explicit sci) frame = sci_of frame ≡ sci
SciAt EndStation frame = Unit {0}
SciAt Implicit frame = Unit {0}

-- a frame with this tag in front of so many octets of Secure Data, field by field
record Reads (frame : List ℕ) (tag : SecTag) (secure : ℕ) : Type 0 where
  pub octets : length frame ≡ 12 + tag_octets tag.name + secure + 16
  pub tagged : IsTagged frame
  pub control : control frame ≡ octet_of tag.name tag.encrypted tag.changed tag.an
  pub short : short_length frame ≡ short_of secure
  pub number : pn_of frame ≡ tag.pn
  pub sci : SciAt tag.name frame

start_is : (name : ScName) (frame : List ℕ) → has_sci (control frame) ≡ is_explicit name
    → start_of frame ≡ 12 + tag_octets name
start_is (Explicit sci) frame explicit = rw explicit refl
start_is EndStation frame explicit = rw explicit refl
start_is Implicit frame explicit = rw explicit refl

name_is : (name : ScName) (frame : List ℕ) → has_sci (control frame) ≡ is_explicit name
    → end_station (control frame) ≡ is_end_station name → SciAt name frame
    → name ≡ name_of frame
name_is (Explicit sci) frame explicit station sci_is = rw explicit (ap Explicit (sym sci_is))
name_is EndStation frame explicit station sci_is = rw (explicit, station) refl
name_is Implicit frame explicit station sci_is = rw (explicit, station) refl

one_name : (name : ScName) → is_explicit name && is_end_station name ≡ false
one_name (Explicit sci) = refl
one_name EndStation = refl
one_name Implicit = refl

below_64 : (n : ℕ) → short_of n < 64
below_64 n = grind (arith, nat_tests)

agrees : (octets start short n : ℕ) → 0 < n → short ≡ short_of n → octets ≡ start + n + 16
    → Agrees octets start short × (start + n ≡ end_at octets start short)
agrees octets start short n some is len = grind (arith, nat_tests)

abbrev made_tag : ℕ → ℕ → ScName → Bool → Bool → SecTag
made_tag an pn name e c = record { an = an; pn = pn; name = name; encrypted = e; changed = c }

same_tag : (an number : ℕ) (name : ScName) (e c : Bool) (tag : SecTag) → tag.an ≡ an → tag.pn ≡ number → tag.name ≡ name
    → tag.encrypted ≡ e → tag.changed ≡ c
    → tag ≡ made_tag an number name e c
same_tag an number name e c tag h0 h1 h2 h3 h4 = rw (← h0, ← h1, ← h2, ← h3, ← h4) refl

-- the parts of a frame with this tag in front of so many octets of Secure Data
abbrev pub parts_at : SecTag → ℕ → Parts
parts_at tag n = record { tag = tag; start = 12 + tag_octets tag.name; end = 12 + tag_octets tag.name + n }

-- a bit of the octet, as a bit of the frame's
bit : (frame : List ℕ) (octet mask : ℕ) (b : Bool) → control frame ≡ octet → has_bit octet mask ≡ b
    → has_bit (control frame) mask ≡ b
bit frame octet mask b same is = ap (λ (x : ℕ). has_bit x mask) same ∙ is

read_back : (frame : List ℕ) (tag : SecTag) (n : ℕ) → Reads frame tag n → IsWritten tag → 0 < n → length frame ≤ 9216
    → Tag frame (parts_at tag n) × (¬ IsForKay frame)
read_back frame tag n r is some fits =
    let b = bits tag.name tag.encrypted tag.changed tag.an is.an in
    let explicit : has_sci (control frame) ≡ is_explicit tag.name = bit frame _ 0x20 _ r.control b.has_sci in
    let station : end_station (control frame) ≡ is_end_station tag.name = bit frame _ 0x40 _ r.control b.end_station in
    let enc : encrypted (control frame) ≡ tag.encrypted = bit frame _ 0x08 _ r.control b.encrypted in
    let cha : changed (control frame) ≡ tag.changed = bit frame _ 0x04 _ r.control b.changed in
    let start : start_of frame ≡ 12 + tag_octets tag.name = start_is tag.name frame explicit in
    let ends = agrees (length frame) (12 + tag_octets tag.name) (short_length frame) n some r.short r.octets in (
      record {
        long_enough = omega (arith, r.octets);
        short_enough = fits;
        tagged = r.tagged;
        reading = record {
          good = record {
            whole = rw start (omega (arith, r.octets));
            good_control = record {
              version_clear = bit frame _ 0x80 false r.control b.version;
              single_copy_clear = bit frame _ 0x10 false r.control b.single_copy;
              one_name = rw (explicit, station) (one_name tag.name);
            };
            reserved_clear = rw r.short (below_64 n);
            numbered = omega (arith, r.number, is.numbered);
            agrees = rw start ends.0;
          };
          tag = same_tag _ _ _ _ _ tag
              (sym (ap (λ (x : ℕ). x % 4) r.control ∙ b.number))
              (sym r.number)
              (name_is tag.name frame explicit station r.sci)
              (sym enc)
              (sym cha);
          start = sym start;
          end = rw start ends.1;
        };
      },
      λ kay.
          let set : tag.encrypted ≡ true = sym enc ∙ kay.0 in
          let clear : tag.changed ≡ false = sym cha ∙ kay.1 in
          let alike = is.alike in
          cc,
    )

-- ---- the written octets

-- what is after the addresses
past : (a rest : List ℕ) (k : ℕ) → length a ≡ 12 → get_or (a ++ rest) (12 + k) 0 ≡ get_or rest k 0
past a rest k h = get_or-append_right a rest 12 (12 + k) 0 h (omega arith)
    ∙ ap (λ (n : ℕ). get_or rest n 0) (omega arith)

drop_past : (a rest : List ℕ) (k : ℕ) → length a ≡ 12 → drop (12 + k) (a ++ rest) ≡ drop k rest
drop_past a rest k h = rw (← h, ← drop-drop k (length a) (a ++ rest), drop_at a rest (length a) refl) refl

sci_read : (a : List ℕ) (w0 w1 w2 w3 w4 w5 w6 w7 : ℕ) (name : ScName) (more : List ℕ) → length a ≡ 12 → IsName name
    → SciAt name (a ++ (w0 ∷ w1 ∷ w2 ∷ w3 ∷ w4 ∷ w5 ∷ w6 ∷ w7 ∷ (sci_octets name ++ more)))
sci_read a w0 w1 w2 w3 w4 w5 w6 w7 (Explicit s) more h is = ap (λ (l : List ℕ). take 8 l) (drop_past a _ 8 h)
    ∙ take_at s more 8 is
sci_read a w0 w1 w2 w3 w4 w5 w6 w7 EndStation more h is = tt
sci_read a w0 w1 w2 w3 w4 w5 w6 w7 Implicit more h is = tt

pub length-sci_octets : (name : ScName) → IsName name → 8 + length (sci_octets name) ≡ tag_octets name
length-sci_octets (Explicit s) is = omega (arith, is)
length-sci_octets EndStation is = refl
length-sci_octets Implicit is = refl

pub length-written_tag : (tag : SecTag) (n : ℕ) → IsName tag.name → length (written_tag tag n) ≡ tag_octets tag.name
length-written_tag tag n is = omega (arith, length-sci_octets tag.name is)

-- addresses, a written tag and what comes after it
reads : (addresses : List ℕ) (tag : SecTag) (n : ℕ) (more : List ℕ) → length addresses ≡ 12 → IsWritten tag
    → length more ≡ n + 16
    → Reads (addresses ++ (written_tag tag n ++ more)) tag n
reads a tag n more la is lm = record {
  octets = omega (
    arith,
    length-append a (written_tag tag n ++ more),
    length-append (written_tag tag n) more,
    length-written_tag tag n is.name,
  );
  tagged = (past a _ 0 la, past a _ 1 la);
  control = past a _ 2 la;
  short = past a _ 3 la;
  number = ap (λ (l : List ℕ). from_be_bytes w32 (take 4 l)) (drop_past a _ 4 la)
      ∙ from_be_bytes-to_be_bytes_4 tag.pn is.pn;
  sci = sci_read a _ _ _ _ _ _ _ _ tag.name more la is.name;
}

pub written_is_read : (addresses : List ℕ) (tag : SecTag) (n : ℕ) (more : List ℕ) → length addresses ≡ 12
    → IsWritten tag → length more ≡ n + 16 → 0 < n
    → 12 + tag_octets tag.name + n + 16 ≤ 9216
    → Tag (addresses ++ (written_tag tag n ++ more)) (parts_at tag n)
    × (¬ IsForKay (addresses ++ (written_tag tag n ++ more)))
written_is_read a tag n more la is lm some fits =
    let r = reads a tag n more la is lm in
    read_back (a ++ (written_tag tag n ++ more)) tag n r is some (omega (arith, r.octets))
