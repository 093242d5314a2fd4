-- A frame that goes out is read as it was written, and verifies; and its SL.
use Rattle.std.proofs.Common.{◌≡◌, ◌<◌, ◌≤◌, ◌+◌, ◌^◌, ◌++◌, ◌%◌, ◌&&◌, ◌∷◌, ◌∙◌, ◌-◌, ℕ, false, true, not, List, []}
use Rattle.std.proofs.Common.{length, take, drop, refl, sym, ap, arith, inl, inr, get_or, append_assoc, length-drop}
use Rattle.std.proofs.Common.{length-take}
use Rattle.std.specs.Prelude.{if◌then◌else◌, slice_index, slice_range, nat_lt}
use Rattle.std.proofs.lemmas.Bool.{not-false, cases_lt, le-ltb, lt-ltb}
use Rattle.std.proofs.lemmas.List.{take-append-drop, get_or-append_right}
use Rattle.macs_fields.specs.Fields.{octets_of}
use Rattle.macs_gcm.specs.Gcm.{seal}
use Rattle.macs_frame.specs.Opening.{Verified, clear_of, hidden_of, iv_of}
use Rattle.macs_frame.specs.Protection.{IsName, IsWritten, overhead, header_of, protected_frame, short_of, user_data}
use Rattle.macs_frame.specs.Protection.{written_tag}
use Rattle.macs_frame.specs.Tag.{has_bit, name_of}
use Rattle.macs_frame.specs.declared.tag.ScName.{ScName}
use Rattle.macs_frame.specs.declared.tag.SecTag.{SecTag}
use Rattle.macs_frame.proofs.Protection.{protected_is_read, protected_is_verified}
use Rattle.macs_config.specs.Association.{is_confidential, is_end_station, offset_of}
use Rattle.macs_config.specs.Identity.{IsIdentity, is_port_one}
use Rattle.macs_config.specs.declared.command.SciMode.{SciMode}
use Rattle.macs_config.specs.declared.command.SciMode.TheVariants.{EndStation, Explicit, Implicit}
use Rattle.macs_config.proofs.Channels.{same_octets}
use Rattle.macs_txsc.specs.Transmit.{Outgoing, frame_of, is_own_source, name_in, tag_for}
use Rattle.macs_endpoint.specs.State.{State, tx_side}
use Rattle.macs_headline.specs.Frames.{IsNamedIn}

-- in end station mode the SCI is the source address with port 00-01
pub own-source : (mode : SciMode) (sci plain : List ℕ) → (is_end_station mode && not (is_own_source sci plain)) ≡ false
    → (mode ≡ EndStation → is_port_one sci ≡ true) → mode ≡ EndStation → sci ≡ slice_range plain 6 12 ++ 0 ∷ 1 ∷ []
own-source Explicit sci plain test port is = absurd (cc)
own-source Implicit sci plain test port is = absurd (cc)
own-source EndStation sci plain test port is =
    let source : slice_range plain 6 12 ≡ take 6 sci =
    same_octets (slice_range plain 6 12) (take 6 sci) (not-false (is_own_source sci plain) test) in
    let one : drop 6 sci ≡ 0 ∷ 1 ∷ [] = same_octets (drop 6 sci) (0 ∷ 1 ∷ []) (port refl) in
    sym (take-append-drop 6 sci) ∙ (λ i. sym source i ++ one i)

named_by : (mode : SciMode) (sci : List ℕ) (name : ScName) → name ≡ name_in mode sci → IsNamedIn mode sci name
named_by Explicit sci name is = is
named_by EndStation sci name is = is
named_by Implicit sci name is = is

name_written : (mode : SciMode) (sci : List ℕ) → length sci ≡ 8 → IsName (name_in mode sci)
name_written Explicit sci is = is
name_written EndStation sci is = tt
name_written Implicit sci is = tt

module _ (s : State) (plain : List ℕ) (o : Outgoing) (is : IsIdentity s.identity) (placed : o.an < 4) (least : 1 ≤ o.pn)
    (most : o.pn < 2 ^ 32)
    (long : 14 ≤ length plain) (fits : length plain + overhead (name_in s.config.mode s.identity.sci) ≤ 9216) where
  abbrev tag : SecTag
  tag = tag_for (tx_side s) o

  written : IsWritten tag
  written = record {
    an = placed;
    numbered = (let low : 0 < o.pn = omega (arith, least) in low);
    pn = most;
    name = name_written s.config.mode s.identity.sci is.sci.size;
    alike = refl;
  }

  -- its tag names the channel by the mode
  pub frame-named : IsNamedIn s.config.mode s.identity.sci (name_of (frame_of (tx_side s) o plain))
  frame-named =
      let read =
      protected_is_read o.sa.key s.identity.sci tag (octets_of (offset_of o.sa.protection)) plain written long fits in
      named_by s.config.mode s.identity.sci (name_of (frame_of (tx_side s) o plain))
      (sym (ap (λ (t : SecTag). t.name) read.0.reading.tag))

  -- it has the AN, and E and C both set under confidentiality, else both clear
  pub frame-bits : (slice_index (frame_of (tx_side s) o plain) 14 % 4 ≡ o.an)
      × (has_bit (slice_index (frame_of (tx_side s) o plain) 14) 0x08 ≡ is_confidential o.sa.protection)
      × (has_bit (slice_index (frame_of (tx_side s) o plain) 14) 0x04 ≡ is_confidential o.sa.protection)
  frame-bits =
      let read =
      protected_is_read o.sa.key s.identity.sci tag (octets_of (offset_of o.sa.protection)) plain written long fits in
      let is = read.0.reading.tag in (
        sym (ap (λ (t : SecTag). t.an) is),
        sym (ap (λ (t : SecTag). t.encrypted) is),
        sym (ap (λ (t : SecTag). t.changed) is),
      )

  -- and it verifies
  pub frame-read : Verified (frame_of (tx_side s) o plain) o.sa.key s.identity.sci
      (octets_of (offset_of o.sa.protection)) plain
  frame-read = (protected_is_verified o.sa.key s.identity.sci tag (octets_of (offset_of o.sa.protection)) plain plain
      written long fits).1 refl

-- ---- SL of a frame that goes out

-- what is after the addresses
behind_addresses : (a rest : List ℕ) (k : ℕ) → length a ≡ 12 → get_or (a ++ rest) (12 + k) 0 ≡ get_or rest k 0
behind_addresses a rest k h = get_or-append_right a rest 12 (12 + k) 0 h (omega arith)
    ∙ ap (λ (n : ℕ). get_or rest n 0) (omega arith)

-- addresses, SecTAG, octets in the clear, ciphertext and ICV
grouped : (a w clear c i : List ℕ) → a ++ w ++ clear ++ c ++ i ≡ a ++ (w ++ ((clear ++ c) ++ i))
grouped a w clear c i =
    ap (λ (l : List ℕ). l ++ i) (append_assoc (a ++ w) clear c) ∙ append_assoc (a ++ w) (clear ++ c) i
    ∙ append_assoc a w ((clear ++ c) ++ i)

module _ (key sci : List ℕ) (tag : SecTag) (offset : ℕ) (plain : List ℕ) (long : 14 ≤ length plain) where
  short_written : slice_index (protected_frame key sci tag offset plain) 15 ≡ short_of (length (user_data plain))
  unfolding protected_frame
  short_written =
      let user = user_data plain in
      let clear = clear_of tag.encrypted offset user in
      let sealed = seal key (iv_of sci tag.pn) (header_of tag plain ++ clear) (hidden_of tag.encrypted offset user) in
      let w = written_tag tag (length user) in
      let addresses : length (take 12 plain) ≡ 12 = omega (arith, long, length-take 12 plain) in
      ap (λ (l : List ℕ). get_or l 15 0) (grouped (take 12 plain) w clear sealed.0 sealed.1)
      ∙ behind_addresses (take 12 plain) (w ++ ((clear ++ sealed.0) ++ sealed.1)) 3 addresses

-- fewer than 48 octets of Secure Data are those of a plain frame of fewer than 60
short_by : (n : ℕ) → 14 ≤ n → short_of (n - 12) ≡ (if nat_lt n 60 then n - 12 else 0)
short_by n long = elim (cases_lt n 60) [
  | inl few ↦
      let secure : nat_lt (n - 12) 48 ≡ true = lt-ltb (n - 12) 48 (omega (arith, long, few)) in
      let plain : nat_lt n 60 ≡ true = lt-ltb n 60 few in
      rw (secure, plain) refl
  | inr many ↦
      let secure : nat_lt (n - 12) 48 ≡ false = le-ltb (n - 12) 48 (omega (arith, many)) in
      let plain : nat_lt n 60 ≡ false = le-ltb n 60 many in
      rw (secure, plain) refl
]

pub short-length : (key sci : List ℕ) (tag : SecTag) (offset : ℕ) (plain : List ℕ) → 14 ≤ length plain
    → slice_index (protected_frame key sci tag offset plain) 15
    ≡ (if nat_lt (length plain) 60 then length plain - 12 else 0)
short-length key sci tag offset plain long =
    short_written key sci tag offset plain long ∙ ap short_of (length-drop 12 plain) ∙ short_by (length plain) long
