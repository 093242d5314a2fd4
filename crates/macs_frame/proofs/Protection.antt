-- A protected frame is read as it was written, and verified as its own plain frame and as no other.
use Rattle.std.proofs.Common.{◌≡◌, ◌∙◌, ◌↔◌, ◌<◌, ◌≤◌, ◌+◌, ◌-◌, ℕ, Bool, true, false, List, [], ◌∷◌, ◌++◌, length}
use Rattle.std.proofs.Common.{take, drop, inl, inr, refl, ap, sym, subst, arith, append_assoc, length-append}
use Rattle.std.proofs.Common.{length-take, length-drop}
use Rattle.std.proofs.lemmas.Bool.{cases_lt}
use Rattle.std.proofs.lemmas.List.{append-nil, drop_all, drop_at, take-append-drop, take_all, take_at}
use Rattle.std.specs.Prelude.{slice_range}
use Rattle.macs_gcm.proofs.Sealing.{seal-length, seal-tag_length}
use Rattle.macs_gcm.specs.Gcm.{seal}
use Rattle.macs_frame.specs.declared.tag.Parts.{Parts}
use Rattle.macs_frame.specs.declared.tag.SecTag.{SecTag}
use Rattle.macs_frame.specs.Opening.{OpensTo, Verified, clear_of, hidden_of, iv_of}
use Rattle.macs_frame.specs.Protection.{IsWritten, header_of, overhead, written_parts, protected_frame, tag_octets}
use Rattle.macs_frame.specs.Protection.{user_data, written_tag}
use Rattle.macs_frame.specs.Tag.{IsForKay, Tag}
use Rattle.macs_frame.proofs.Readings.{verified_once}
use Rattle.macs_frame.proofs.WrittenTag.{length-written_tag, parts_at, written_is_read}

-- ---- octets in the clear and encrypted ones

whole : (e : Bool) (o : ℕ) (u : List ℕ) → clear_of e o u ++ hidden_of e o u ≡ u
whole true o u = take-append-drop o u
whole false o u = append-nil u

no_octet : (c : List ℕ) → length c ≡ 0 → c ≡ []
no_octet [] h = refl
no_octet (x ∷ c) h = absurd (omega arith)

-- with the ciphertext after them the octets in the clear are the same
clear_again : (e : Bool) (o : ℕ) (u c : List ℕ) → length c ≡ length (hidden_of e o u)
    → clear_of e o (clear_of e o u ++ c) ≡ clear_of e o u
clear_again true o u c h = elim (cases_lt o (length u)) [
  | inl lt ↦ take_at (take o u) c o (omega (arith, length-take o u))
  | inr ge ↦
      let none : c ≡ [] = no_octet c (omega (arith, length-drop o u)) in
      rw (none, append-nil (take o u)) (take_all o (take o u) (omega (arith, length-take o u)))
]
clear_again false o u c h = rw (no_octet c h) (append-nil u)

-- and the encrypted ones are the ciphertext
hidden_again : (e : Bool) (o : ℕ) (u c : List ℕ) → length c ≡ length (hidden_of e o u)
    → hidden_of e o (clear_of e o u ++ c) ≡ c
hidden_again true o u c h = elim (cases_lt o (length u)) [
  | inl lt ↦ drop_at (take o u) c o (omega (arith, length-take o u))
  | inr ge ↦
      let none : c ≡ [] = no_octet c (omega (arith, length-drop o u)) in
      rw (none, append-nil (take o u)) (drop_all o (take o u) (omega (arith, length-take o u)))
]
hidden_again false o u c h = sym (no_octet c h)

length-split : (e : Bool) (o : ℕ) (u : List ℕ) → length (clear_of e o u) + length (hidden_of e o u) ≡ length u
length-split e o u = sym (length-append (clear_of e o u) (hidden_of e o u)) ∙ ap length (whole e o u)

-- ---- a frame of four pieces

-- addresses, SecTAG, Secure Data and ICV
record Cut (frame a w s i : List ℕ) : Type 0 where
  pub addresses : take 12 frame ≡ a
  pub front : take (length a + length w) frame ≡ a ++ w
  pub secure : slice_range frame (length a + length w) (length a + length w + length s) ≡ s
  pub icv : slice_range frame (length a + length w + length s) (length a + length w + length s + 16) ≡ i

cut : (a w s i : List ℕ) → length a ≡ 12 → length i ≡ 16 → Cut (a ++ (w ++ (s ++ i))) a w s i
cut a w s i la li =
    let two : a ++ (w ++ (s ++ i)) ≡ (a ++ w) ++ (s ++ i) = sym (append_assoc a w (s ++ i)) in
    let three : a ++ (w ++ (s ++ i)) ≡ ((a ++ w) ++ s) ++ i = two ∙ sym (append_assoc (a ++ w) s i) in
    let n : length (a ++ w) ≡ length a + length w = length-append a w in
    let m : length ((a ++ w) ++ s) ≡ length a + length w + length s = simp length-append in
    let count : length a + length w + length s - (length a + length w) ≡ length s = omega arith in
    let sixteen : length a + length w + length s + 16 - (length a + length w + length s) ≡ 16 = omega arith in
    record {
      addresses = take_at a (w ++ (s ++ i)) 12 la;
      front = ap (take (length a + length w)) two ∙ take_at (a ++ w) (s ++ i) (length a + length w) n;
      secure =
          ap (λ (k : ℕ). take k (drop (length a + length w) (a ++ (w ++ (s ++ i))))) count
          ∙ ap (take (length s)) (ap (drop (length a + length w)) two
          ∙ drop_at (a ++ w) (s ++ i) (length a + length w) n) ∙ take_at s i (length s) refl;
      icv =
          ap (λ (k : ℕ). take k (drop (length a + length w + length s) (a ++ (w ++ (s ++ i))))) sixteen
          ∙ ap (take 16) (ap (drop (length a + length w + length s)) three
          ∙ drop_at ((a ++ w) ++ s) i (length a + length w + length s) m) ∙ take_all 16 i (omega arith);
    }

-- ---- the frame that protects

regroup : (a w clear c i : List ℕ) → a ++ w ++ clear ++ c ++ i ≡ a ++ (w ++ ((clear ++ c) ++ i))
regroup a w clear c i =
    ap (λ (l : List ℕ). l ++ i) (append_assoc (a ++ w) clear c) ∙ append_assoc (a ++ w) (clear ++ c) i
    ∙ append_assoc a w ((clear ++ c) ++ i)

abbrev parts_to : SecTag → ℕ → ℕ → Parts
parts_to tag start end = record { tag = tag; start = start; end = end }

-- what a frame of these pieces is read and opened as
abbrev Stands : (frame key sci : List ℕ) → ℕ → Parts → List ℕ → Type 0
Stands frame key sci offset parts plain = Tag frame parts × (¬ IsForKay frame)
    × OpensTo frame key sci offset parts plain

stands_alike : (f g key sci : List ℕ) (o : ℕ) (parts parts' : Parts) (p q : List ℕ) → f ≡ g → parts ≡ parts' → p ≡ q
    → Stands g key sci o parts' q → Stands f key sci o parts p
stands_alike f g key sci o parts parts' p q h0 h1 h2 found = rw (h0, h1, h2) found

module _ (key sci : List ℕ) (tag : SecTag) (o : ℕ) (a user c i : List ℕ) (la : length a ≡ 12) (is : IsWritten tag)
    (some : 0 < length user)
    (lc : length c ≡ length (hidden_of tag.encrypted o user)) (li : length i ≡ 16) where
  length-secure : length (clear_of tag.encrypted o user ++ c) ≡ length user
  length-secure = omega (arith, length-append (clear_of tag.encrypted o user) c, length-split tag.encrypted o user)

  stands : 12 + tag_octets tag.name + length user + 16 ≤ 9216
      → seal key (iv_of sci tag.pn) (a ++ written_tag tag (length user) ++ clear_of tag.encrypted o user)
      (hidden_of tag.encrypted o user) ≡ (c, i)
      → Stands (a ++ (written_tag tag (length user) ++ ((clear_of tag.encrypted o user ++ c) ++ i))) key sci o
      (parts_at tag (length user)) (a ++ user)
  stands fits sealed =
      let w = written_tag tag (length user) in
      let s = clear_of tag.encrypted o user ++ c in
      let frame = a ++ (w ++ (s ++ i)) in
      let lw : length w ≡ tag_octets tag.name = length-written_tag tag (length user) is.name in
      let starts : length a + length w ≡ 12 + tag_octets tag.name = omega arith in
      let ends : length a + length w + length s ≡ 12 + tag_octets tag.name + length user =
      omega (arith, length-secure) in
      let pieces = cut a w s i la li in
      let from = 12 + tag_octets tag.name in
      let upto = 12 + tag_octets tag.name + length user in
      let front : take from frame ≡ a ++ w = rw (← starts) pieces.front in
      let secure : slice_range frame from upto ≡ s = rw (← ends, ← starts) pieces.secure in
      let icv : slice_range frame upto (upto + 16) ≡ i = rw (← ends) pieces.icv in
      let again : clear_of tag.encrypted o s ≡ clear_of tag.encrypted o user = clear_again tag.encrypted o user c lc in
      let behind : hidden_of tag.encrypted o s ≡ c = hidden_again tag.encrypted o user c lc in
      let read = written_is_read a tag (length user) (s ++ i) la is (omega (arith, length-append s i, length-secure))
      some fits in (
        read.0,
        read.1,
        record {
          plaintext = hidden_of tag.encrypted o user;
          sealed = rw (front, secure, icv, again, behind) sealed;
          plain_is =
              rw (pieces.addresses, secure, again) (ap (λ (l : List ℕ). a ++ l) (sym (whole tag.encrypted o user))
              ∙ sym (append_assoc a (clear_of tag.encrypted o user) (hidden_of tag.encrypted o user)));
        },
      )

module _ (key sci : List ℕ) (tag : SecTag) (offset : ℕ) (plain : List ℕ) (is : IsWritten tag)
    (long : 14 ≤ length plain) where
  length-user_data : 12 + length (user_data plain) ≡ length plain
  length-user_data = omega (arith, length-drop 12 plain)

  -- a protected frame is longer than its plain frame by its SecTAG and its ICV
  pub protected_length : length (protected_frame key sci tag offset plain) ≡ length plain + overhead tag.name
  unfolding protected_frame
  protected_length =
      let user = user_data plain in
      let clear = clear_of tag.encrypted offset user in
      let hidden = hidden_of tag.encrypted offset user in
      let sealed = seal key (iv_of sci tag.pn) (header_of tag plain ++ clear) hidden in
      let w = written_tag tag (length user) in
      omega (
        arith,
        length-append (header_of tag plain ++ clear ++ sealed.0) sealed.1,
        length-append (header_of tag plain ++ clear) sealed.0,
        length-append (header_of tag plain) clear,
        length-append (take 12 plain) w,
        length-take 12 plain,
        length-written_tag tag (length user) is.name,
        length-split tag.encrypted offset user,
        seal-length key (iv_of sci tag.pn) (header_of tag plain ++ clear) hidden,
        seal-tag_length key (iv_of sci tag.pn) (header_of tag plain ++ clear) hidden,
        length-user_data,
      )

  same_parts : parts_at tag (length (user_data plain)) ≡ written_parts tag (length plain)
  same_parts =
      let end : 12 + tag_octets tag.name + length (user_data plain) ≡ length plain + tag_octets tag.name =
      omega (arith, length-user_data) in
      ap (λ (e : ℕ). parts_to tag (12 + tag_octets tag.name) e) end

  protected_stands : length plain + overhead tag.name ≤ 9216
      → Stands (protected_frame key sci tag offset plain) key sci offset (written_parts tag (length plain)) plain
  unfolding protected_frame
  protected_stands fits =
      let user = user_data plain in
      let sealed = seal key (iv_of sci tag.pn) (header_of tag plain ++ clear_of tag.encrypted offset user)
      (hidden_of tag.encrypted offset user) in
      let found = stands key sci tag offset (take 12 plain) user sealed.0 sealed.1 (omega (arith, length-take 12 plain))
      is (omega (arith, length-user_data))
      (seal-length key _ _ _) (seal-tag_length key _ _ _) (omega (arith, length-user_data)) refl in
      stands_alike _ _ key sci offset _ _ _ _ (regroup (take 12 plain) (written_tag tag (length user))
      (clear_of tag.encrypted offset user) sealed.0 sealed.1) (sym same_parts)
      (sym (take-append-drop 12 plain)) found

-- a protected frame is read as it was written
pub protected_is_read : (key sci : List ℕ) (tag : SecTag) (offset : ℕ) (plain : List ℕ) → IsWritten tag
    → 14 ≤ length plain → length plain + overhead tag.name ≤ 9216
    → Tag (protected_frame key sci tag offset plain) (written_parts tag (length plain))
    × (¬ IsForKay (protected_frame key sci tag offset plain))
protected_is_read key sci tag offset plain is long fits =
    let found = protected_stands key sci tag offset plain is long fits in
    (found.0, found.1)

-- and verified as its own plain frame and as no other
pub protected_is_verified : (key sci : List ℕ) (tag : SecTag) (offset : ℕ) (plain other : List ℕ) → IsWritten tag
    → 14 ≤ length plain → length plain + overhead tag.name ≤ 9216
    → (Verified (protected_frame key sci tag offset plain) key sci offset other ↔ (other ≡ plain))
protected_is_verified key sci tag offset plain other is long fits =
    let found = protected_stands key sci tag offset plain is long fits in
    let verified : Verified (protected_frame key sci tag offset plain) key sci offset plain = record {
      parts = written_parts tag (length plain);
      tag = found.0;
      not_for_kay = found.1;
      opens = found.2;
    } in (
      λ opened. verified_once _ key sci offset other plain opened verified,
      λ same. subst (λ (p : List ℕ). Verified (protected_frame key sci tag offset plain) key sci offset p)
          (sym same) verified,
    )
