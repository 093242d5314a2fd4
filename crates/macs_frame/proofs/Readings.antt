-- A frame has one reading, is verified where that reading opens, and as one plain frame.
use Rattle.std.proofs.Common.{◌≡◌, ◌∙◌, ◌↔◌, ℕ, List, ◌++◌, take, ap, sym, subst, rules}
use Rattle.macs_frame.specs.declared.tag.Parts.{Parts}
use Rattle.macs_frame.specs.Opening.{OpensTo, Verified, clear_of, secure_data}
use Rattle.macs_frame.specs.Tag.{IsForKay, Tag}
use Rattle.macs_gcm.proofs.Sealing.{seal-once}

-- the parts of a frame are its only parts
pub one_reading : (frame : List ℕ) (a b : Parts) → Tag frame a → Tag frame b → a ≡ b
one_reading frame a b s t = search rules

-- a frame is verified exactly where its parts open
pub verified_by_its_parts : (frame key sci : List ℕ) (offset : ℕ) (parts : Parts) (plain : List ℕ) → Tag frame parts
    → ¬ IsForKay frame
    → (Verified frame key sci offset plain ↔ OpensTo frame key sci offset parts plain)
verified_by_its_parts frame key sci offset parts plain tag kay = (
  λ found. subst (λ (p : Parts). OpensTo frame key sci offset p plain)
      (one_reading frame found.parts parts found.tag tag) found.opens,
  λ opens. record { parts = parts; tag = tag; not_for_kay = kay; opens = opens },
)

-- parts open to one plain frame
pub opens_once : (frame key sci : List ℕ) (offset : ℕ) (parts : Parts) (p q : List ℕ)
    → OpensTo frame key sci offset parts p → OpensTo frame key sci offset parts q → p ≡ q
opens_once frame key sci offset parts p q x y =
    let same : x.plaintext ≡ y.plaintext = seal-once key _ _ x.plaintext y.plaintext (x.sealed ∙ sym y.sealed) in
    x.plain_is ∙ ap (λ (h : List ℕ).
    take 12 frame ++ clear_of parts.tag.encrypted offset (secure_data frame parts) ++ h) same ∙ sym y.plain_is

-- a frame is verified as one plain frame
pub verified_once : (frame key sci : List ℕ) (offset : ℕ) (p q : List ℕ) → Verified frame key sci offset p
    → Verified frame key sci offset q → p ≡ q
verified_once frame key sci offset p q x y =
    let same : y.parts ≡ x.parts = one_reading frame y.parts x.parts y.tag x.tag in
    opens_once frame key sci offset x.parts p q x.opens
    (subst (λ (parts : Parts). OpensTo frame key sci offset parts q) same y.opens)
