use Rattle.std.proofs.Common.{◌≡◌, ◌↔◌, ◌-◌, ◌++◌, rules, List, ℕ, Some, None, length, subst, replicate, Option, sym}
use Rattle.macs_record.specs.Heads.{Head, IsHeadOf, IsHead, head_octets}
use Rattle.macs_record.proofs.Decoded.{all_zeros, filled}
use Rattle.macs_record.proofs.Numbers.{never}
use Rattle.macs_record.proofs.head_codec.decode_head.Goals as goal

-- ---- what is known of a sector, from what was read of it as a head

-- the head is read wherever it is
abbrev HeadFound : List ℕ → Option Head → List ℕ → Type 0
HeadFound octets result left =
    (head : Head) (rest : List ℕ) → IsHead head → octets ≡ head_octets head ++ rest
    → (result ≡ Some head) × (left ≡ rest)

-- the head of a sector is the one that was read
read_once : (sector left : List ℕ) (result : Option Head) → HeadFound sector result left → (head : Head)
    → IsHeadOf head sector
    → (result ≡ Some head) × (left ≡ replicate (512 - length (head_octets head)) 0)
read_once sector left result found head is =
    found head (replicate (512 - length (head_octets head)) 0) is.range (sym is.octets)

-- ---- what is answered

refused : (sector : List ℕ) → ((head : Head) → IsHeadOf head sector → ⊥) → (head : Head)
    → (None ≡ Some head) ↔ IsHeadOf head sector
refused sector no_head head = ((λ same. absurd cc), (λ is. absurd (no_head head is)))

refused_unread : (sector left : List ℕ) → HeadFound sector None left → (head : Head)
    → (None ≡ Some head) ↔ IsHeadOf head sector
refused_unread sector left found = refused sector (λ head is. never _ (read_once sector left None found head is))

refused_rest : (sector left : List ℕ) (result : Option Head) → HeadFound sector result left
    → (left ≡ replicate (length left) 0 → ⊥)
    → (head : Head) → (None ≡ Some head) ↔ IsHeadOf head sector
refused_rest sector left result found more =
    refused sector (λ head is.
    more (all_zeros left (512 - length (head_octets head)) (read_once sector left result found head is).1))

decoded : (sector left : List ℕ) (read : Head) → length sector ≡ 512
    → IsHead read × (sector ≡ head_octets read ++ left) → HeadFound sector (Some read) left
    → left ≡ replicate (length left) 0 → (head : Head) → (Some read ≡ Some head) ↔ IsHeadOf head sector
decoded sector left read size stands found zeros head = (
  (λ same.
      let this : read ≡ head = cc in
      subst (λ (h : Head). IsHeadOf h sector) this
      (record { range = stands.0; octets = filled sector (head_octets read) left size stands.1 zeros })),
  (λ is. (read_once sector left (Some read) found head is).0),
)

pub returns-in_err-head : goal.returns-in_err-head
returns-in_err-head c =
    rw c.from_residual.ensures
    (subst (λ (s : List ℕ). (head : Head) → (None ≡ Some head) ↔ IsHeadOf head s) c.new-reader.ensures
    (refused_unread c.new-reader.result c.read_head.new.from c.in_err-head.ensures.found))

pub returns-then-is_zero : goal.returns-then-is_zero
returns-then-is_zero c =
    let size : length c.new-reader.result ≡ 512 = rw c.new-reader.ensures (search rules) in
    subst (λ (s : List ℕ). (head : Head) → (Some c.in_ok-head.head ≡ Some head) ↔ IsHeadOf head s) c.new-reader.ensures
    (decoded c.new-reader.result c.read_head.new.from c.in_ok-head.head size c.in_ok-head.ensures.some
    c.in_ok-head.ensures.found
    (c.is_zero.ensures.0 c.if-is_zero.true))

pub returns-else-is_zero : goal.returns-else-is_zero
returns-else-is_zero c =
    subst (λ (s : List ℕ). (head : Head) → (None ≡ Some head) ↔ IsHeadOf head s) c.new-reader.ensures
    (refused_rest c.new-reader.result c.read_head.new.from (Some c.in_ok-head.head) c.in_ok-head.ensures.found
    (λ zeros. let yes = c.is_zero.ensures.1 zeros in let no = c.if-is_zero.false in absurd cc))
