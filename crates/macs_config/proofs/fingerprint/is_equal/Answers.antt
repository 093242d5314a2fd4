use Rattle.std.proofs.Common.{◌≡◌, ◌+◌, ◌<◌, ◌↔◌, List, ℕ, eqb, eq-eqb, eqb-true, get_or, bytes_eq, ap, arith, bit_or}
use Rattle.std.proofs.Common.{bit_xor, refl, below_more}
use Rattle.std.proofs.lemmas.Bool.Decides.{same_from_decides}
use Rattle.std.proofs.lemmas.Grind.{same_number_lists}
use Rattle.std.proofs.lemmas.Slice.Eq.{bytes_eq-Decides}
use Rattle.std.proofs.lemmas.Nat.{le_or_l, le_or_r}
use lib.Bits.{and_le_l, and_le_r, xor_add_and, xor_self}
use Rattle.macs_config.proofs.fingerprint.is_equal.Goals as goal

-- ---- octets compared by the bits in which they differ

-- one octet more is compared
compared_more : (one other : List ℕ) (i gathered : ℕ)
    → (gathered ≡ 0) ↔ ((k : ℕ) → k < i → get_or one k 0 ≡ get_or other k 0)
    → (bit_or gathered (bit_xor (get_or one i 0) (get_or other i 0)) ≡ 0)
    ↔ ((k : ℕ) → k < i + 1 → get_or one k 0 ≡ get_or other k 0)
compared_more one other i gathered held =
    let a = get_or one i 0 in
    let b = get_or other i 0 in
    let bits = bit_xor a b in (
      λ none.
          let before : gathered ≡ 0 = omega (arith, none, le_or_l gathered bits) in
          let here : bits ≡ 0 = omega (arith, none, le_or_r gathered bits) in
          below_more (λ (k : ℕ). get_or one k 0 ≡ get_or other k 0) i (held.0 before)
          (omega (arith, here, xor_add_and a b, and_le_l a b, and_le_r a b)),
      λ same. rw (held.1 (λ k below. same k (omega arith)), same i (omega arith), xor_self b) refl,
    )

pub loop-i-preserved : goal.loop-i-preserved
loop-i-preserved c = compared_more c.args.one.now c.args.other.now c.loop-i.i c.loop-i.difference c.loop-i.invariant

pub returns : goal.returns
returns c =
    let one = c.args.one.now in
    let other = c.args.other.now in
    let difference = c.loop-i.difference in
    let held = c.loop-i.invariant in
    same_from_decides (eqb difference 0) (bytes_eq one other) (
      λ yes. same_number_lists one other (omega arith) (λ k below. held.0 (eqb-true difference 0 yes) k (omega arith)),
      λ same. eq-eqb difference 0 (held.1 (λ k below. ap (λ (xs : List ℕ). get_or xs k 0) same)),
    ) (bytes_eq-Decides one other)
