-- The octets that opening reads, as places in the frame.
use Rattle.std.proofs.Common.{◌≡◌, ◌∙◌, ◌≤◌, ◌+◌, ◌-◌, ℕ, min, List, ◌++◌, take, drop, inl, inr, ap, sym, arith}
use Rattle.std.proofs.Common.{length-take}
use Rattle.std.proofs.lemmas.List.{take-take, take_all, drop_all, drop-take, drop-drop, take-append-drop}
use Rattle.std.proofs.lemmas.Bool.{cases_lt}
use Rattle.std.specs.Prelude.{slice_range}

-- the first octets of a range are a range
pub take-slice_range : (o start end : ℕ) (frame : List ℕ) → start ≤ end
    → take o (slice_range frame start end) ≡ slice_range frame start (start + min (end - start) o)
take-slice_range o start end frame order = elim (cases_lt o (end - start)) [
  | inl lt ↦
      let n : start + min (end - start) o - start ≡ o = omega arith in
      take-take o (end - start) (drop start frame) (omega arith) ∙ ap (λ (k : ℕ). take k (drop start frame)) (sym n)
  | inr ge ↦
      let n : start + min (end - start) o ≡ end = omega arith in
      take_all o (slice_range frame start end) (omega (arith, length-take (end - start) (drop start frame)))
      ∙ ap (λ (k : ℕ). slice_range frame start k) (sym n)
]

-- and so are the others
pub drop-slice_range : (o start end : ℕ) (frame : List ℕ) → start ≤ end
    → drop o (slice_range frame start end) ≡ slice_range frame (start + min (end - start) o) end
drop-slice_range o start end frame order = elim (cases_lt o (end - start)) [
  | inl lt ↦
      let n : end - start ≡ o + (end - (start + o)) = omega arith in
      let m : start + min (end - start) o ≡ start + o = omega arith in
      ap (λ (k : ℕ). drop o (take k (drop start frame))) n ∙ drop-take o (end - (start + o)) (drop start frame)
      ∙ ap (take (end - (start + o))) (drop-drop o start frame) ∙ ap (λ (k : ℕ). slice_range frame k end) (sym m)
  | inr ge ↦
      let n : start + min (end - start) o ≡ end = omega arith in
      let z : end - end ≡ 0 = omega arith in
      drop_all o (slice_range frame start end) (omega (arith, length-take (end - start) (drop start frame)))
      ∙ ap (λ (k : ℕ). take k (drop end frame)) (sym z) ∙ ap (λ (k : ℕ). slice_range frame k end) (sym n)
]

-- what is in front of a range, and the range
pub take-append-slice_range : (start end : ℕ) (frame : List ℕ) → start ≤ end
    → take start frame ++ slice_range frame start end ≡ take end frame
take-append-slice_range start end frame order =
    let n : end ≡ start + (end - start) = omega arith in
    ap (λ (l : List ℕ). l ++ slice_range frame start end) (sym (take-take start end frame order))
    ∙ ap (λ (l : List ℕ). take start (take end frame) ++ l)
    (sym (drop-take start (end - start) frame) ∙ ap (λ (k : ℕ). drop start (take k frame)) (sym n))
    ∙ take-append-drop start (take end frame)
