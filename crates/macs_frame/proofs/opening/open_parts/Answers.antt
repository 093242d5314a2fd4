use Rattle.std.proofs.Common.{◌≡◌, ◌∙◌, ◌≤◌, ◌+◌, ◌++◌, true, ℕ, List, length, take, drop, slice_range, refl, ap, sym}
use Rattle.std.proofs.Common.{arith, rules, length-append, length-take, length-drop}
use Rattle.std.proofs.lemmas.List.{take_at, drop_at, take-append-drop}
use Rattle.macs_fields.specs.Fields.{octets_of}
use Rattle.macs_gcm.specs.Gcm.{Opens, seal}
use Rattle.macs_frame.specs.Opening.{OpensTo, clear_of, additional_data, hidden_of, icv_of, iv_of, secure_data}
use Rattle.macs_frame.specs.declared.tag.Parts.{Parts}
use Rattle.macs_frame.proofs.ClearEnd.{take-append-slice_range}
use Rattle.macs_frame.proofs.opening.open_parts.Goals as goal
use Rattle.macs_frame.proofs.opening.open_parts.Goals.{After-open_from-is_valid}

-- ---- opening in place: what is written to a buffer, and opened there, is the plain frame

-- what the code takes from the frame is what the parts say
record Pieces (frame sci : List ℕ) (offset : ℕ) (parts : Parts) (clear : ℕ) (iv icv : List ℕ) : Type 0 where
  aad_is : take clear frame ≡ additional_data frame offset parts
  clear_is : slice_range frame parts.start clear ≡ clear_of parts.tag.encrypted offset (secure_data frame parts)
  hidden_is : slice_range frame clear parts.end ≡ hidden_of parts.tag.encrypted offset (secure_data frame parts)
  iv_is : iv ≡ iv_of sci parts.tag.pn
  icv_is : icv ≡ icv_of frame parts

module _ (frame key sci : List ℕ) (offset : ℕ) (parts : Parts) (clear : ℕ) (iv icv : List ℕ)
    (p : Pieces frame sci offset parts clear iv icv) where
  -- a buffer with the octets in the clear in front of opened ones is the plain frame
  opened_in_place : (start : ℕ) (out : List ℕ)
      → take start out ≡ take 12 frame ++ slice_range frame parts.start clear
      → seal key iv (take clear frame) (drop start out) ≡ (slice_range frame clear parts.end, icv)
      → OpensTo frame key sci offset parts out
  opened_in_place start out front sealed = record {
    plaintext = drop start out;
    sealed = rw (← p.aad_is, ← p.hidden_is, ← p.iv_is, ← p.icv_is) sealed;
    plain_is = rw (← p.clear_is, ← front) (sym (take-append-drop start out));
  }

  -- and parts that open to a plain frame open
  opens_in_place : (plain : List ℕ) → OpensTo frame key sci offset parts plain
      → Opens key iv (take clear frame) (slice_range frame clear parts.end) icv
  opens_in_place plain opens = (opens.plaintext, rw (p.aad_is, p.hidden_is, p.iv_is, p.icv_is) opens.sealed)

pub append-requires-2 : goal.append-requires-2
append-requires-2 c =
    let inside : c.args.parts.now.end + 16 ≤ length c.args.frame.now = search rules in
    omega (
      arith,
      length-append {A = ℕ},
      length-take {A = ℕ},
      length-drop {A = ℕ},
      ap length c.clear.ensures,
      ap length c.append.ensures,
    )

pub append-requires-3 : goal.append-requires-3
append-requires-3 c =
    let inside : c.args.parts.now.end + 16 ≤ length c.args.frame.now = search rules in
    omega (
      arith,
      length-append {A = ℕ},
      length-take {A = ℕ},
      length-drop {A = ℕ},
      ap length c.clear.ensures,
      ap length c.append.ensures,
      ap length c.append-2.ensures,
    )

pieces : (c : After-open_from-is_valid)
    → Pieces c.args.frame.now c.args.sci (octets_of c.args.offset) c.args.parts.now c.clear_end-clear.result
    c.iv_of-iv.result c.icv_at-icv.result
pieces c = record {
  aad_is =
      sym (take-append-slice_range c.args.parts.now.start c.clear_end-clear.result c.args.frame.now
      c.clear_end-clear.ensures.low)
      ∙ ap (λ (l : List ℕ). take c.args.parts.now.start c.args.frame.now ++ l)
      (c.clear_end-clear.ensures.clear c.args.frame.now);
  clear_is = c.clear_end-clear.ensures.clear c.args.frame.now;
  hidden_is = c.clear_end-clear.ensures.hidden c.args.frame.now;
  iv_is = c.iv_of-iv.ensures;
  icv_is = c.icv_at-icv.ensures;
}

written : (c : After-open_from-is_valid) → c.as_mut_slice.result.now
    ≡ c.append-2.new.out.items ++ slice_range c.args.frame.now c.clear_end-clear.result c.args.parts.now.end
written c = c.as_mut_slice.ensures.value ∙ c.append-3.ensures

in_front : (c : After-open_from-is_valid)
    → take c.len-start.result c.open_from-is_valid.new.octets
    ≡ take 12 c.args.frame.now ++ slice_range c.args.frame.now c.args.parts.now.start c.clear_end-clear.result
in_front c =
    c.open_from-is_valid.ensures.front ∙ ap (take c.len-start.result) (written c)
    ∙ take_at c.append-2.new.out.items _ c.len-start.result (sym c.len-start.ensures.value)
    ∙ rw (c.append-2.ensures, c.append.ensures, c.clear.ensures) refl

behind : (c : After-open_from-is_valid) → drop c.len-start.result c.as_mut_slice.result.now
    ≡ slice_range c.args.frame.now c.clear_end-clear.result c.args.parts.now.end
behind c = ap (drop c.len-start.result) (written c)
    ∙ drop_at c.append-2.new.out.items _ c.len-start.result (sym c.len-start.ensures.value)

opened : (c : After-open_from-is_valid) → c.open_from-is_valid.result ≡ true
    → OpensTo c.args.frame.now c.args.key.now c.args.sci (octets_of c.args.offset) c.args.parts.now
    c.open_from-is_valid.new.octets
opened c valid =
    opened_in_place _ _ _ _ _ _ _ _ (pieces c) c.len-start.result c.open_from-is_valid.new.octets (in_front c)
    (rw (behind c) at (rw valid at c.open_from-is_valid.ensures.opened))

pub returns-then-not-is_valid-clause-exactly : goal.returns-then-not-is_valid-clause-exactly
returns-then-not-is_valid-clause-exactly c =
    let path = (goal.at.returns-then-not-is_valid-clause-exactly c).After-open_from-is_valid in (
      λ valid. (c.open_from-is_valid.new.octets, opened path valid),
      λ opens. c.open_from-is_valid.ensures.exactly.1
          (rw (behind path) (opens_in_place _ _ _ _ _ _ _ _ (pieces path) opens.0 opens.1)),
    )

pub returns-else-not-is_valid-clause-exactly : goal.returns-else-not-is_valid-clause-exactly
returns-else-not-is_valid-clause-exactly c =
    let path = (goal.at.returns-else-not-is_valid-clause-exactly c).After-open_from-is_valid in (
      λ valid. (c.open_from-is_valid.new.octets, opened path valid),
      λ _. c.if-not-is_valid.false,
    )

pub returns-else-not-is_valid-clause-opened : goal.returns-else-not-is_valid-clause-opened
returns-else-not-is_valid-clause-opened c =
    let path = (goal.at.returns-else-not-is_valid-clause-opened c).After-open_from-is_valid in
    let kept : length c.open_from-is_valid.new.octets ≡ length c.append-3.new.out.items =
    c.open_from-is_valid.auto.octets ∙ ap length c.as_mut_slice.ensures.value in
    let whole = take_at c.open_from-is_valid.new.octets (drop (length c.open_from-is_valid.new.octets)
    c.append-3.new.out.items) (length c.append-3.new.out.items) kept in
    rw (c.if-not-is_valid.false, whole) (opened path c.if-not-is_valid.false)
