use Rattle.std.proofs.Common.{◌∙◌, ◌||◌, ◌+◌, ◌≡◌, ◌<◌, ◌≤◌, ◌==◌, ◌∷◌, Bool, ap, drop, sym, ℕ, false, List, [], length}
use Rattle.std.proofs.Common.{get_or, refl, arith, drop_of_length-le, length-drop}
use Rattle.std.proofs.lemmas.List.{drop_more}
use Rattle.macs_commands.specs.Reading.{reuses_an}
use Rattle.macs_commands.specs.declared.links.link.KeyPair.{KeyPair}
use Rattle.macs_commands.proofs.links.soundness.reuses_an.Goals as goal
use Rattle.macs_commands.proofs.links.soundness.reuses_an.Goals.{else-i-pairs-via-then-i-pairs+else-eq}
use Rattle.macs_commands.proofs.links.soundness.reuses_an.Goals.{else-i-pairs-via-else-i-pairs}

-- ---- numbers that come again, one pair after the other

-- the one after it has its number, or one of those after that
number_next : (pairs : List KeyPair) (i : ℕ) (pair next : KeyPair) → i + 1 < length pairs
    → reuses_an (drop i pairs)
    ≡ (((get_or pairs (i + 1) next).an == (get_or pairs i pair).an) || reuses_an (drop (i + 1) pairs))
number_next pairs i pair next within =
    let after = drop_more pairs (i + 1) next within in
    ap (λ (left : List KeyPair). reuses_an left) (drop_more pairs i pair (omega (arith, within)))
    ∙ ap (λ (left : List KeyPair). reuses_an (get_or pairs i pair ∷ left)) after
    ∙ ap (λ (left : List KeyPair). ((get_or pairs (i + 1) next).an == (get_or pairs i pair).an)
    || reuses_an left) (sym after)

one_alone : (pairs : List KeyPair) → length pairs ≤ 1 → reuses_an pairs ≡ false
one_alone [] short = refl
one_alone (pair ∷ []) short = refl
one_alone (pair ∷ next ∷ pairs) short = absurd (omega (arith, short))

-- there is none after it
number_last : (pairs : List KeyPair) (i : ℕ) → length pairs ≤ i + 1
    → reuses_an (drop i pairs) ≡ reuses_an (drop (i + 1) pairs)
number_last pairs i last =
    one_alone (drop i pairs) (let rest = length-drop i pairs in omega (arith, rest, last))
    ∙ ap (λ (left : List KeyPair). reuses_an left) (sym (drop_of_length-le pairs last))

pub loop-i-preserved : goal.loop-i-preserved
loop-i-preserved c = elim c.else-i-pairs.branch [
  | else-i-pairs-via-then-i-pairs+else-eq w ↦
      c.loop-i.invariant
      ∙ number_next c.args.pairs.now c.loop-i.i w.index-pairs-i-then-i-pairs.result w.index-pairs-i.result
      w.if-i-pairs.true
      ∙ ap (λ (b : Bool). b || reuses_an (drop (c.loop-i.i + 1) c.args.pairs.now)) (sym w.eq.ensures ∙ w.if-eq.false)
  | else-i-pairs-via-else-i-pairs w ↦ c.loop-i.invariant ∙ number_last c.args.pairs.now c.loop-i.i w.if-i-pairs.false
]
