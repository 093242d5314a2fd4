use Rattle.std.proofs.Common.{◌≡◌, ◌↔◌, ◌∙◌, IsTrue, List, ℕ, inl, inr, subst, sym, true≢false}
use Rattle.macs_record.specs.Heads.{Head, IsHeadOf}
use Rattle.macs_journal.specs.Contents.{IsPartOf}
use Rattle.macs_journal.proofs.contents.is_unused.Goals as goal
use Rattle.macs_journal.proofs.contents.is_unused.Goals.{else-number-eq0-via-then-number-eq0+else-is_head}
use Rattle.macs_journal.proofs.contents.is_unused.Goals.{else-number-eq0-via-else-number-eq0}

pub returns : goal.returns
returns c =
    let part = subst (λ (whole : List ℕ). IsTrue c.is_part_of.result ↔ IsPartOf c.args.sector.now whole)
    c.leftover.ensures c.is_part_of.ensures in
    let no_head : (zero : c.args.number ≡ 0) (head : Head) → ¬ IsHeadOf head c.args.sector.now = λ zero head is.
    elim c.else-number-eq0.branch [
      | else-number-eq0-via-then-number-eq0+else-is_head w ↦ absurd (
          let found = w.is_head.ensures.1 (head, is) in
          let none = w.if-is_head.false in
          true≢false (sym found ∙ none))
      | else-number-eq0-via-else-number-eq0 w ↦ absurd (w.if-number-eq0.false zero)
    ] in (
      λ is. inr (part.0 is),
      λ unused. elim unused [
        | inl head ↦ absurd (no_head head.0 head.1 head.2)
        | inr is ↦ part.1 is
      ],
    )
