use Rattle.std.proofs.Common.{◌∙◌, ◌++◌, List, ℕ, ap, arith, refl, string_bytes}
use Rattle.macs_offline.proofs.Tried.{line-more, lines-end}
use Rattle.macs_offline.proofs.trial.trial_lines.Goals as goal

pub loop-i-preserved : goal.loop-i-preserved
loop-i-preserved c =
    line-more (string_bytes c.loop-i.text) (string_bytes c.push_str.new.self) (string_bytes c.in_ok-trial_line.field-0)
    c.loop-i.i c.args.outcomes.now _
    _ _ c.loop-i-test.true refl c.in_ok-trial_line.ensures
    (c.in_ok-push_str.ensures.bytes ∙ ap (λ (more : List ℕ). string_bytes c.loop-i.text ++ more) c.as_str.ensures.value)
    c.loop-i.invariant

pub returns : goal.returns
returns c = lines-end (string_bytes c.loop-i.text) c.loop-i.i c.args.outcomes.now _ (omega (arith, c.loop-i-test.false))
    c.loop-i.invariant
