use Rattle.std.proofs.Common.{◌∙◌, sym}
use Rattle.std.proofs.lemmas.Result.{IfOk-weaker}
use Rattle.macs_offline.proofs.Tried.{none-reported, some-reported}
use Rattle.macs_offline.proofs.trial.trial_report.Goals as goal

pub returns-then-is_empty : goal.returns-then-is_empty
returns-then-is_empty c =
    IfOk-weaker c.from_str.result _ _
    (λ text is. is ∙ none-reported c.args.outcomes.now (sym c.is_empty.ensures ∙ c.if-is_empty.true))
    c.from_str.ensures.ok

pub returns : goal.returns
returns c =
    IfOk-weaker c.trial_lines.result _ _
    (λ text is. is ∙ some-reported c.args.outcomes.now (sym c.is_empty.ensures ∙ c.if-is_empty.false))
    c.trial_lines.ensures
