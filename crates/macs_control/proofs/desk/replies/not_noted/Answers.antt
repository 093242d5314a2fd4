use Rattle.std.proofs.Common.{◌∙◌, ◌++◌, ℕ, List, ap}
use Rattle.std.specs.Prelude.{codes}
use Rattle.macs_config.specs.declared.refusal.Refusal.TheVariants.{KeySpent}
use Rattle.macs_texts.specs.Refusals.{refusal_name}
use Rattle.macs_control.specs.Replies.{refused_line}
use Rattle.macs_control.proofs.EndTexts.{end-3, end-4}
use Rattle.macs_control.proofs.desk.replies.not_noted.Goals as goal

pub returns-in-Spent : goal.returns-in-Spent
returns-in-Spent c = rw c.in-Spent.is (c.refused.ensures
    ∙ ap (λ (name : List ℕ). refused_line name ++ codes "end 3\n") c.refusal_name.ensures.name
    ∙ ap (λ (end : List ℕ). refused_line (refusal_name KeySpent) ++ end) end-3)

pub returns-in-Failed : goal.returns-in-Failed
returns-in-Failed c = rw c.in-Failed.is (c.reply_of.ensures ∙ end-4)
