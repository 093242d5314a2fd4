use Rattle.std.proofs.Common.{◌∙◌, ◌++◌, ℕ, List, ap}
use Rattle.std.specs.Prelude.{codes}
use Rattle.macs_texts.specs.Refusals.{refusal_name}
use Rattle.macs_control.specs.Replies.{refused_line}
use Rattle.macs_control.proofs.EndTexts.{end-3, end-4, not-refused}
use Rattle.macs_control.proofs.desk.replies.failed.Goals as goal

pub returns-in-Refused : goal.returns-in-Refused
returns-in-Refused c = rw c.in-Refused.is (c.refused.ensures
    ∙ ap (λ (name : List ℕ). refused_line name ++ codes "end 3\n") c.refusal_name.ensures.name
    ∙ ap (λ (end : List ℕ). refused_line (refusal_name c.in-Refused.refusal) ++ end) end-3)

pub returns-in-Stopped : goal.returns-in-Stopped
returns-in-Stopped c = c.reply_of.ensures ∙ end-4 ∙ not-refused c.args.fault c.in-Stopped.is
