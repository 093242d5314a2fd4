use Rattle.std.proofs.Common.{◌∙◌, ◌++◌, ℕ, List, ap}
use Rattle.std.specs.Prelude.{codes}
use Rattle.macs_control.specs.Replies.{refused_line, submit_fault_name}
use Rattle.macs_control.proofs.EndTexts.{end-4}
use Rattle.macs_control.proofs.desk.replies.not_taken.Goals as goal

pub returns : goal.returns
returns c = c.refused.ensures
    ∙ ap (λ (name : List ℕ). refused_line name ++ codes "end 4\n") c.submit_fault_name.ensures.name
    ∙ ap (λ (end : List ℕ). refused_line (submit_fault_name c.args.fault) ++ end) end-4
