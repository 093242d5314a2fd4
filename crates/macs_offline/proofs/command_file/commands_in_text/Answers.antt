use Rattle.std.proofs.Common.{inr}
use Rattle.std.proofs.lemmas.Result.{IfErr-weaker}
use Rattle.macs_offline.specs.Checking.{HasFault, IsSaidOfText}
use Rattle.macs_offline.proofs.Checked.{complains-weaker, not-toml}
use Rattle.macs_offline.proofs.command_file.commands_in_text.Goals as goal

pub returns-in-Ok-clause-fault : goal.returns-in-Ok-clause-fault
returns-in-Ok-clause-fault c =
    IfErr-weaker c.commands_in_table.result _ _
    (λ failure complains. complains-weaker (HasFault c.args.text.now) (IsSaidOfText c.args.text.now) failure
    (λ said is. inr is) complains)
    (c.commands_in_table.ensures.fault c.args.text.now c.in-Ok.ensures.ok)

pub returns-in-Err-clause-fault : goal.returns-in-Err-clause-fault
returns-in-Err-clause-fault c =
    not-toml c.args.text.now c.in-Err.error c.failure_of_toml.result c.in-Err.ensures.refused
    c.in-Err.ensures.span c.failure_of_toml.ensures
