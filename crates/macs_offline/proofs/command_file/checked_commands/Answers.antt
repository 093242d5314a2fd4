use Rattle.std.proofs.Common.{codes, inl}
use Rattle.std.proofs.lemmas.Result.{IfOk-weaker}
use Rattle.macs_offline.specs.Checking.{IsSaidOfFile}
use Rattle.macs_offline.proofs.Checked.{file-complained, unread-for}
use Rattle.macs_offline.proofs.command_file.checked_commands.Goals as goal

pub returns-in-Ok-clause-said : goal.returns-in-Ok-clause-said
returns-in-Ok-clause-said g c = IfOk-weaker c.commands_read.result _ _
    (λ told said. record { file = c.in-Ok.file; said = said }) c.commands_read.ensures.said

pub returns-in-Ok-clause-ended : goal.returns-in-Ok-clause-ended
returns-in-Ok-clause-ended g c =
    file-complained IsSaidOfFile c.args.path.now _ c.in-Ok.file c.commands_read.result c.commands_read.ensures.fault
    c.commands_read.ensures.ended

pub returns-in-Err-clause-ended : goal.returns-in-Err-clause-ended
returns-in-Err-clause-ended g c =
    inl (unread-for (codes "commands") c.args.path.now _ _ c.failure_at.ensures.reason)
