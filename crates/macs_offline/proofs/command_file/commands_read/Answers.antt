use Rattle.std.proofs.Common.{codes, inl, inr}
use Rattle.std.proofs.lemmas.Result.{IfErr-weaker, IfOk-weaker}
use Rattle.macs_offline.proofs.Checked.{complains-read, unread-for}
use Rattle.macs_offline.proofs.Commanded.{says-read}
use Rattle.macs_offline.proofs.command_file.commands_read.Goals as goal

pub returns-in-Ok-clause-said : goal.returns-in-Ok-clause-said
returns-in-Ok-clause-said g c =
    IfOk-weaker c.commands_said.result _ _
    (λ told says. says-read (g.R.Read.remaining c.args.file.now) _ told.end told.commands.items
    (rw (c.take.ensures.limit, c.take.ensures.inner, c.in_ok-with_capacity.ensures.items) at c.in-Ok.ensures.bytes)
    (rw c.as_slice.ensures.value at says))
    c.commands_said.ensures.said

pub returns-in-Ok-clause-fault : goal.returns-in-Ok-clause-fault
returns-in-Ok-clause-fault g c =
    IfErr-weaker c.commands_said.result _ _
    (λ failure complains. inr (complains-read (g.R.Read.remaining c.args.file.now) _ failure
    (rw (c.take.ensures.limit, c.take.ensures.inner, c.in_ok-with_capacity.ensures.items) at c.in-Ok.ensures.bytes)
    (rw c.as_slice.ensures.value at complains)))
    c.commands_said.ensures.fault

pub returns-clause-fault : goal.returns-clause-fault
returns-clause-fault g c = inl (unread-for (codes "commands") c.args.name.now _ _ c.failure_at.ensures.reason)

pub returns-clause-ended : goal.returns-clause-ended
returns-clause-ended g c = inl (unread-for (codes "commands") c.args.name.now _ _ c.failure_at.ensures.reason)
