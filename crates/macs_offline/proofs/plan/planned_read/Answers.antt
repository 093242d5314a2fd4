use Rattle.std.proofs.Common.{codes, inl, inr, string_bytes}
use Rattle.std.proofs.lemmas.Result.{IfErr-weaker, IfOk-weaker}
use Rattle.macs_offline.proofs.Checked.{unread-for}
use Rattle.macs_offline.proofs.Planned.{plans-read, why-read}
use Rattle.macs_offline.proofs.plan.planned_read.Goals as goal

pub returns-in-Ok-clause-planned : goal.returns-in-Ok-clause-planned
returns-in-Ok-clause-planned g c =
    IfOk-weaker c.planned_said.result _ _
    (λ text plans. plans-read c.args.end c.args.stage (g.R.Read.remaining c.args.file.now) _ (string_bytes text)
    (rw (c.take.ensures.limit, c.take.ensures.inner, c.in_ok-with_capacity.ensures.items) at c.in-Ok.ensures.bytes)
    (rw c.as_slice.ensures.value at plans))
    c.planned_said.ensures.planned

pub returns-in-Ok-clause-fault : goal.returns-in-Ok-clause-fault
returns-in-Ok-clause-fault g c =
    IfErr-weaker c.planned_said.result _ _
    (λ failure says. inr (why-read c.args.end c.args.stage (g.R.Read.remaining c.args.file.now) _ failure
    (rw (c.take.ensures.limit, c.take.ensures.inner, c.in_ok-with_capacity.ensures.items) at c.in-Ok.ensures.bytes)
    (rw c.as_slice.ensures.value at says)))
    c.planned_said.ensures.fault

pub returns-clause-fault : goal.returns-clause-fault
returns-clause-fault g c = inl (unread-for (codes "link file") c.args.name.now _ _ c.failure_at.ensures.reason)

pub returns-clause-ended : goal.returns-clause-ended
returns-clause-ended g c = inl (unread-for (codes "link file") c.args.name.now _ _ c.failure_at.ensures.reason)
