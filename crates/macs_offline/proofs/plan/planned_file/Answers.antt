use Rattle.std.proofs.Common.{codes, inl}
use Rattle.std.proofs.lemmas.Result.{IfOk-weaker}
use Rattle.macs_offline.proofs.Checked.{unread-for}
use Rattle.macs_offline.proofs.Planned.{file-not-planned}
use Rattle.macs_offline.proofs.plan.planned_file.Goals as goal

pub returns-in-Ok-clause-planned : goal.returns-in-Ok-clause-planned
returns-in-Ok-clause-planned g c =
    IfOk-weaker c.planned_read.result _ _ (λ text plans. (c.in-Ok.file, plans)) c.planned_read.ensures.planned

pub returns-in-Ok-clause-ended : goal.returns-in-Ok-clause-ended
returns-in-Ok-clause-ended g c =
    file-not-planned c.args.end c.args.stage _ c.args.path.now c.in-Ok.file c.planned_read.result
    c.planned_read.ensures.fault
    c.planned_read.ensures.ended

pub returns-in-Err-clause-ended : goal.returns-in-Err-clause-ended
returns-in-Err-clause-ended g c =
    inl (unread-for (codes "link file") c.args.path.now _ _ c.failure_at.ensures.reason)
