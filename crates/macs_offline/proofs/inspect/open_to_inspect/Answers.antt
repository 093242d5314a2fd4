use Rattle.std.proofs.Common.{codes}
use Rattle.macs_offline.proofs.Checked.{unread-for}
use Rattle.macs_offline.proofs.inspect.open_to_inspect.Goals as goal

pub returns-in-Err : goal.returns-in-Err
returns-in-Err g c = unread-for (codes "capture") c.args.path.now _ _ c.failure_at.ensures.reason
