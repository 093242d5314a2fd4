use Rattle.std.proofs.Common.{codes}
use Rattle.macs_offline.specs.KeyLists.{spent_text}
use Rattle.macs_offline.proofs.KeyLists.{list-unread, spent-said}
use Rattle.macs_offline.proofs.check.refuse_spent.Goals as goal

pub returns-in-Ok-Some : goal.returns-in-Ok-Some
returns-in-Ok-Some g c =
    let (list, first) = rw c.in-Ok-Some.field-0-is at c.in-Ok-Some.ensures in
    spent-said c.args.commands.now c.failure_saying.result list c.in-Ok-Some.at first
    (c.failure_saying.ensures (spent_text c.in-Ok-Some.at) c.spent_text.ensures)

pub returns-in-Err-Spent : goal.returns-in-Err-Spent
returns-in-Err-Spent g c = list-unread c.args.commands.now c.failure_saying-in-Err-Spent.result
    (c.failure_saying-in-Err-Spent.ensures (codes "key list: cannot be read") c.from_str-text.ensures.ok)
