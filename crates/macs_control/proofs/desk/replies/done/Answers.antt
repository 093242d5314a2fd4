use Rattle.std.proofs.Common.{◌∙◌}
use Rattle.macs_control.proofs.EndTexts.{kept}
use Rattle.macs_control.proofs.desk.replies.done.Goals as goal

pub returns-in-Ok : goal.returns-in-Ok
returns-in-Ok c = rw c.in-Ok.is (c.reply_of.ensures ∙ kept)
