use Rattle.std.proofs.Common.{◌∙◌}
use Rattle.macs_control.proofs.EndTexts.{end-4}
use Rattle.macs_control.proofs.desk.replies.ended.Goals as goal

pub returns-in-Failed : goal.returns-in-Failed
returns-in-Failed c = rw c.in-Failed.is (c.reply_of.ensures ∙ end-4)
