use Rattle.macs_headline.proofs.Built.{blank-is-new}
use Rattle.macs_headline.proofs.laws.new_disks.Goals as goal

pub returns : goal.returns
returns c = blank-is-new
