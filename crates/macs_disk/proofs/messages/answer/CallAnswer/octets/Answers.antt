use Rattle.macs_disk.specs.States.{zero_sector}
use Rattle.macs_disk.proofs.messages.answer.CallAnswer.octets.Goals as goal

pub returns-in-Done : goal.returns-in-Done
unfolding zero_sector
returns-in-Done c = rw c.in-Done.is c.join-in-Done.ensures

pub returns-in-Failed : goal.returns-in-Failed
unfolding zero_sector
returns-in-Failed c = rw c.in-Failed.is c.join-in-Failed.ensures
