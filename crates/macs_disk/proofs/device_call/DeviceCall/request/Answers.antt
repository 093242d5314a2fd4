use Rattle.macs_disk.specs.States.{zero_sector}
use Rattle.macs_disk.proofs.device_call.DeviceCall.request.Goals as goal

pub returns-in-Read : goal.returns-in-Read
unfolding zero_sector
returns-in-Read c = rw c.in-Read.is c.join.ensures

pub returns-in-Sync : goal.returns-in-Sync
unfolding zero_sector
returns-in-Sync c = rw c.in-Sync.is c.join-in-Sync.ensures
