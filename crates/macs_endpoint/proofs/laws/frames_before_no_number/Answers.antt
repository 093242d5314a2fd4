use Rattle.macs_endpoint.proofs.Rooms.{room-idle, room-installed, room-numbered, room-refilled, room-stays}
use Rattle.macs_endpoint.proofs.laws.frames_before_no_number.Goals as goal

pub returns-clause-refilled : goal.returns-clause-refilled
returns-clause-refilled g c = room-refilled g.D.SectorDisk.disk

pub returns-clause-idle : goal.returns-clause-idle
returns-clause-idle g c = room-idle g.D.SectorDisk.disk

pub returns-clause-installed : goal.returns-clause-installed
returns-clause-installed g c = room-installed g.D.SectorDisk.disk

pub returns-clause-stays : goal.returns-clause-stays
returns-clause-stays g c = room-stays g.D.SectorDisk.disk

pub returns-clause-numbered : goal.returns-clause-numbered
returns-clause-numbered g c = room-numbered g.D.SectorDisk.disk
