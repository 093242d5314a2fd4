use Rattle.macs_endpoint.proofs.Rooms.{below-delivered, below-idle, below-refilled, below-stays}
use Rattle.macs_endpoint.proofs.Seen.{below-again, below-later}
use Rattle.macs_endpoint.proofs.laws.frames_not_held_back.Goals as goal

pub returns-clause-refilled : goal.returns-clause-refilled
returns-clause-refilled g c = below-refilled g.D.SectorDisk.disk

pub returns-clause-idle : goal.returns-clause-idle
returns-clause-idle g c = below-idle g.D.SectorDisk.disk

pub returns-clause-again : goal.returns-clause-again
returns-clause-again g c = below-again g.D.SectorDisk.disk

pub returns-clause-later : goal.returns-clause-later
returns-clause-later g c = below-later g.D.SectorDisk.disk

pub returns-clause-stays : goal.returns-clause-stays
returns-clause-stays g c = below-stays g.D.SectorDisk.disk

pub returns-clause-delivered : goal.returns-clause-delivered
returns-clause-delivered g c = below-delivered g.D.SectorDisk.disk
