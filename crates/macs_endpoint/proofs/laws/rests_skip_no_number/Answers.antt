use Rattle.macs_endpoint.proofs.Rested.{level-after, level-opens, skips-none}
use Rattle.macs_endpoint.proofs.laws.rests_skip_no_number.Goals as goal

pub returns-clause-level : goal.returns-clause-level
returns-clause-level g c = level-after g.D.SectorDisk.disk

pub returns-clause-opens : goal.returns-clause-opens
returns-clause-opens g c = level-opens g.D.SectorDisk.disk

pub returns-clause-skips : goal.returns-clause-skips
returns-clause-skips g c = skips-none
