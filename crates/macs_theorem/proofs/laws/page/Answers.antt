use Rattle.macs_theorem.proofs.Deeds.{deeds-happen}
use Rattle.macs_theorem.proofs.Events.{all-is-expected, older-is-expected}
use Rattle.macs_theorem.proofs.Nonces.{nonces-once}
use Rattle.macs_theorem.proofs.laws.page.Goals as goal

pub returns-clause-nonces : goal.returns-clause-nonces
returns-clause-nonces g c = nonces-once g.D.SectorDisk.disk g.met.D.SectorDisk.sound

pub returns-clause-seen : goal.returns-clause-seen
returns-clause-seen g c = all-is-expected g.D.SectorDisk.disk g.met.D.SectorDisk.sound

pub returns-clause-older : goal.returns-clause-older
returns-clause-older g c = older-is-expected g.D.SectorDisk.disk g.met.D.SectorDisk.sound

pub returns-clause-deeds : goal.returns-clause-deeds
returns-clause-deeds g c = deeds-happen g.D.SectorDisk.disk
