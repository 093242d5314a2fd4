use Rattle.macs_headline.proofs.Endings.{dropped-pass-on, images-are-whole, killings-pass-on}
use Rattle.macs_headline.proofs.Endings.{losses-settle, power-losses-pass-on}
use Rattle.macs_headline.proofs.Endings.{reads-pass-on}
use Rattle.macs_headline.proofs.Endings.{syncs-pass-on}
use Rattle.macs_headline.proofs.Endings.{written-back-pass-on}
use Rattle.macs_headline.proofs.laws.endings.Goals as goal

pub returns-clause-power_lost : goal.returns-clause-power_lost
returns-clause-power_lost g c = power-losses-pass-on

pub returns-clause-killed : goal.returns-clause-killed
returns-clause-killed g c = killings-pass-on

pub returns-clause-dropped : goal.returns-clause-dropped
returns-clause-dropped g c = dropped-pass-on

pub returns-clause-written_back : goal.returns-clause-written_back
returns-clause-written_back g c = written-back-pass-on g.D.SectorDisk.disk g.met.D.SectorDisk.sound

pub returns-clause-read : goal.returns-clause-read
returns-clause-read g c = reads-pass-on g.D.SectorDisk.disk g.met.D.SectorDisk.sound

pub returns-clause-synced : goal.returns-clause-synced
returns-clause-synced g c = syncs-pass-on g.D.SectorDisk.disk g.met.D.SectorDisk.sound

pub returns-clause-settled : goal.returns-clause-settled
returns-clause-settled g c = losses-settle

pub returns-clause-whole : goal.returns-clause-whole
returns-clause-whole g c = images-are-whole
