use Rattle.macs_headline.proofs.Migrated.{openings-migrate}
use Rattle.macs_headline.proofs.Chains.{calls-are-deeds, chains-answer}
use Rattle.macs_headline.proofs.Chains.{deeds-are-histories, new-deeds-are-histories}
use Rattle.macs_headline.proofs.Moments.{ends-are-cuts}
use Rattle.macs_headline.proofs.Moments.{lives-are-moments}
use Rattle.macs_headline.proofs.Moments.{lives-fit, openings-find}
use Rattle.macs_headline.proofs.Refusals.{refusals-are-failures}
use Rattle.macs_headline.proofs.laws.histories.Goals as goal

pub returns-clause-fit : goal.returns-clause-fit
returns-clause-fit g c = lives-fit g.D.SectorDisk.disk g.met.D.SectorDisk.sound

pub returns-clause-whole : goal.returns-clause-whole
returns-clause-whole g c = deeds-are-histories g.D.SectorDisk.disk g.met.D.SectorDisk.sound

pub returns-clause-from_new : goal.returns-clause-from_new
returns-clause-from_new g c = new-deeds-are-histories g.D.SectorDisk.disk g.met.D.SectorDisk.sound

pub returns-clause-under_way : goal.returns-clause-under_way
returns-clause-under_way g c = lives-are-moments g.D.SectorDisk.disk g.met.D.SectorDisk.sound

pub returns-clause-cut : goal.returns-clause-cut
returns-clause-cut g c = ends-are-cuts g.D.SectorDisk.disk

pub returns-clause-refusals : goal.returns-clause-refusals
returns-clause-refusals g c = refusals-are-failures g.D.SectorDisk.disk g.met.D.SectorDisk.sound

pub returns-clause-migrated : goal.returns-clause-migrated
returns-clause-migrated g c = openings-migrate g.D.SectorDisk.disk g.met.D.SectorDisk.sound

pub returns-clause-deeds : goal.returns-clause-deeds
returns-clause-deeds g c = calls-are-deeds g.D.SectorDisk.disk

pub returns-clause-found : goal.returns-clause-found
returns-clause-found g c = openings-find g.D.SectorDisk.disk g.met.D.SectorDisk.sound

pub returns-clause-answers : goal.returns-clause-answers
returns-clause-answers g c = chains-answer g.D.SectorDisk.disk
