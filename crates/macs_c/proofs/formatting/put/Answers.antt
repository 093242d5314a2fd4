use Rattle.macs_c.proofs.SectorLists.{written-elsewhere, written-there}
use Rattle.macs_c.proofs.formatting.put.Goals as goal

pub returns-clause-written : goal.returns-clause-written
returns-clause-written c =
    written-there c.args.sectors.now c.args.at c.args.octets c.requires c.sector_in_range.ensures

pub returns-clause-others : goal.returns-clause-others
returns-clause-others c i apart = written-elsewhere c.args.sectors.now c.args.at i c.args.octets apart
