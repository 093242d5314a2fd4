use Rattle.macs_c.proofs.Ranges.{its_octets, some_offset}
use Rattle.macs_c.proofs.fields.offset_of.Goals as goal

pub returns-clause-some : goal.returns-clause-some
returns-clause-some c = some_offset _ _ c.new.ensures

pub returns-clause-octets : goal.returns-clause-octets
returns-clause-octets c = its_octets _ _ c.new.ensures
