use Rattle.macs_c.proofs.ImageDisks.{sector-itself}
use Rattle.macs_c.proofs.format_laws.sectors_are_themselves.Goals as goal

pub returns : goal.returns
returns c = sector-itself
