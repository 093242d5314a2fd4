use Rattle.macs_c.proofs.FormatPowerLoss.{second-stays}
use Rattle.macs_c.proofs.format_laws.the_second_area_stays.Goals as goal

pub returns : goal.returns
returns c = second-stays
