use Rattle.macs_headline.proofs.Losses.{loses-power}
use Rattle.macs_headline.proofs.laws.power_losses.Goals as goal

pub returns : goal.returns
returns c = loses-power
