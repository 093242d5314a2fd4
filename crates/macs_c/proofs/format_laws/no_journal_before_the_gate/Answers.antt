use Rattle.macs_c.proofs.FormatPowerLoss.{before-gate}
use Rattle.macs_c.proofs.format_laws.no_journal_before_the_gate.Goals as goal

pub returns : goal.returns
returns c = before-gate
