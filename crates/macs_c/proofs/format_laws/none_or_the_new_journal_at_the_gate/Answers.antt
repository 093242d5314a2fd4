use Rattle.macs_c.proofs.FormatPowerLoss.{at-gate}
use Rattle.macs_c.proofs.format_laws.none_or_the_new_journal_at_the_gate.Goals as goal

pub returns : goal.returns
returns c = at-gate
