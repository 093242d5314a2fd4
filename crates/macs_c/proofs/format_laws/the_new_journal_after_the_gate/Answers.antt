use Rattle.macs_c.proofs.FormatPowerLoss.{after-gate}
use Rattle.macs_c.proofs.format_laws.the_new_journal_after_the_gate.Goals as goal

pub returns : goal.returns
returns c = after-gate
