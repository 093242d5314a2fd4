use Rattle.std.proofs.Common.{refl}
use Rattle.macs_config.proofs.restore.take_settings.Goals as goal

pub returns-clause-settled : goal.returns-clause-settled
returns-clause-settled c = λ done. rw (c.in-Some-Settings.is, c.in-Some-Settings.field-0-is) refl
