use Rattle.std.proofs.Common.{◌∙◌, ap, sym}
use Rattle.macs_store.specs.UnderWay.{record_kept}
use Rattle.macs_store.proofs.Keeping.{recorded-is}
use Rattle.macs_store.proofs.under_way.Kept.record.Goals as goal

pub returns-in-Command : goal.returns-in-Command
returns-in-Command c = recorded-is c.in-Command.checked c.of.result c.of.ensures ∙ ap record_kept (sym c.in-Command.is)
