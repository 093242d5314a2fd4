use Rattle.std.proofs.Common.{take}
use Rattle.macs_store.specs.Value.{standing_in}
use Rattle.macs_endpoint.proofs.Opened.{IsRxOpened}
use Rattle.macs_endpoint.proofs.opening.take_up_rx.Given as goal

abbrev pub invariant-loop-sci : goal.invariant-loop-sci
invariant-loop-sci g l = IsRxOpened (standing_in l.store) l.rx (take l.sci-index (standing_in l.store).config.channels)
