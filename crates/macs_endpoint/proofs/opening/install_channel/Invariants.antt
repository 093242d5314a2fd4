use Rattle.macs_store.specs.Value.{standing_in}
use Rattle.macs_endpoint.proofs.Opened.{IsRxFilled}
use Rattle.macs_endpoint.proofs.opening.install_channel.Given as goal

abbrev pub invariant-loop-an : goal.invariant-loop-an
invariant-loop-an g l = IsRxFilled (standing_in l.store) l.sci l.fn.rx l.rx l.an-index
