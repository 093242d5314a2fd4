use Rattle.std.specs.Prelude.{◌≡◌, ◌⊎◌, false, None, Ok}
use Rattle.macs_store.specs.Keeps.{IsSpent}
use Rattle.macs_store.specs.Value.{standing_in}
use Rattle.macs_endpoint.specs.Value.{is_stopped, state_of}
use Rattle.macs_endpoint.specs.Needed.{raise_in}
use Rattle.macs_endpoint.specs.Reserving.{Reserves}
use Rattle.macs_endpoint.specs.State.{no_logs, rx_side, tx_side}
use Rattle.macs_endpoint.proofs.Raises.{left}
use Rattle.macs_endpoint.proofs.RefillCosts.{HaveRaised}
use Rattle.macs_endpoint.proofs.endpoint.Endpoint.reserve.Given as goal

abbrev pub invariant-loop-raise : goal.invariant-loop-raise
invariant-loop-raise g l = record {
  running : is_stopped l.self ≡ false;
  reserves : Reserves g.D.SectorDisk.disk l.fn.self (Ok tt) l.self;
  raised : HaveRaised g.D.SectorDisk.disk l.fn.self l.self.store;
  still : (raise_in l.fn.self ≡ None) ⊎ IsSpent l.fn.self.store → l.self ≡ l.fn.self;
}

abbrev pub decreases-loop-raise : goal.decreases-loop-raise
decreases-loop-raise g l =
    left (tx_side (state_of l.self no_logs)) (rx_side (state_of l.self no_logs)) (standing_in l.self.store)
