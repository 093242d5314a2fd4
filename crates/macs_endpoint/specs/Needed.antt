-- Which ceiling an endpoint must raise first.
use Rattle.std.specs.Prelude.{Option}
use Rattle.macs_store.specs.Value.{standing_in}
use Rattle.macs_endpoint.specs.Ceilings as ceilings
use Rattle.macs_endpoint.specs.State.{no_logs, rx_side, tx_side}
use Rattle.macs_endpoint.specs.Value.{EndpointValue, state_of}

-- the ceiling that an endpoint must raise first, if any is needed
abbrev pub raise_in : {D : Type 0} → EndpointValue D → Option ceilings.Raise
raise_in e = ceilings.first_raise (standing_in e.store) (tx_side (state_of e no_logs)) (rx_side (state_of e no_logs))
