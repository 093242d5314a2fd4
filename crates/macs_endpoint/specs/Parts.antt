-- An endpoint in memory, given by the fields of the program's type, and the meaning of its private types.
use Rattle.std.specs.Option.{option_map}
use Rattle.macs_txsc.specs.Value as txsc
use Rattle.macs_txsc.specs.declared.channel.Tx.{Tx}
use Rattle.macs_rxsc.specs.Receive.{Numbers}
use Rattle.macs_rxsc.specs.Value as rxsc
use Rattle.macs_store.specs.Standing.{Ceilings}
use Rattle.macs_store.specs.Value.{StoreValue}
use Rattle.macs_endpoint.specs.Advancing.{Due, ToKeep, ToRaise}
use Rattle.macs_endpoint.specs.Ceilings as ceilings
use Rattle.macs_endpoint.specs.Queue.{QueueValue}
use Rattle.macs_endpoint.specs.Value.{EndpointValue}
use Rattle.macs_endpoint.specs.declared.channels.Channels.{Channels}
use Rattle.macs_endpoint.specs.declared.refilling.Raise.{Raise}
use Rattle.macs_endpoint.specs.declared.refilling.Raise.TheVariants as raised
use Rattle.macs_endpoint.specs.declared.stepping.Due as declared
use Rattle.macs_endpoint.specs.declared.stepping.Due.TheVariants as variant
use Rattle.macs_endpoint.specs.declared.turn.Turn.{Turn}

-- ---- the meaning of the program's private types

-- a ceiling to raise
abbrev pub raise_of : Raise → ceilings.Raise
raise_of (raised.Tx an) = ceilings.RaiseTx an
raise_of (raised.Rx need) = ceilings.RaiseRx (record { sci = need.sci; an = need.an; pn = need.pn })

-- what is due
abbrev pub due_of : declared.Due → Due
due_of (variant.Raise raise) = ToRaise (raise_of raise)
due_of (variant.Keep first) = ToKeep first

-- ---- an endpoint by its parts

-- the value of an endpoint made of these parts
abbrev pub endpoint_of : {D : Type 0} → StoreValue D → Channels → QueueValue → Turn → EndpointValue D
endpoint_of store channels queue turn = record {
  store = store;
  tx = channels.tx;
  rx = channels.rx;
  under_way = queue.under_way;
  reserving = option_map raise_of queue.reserving;
  waiting = queue.waiting;
  tickets = queue.given;
  turn = turn;
}

-- the next packet numbers of channels, as ceilings
abbrev pub next_of : Tx → rxsc.RxValue → Ceilings
next_of tx rx = record {
  tx = (txsc.tx_side_of tx).next;
  rx = λ sci an. option_map (λ (n : Numbers). n.next) ((rxsc.rx_side_of rx).numbers sci an);
}
