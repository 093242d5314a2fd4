-- Datagrams, and what each call of a socket does if its datagrams are known.
use Rattle.std.specs.Prelude.{◌≡◌, ◌≢◌, ◌⊎◌, ◌+◌, ◌++◌, ⊤, ℕ, List, [], ◌∷◌, length, take, Option, Some, None, Result}
use Rattle.std.specs.Prelude.{Ok, Err}
use Rattle.std.specs.declared.io.ErrorKind.{ErrorKind}
use Rattle.std.specs.declared.io.ErrorKind.TheVariants.{WouldBlock}
use Rattle.std.specs.declared.net.SocketAddr.{SocketAddr}
use Rattle.macs_edge.specs.declared.datagrams.Arrived.{Arrived}

-- a datagram with its source or destination address
pub record Datagram : Type 0 where
  pub address : SocketAddr
  pub octets : List ℕ

-- what is known about a socket: the datagrams that it will give, in order, and those that were sent; how many receives
-- and sends failed
pub record SocketState : Type 0 where
  pub waiting : List Datagram
  pub sent : List Datagram
  pub failed_receives : ℕ
  pub failed_sends : ℕ

-- the first datagram is taken, and as much of it as fits is in the buffer
pub record TakesFirst (old : SocketState) (new : Option SocketState) (into : List ℕ) (arrived : Arrived) : Type 0 where
  pub first : Datagram
  pub rest : List Datagram
  pub waiting : old.waiting ≡ first ∷ rest
  pub left : new ≡ Some (record old { waiting = rest })
  pub address : arrived.from ≡ first.address
  pub octets : take arrived.count into ≡ take (length into) first.octets

-- one more failed receive
abbrev pub receive_failed : SocketState → SocketState
receive_failed socket = record socket { failed_receives = socket.failed_receives + 1 }

-- one more failed send
abbrev pub send_failed : SocketState → SocketState
send_failed socket = record socket { failed_sends = socket.failed_sends + 1 }

-- one more datagram sent
abbrev pub one_sent : SocketState → SocketAddr → List ℕ → SocketState
one_sent socket address octets =
    record socket { sent = socket.sent ++ record { address = address; octets = octets } ∷ [] }

-- a socket is asked for a datagram: the first one is taken; or none is waiting, and the error is of that kind; or the
-- receive fails
abbrev pub TakesDatagram : {E : Type 0} → Option SocketState → Option SocketState → (E → ErrorKind) → List ℕ
    → Result Arrived E → Type 0
TakesDatagram None new kind into answer = ⊤
TakesDatagram (Some old) new kind into (Ok arrived) = TakesFirst old new into arrived
TakesDatagram (Some old) new kind into (Err error) =
    ((kind error ≡ WouldBlock) × (old.waiting ≡ []) × (new ≡ Some old))
    ⊎ ((kind error ≢ WouldBlock) × (new ≡ Some (receive_failed old)))

-- a socket is given a datagram: it is sent whole, or the send fails
abbrev pub GivesDatagram : {E : Type 0} → Option SocketState → Option SocketState → List ℕ → SocketAddr
    → Result ℕ E → Type 0
GivesDatagram None new octets to answer = ⊤
GivesDatagram (Some old) new octets to (Ok count) = (count ≡ length octets) × (new ≡ Some (one_sent old to octets))
GivesDatagram (Some old) new octets to (Err error) = new ≡ Some (send_failed old)
