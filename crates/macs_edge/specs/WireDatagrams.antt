-- How a UDP wire treats the datagrams of its socket.
use Rattle.std.specs.Prelude.{◌≡◌, ◌≢◌, ◌⊎◌, ◌<◌, ◌≤◌, ⊤, Bool, true, false, List, [], ◌∷◌, ℕ, length, Option, Some}
use Rattle.std.specs.Prelude.{None, Result, Ok, Err}
use Rattle.std.specs.declared.net.SocketAddr.{SocketAddr}
use Rattle.macs_edge.specs.Datagrams.{Datagram, SocketState, one_sent, receive_failed, send_failed}
use Rattle.macs_edge.specs.Wires.{longest_frame}
use Rattle.macs_edge.specs.declared.wire.Got.{Got}
use Rattle.macs_edge.specs.declared.wire.Got.TheVariants.{Nothing, Frame, TooLong}
use Rattle.macs_edge.specs.declared.wire.WireFault.{WireFault}
use Rattle.macs_edge.specs.declared.wire.WireFault.TheVariants as fault

-- what octets from an address are to a wire with this peer: a stranger's are nothing, the peer's are a frame, or too
-- many
abbrev pub IsGiven : SocketAddr → SocketAddr → List ℕ → Got → List ℕ → Type 0
IsGiven peer from octets got frame =
    ((from ≢ peer) × (got ≡ Nothing) × (frame ≡ []))
    ⊎ ((from ≡ peer) × (length octets ≤ longest_frame) × (got ≡ Frame) × (frame ≡ octets))
    ⊎ ((from ≡ peer) × (longest_frame < length octets) × (got ≡ TooLong) × (frame ≡ []))

-- A wire is asked for a frame, over a socket whose datagrams are known: the first one is taken, and the answer is what
-- it is to the wire; or none is waiting, and the answer is nothing; or the receive fails, and that is the fault
abbrev pub ReceivesDatagram : SocketAddr → Option SocketState → Option SocketState → Result Got WireFault
    → List ℕ → Type 0
ReceivesDatagram peer None new answer frame = ⊤
ReceivesDatagram peer (Some old) new (Ok got) frame =
    ((first : Datagram) × (rest : List Datagram) × (old.waiting ≡ first ∷ rest)
    × (new ≡ Some (record old { waiting = rest }))
    × IsGiven peer first.address first.octets got frame)
    ⊎ ((old.waiting ≡ []) × (new ≡ Some old) × (got ≡ Nothing))
ReceivesDatagram peer (Some old) new (Err cause) frame = (cause ≡ fault.Receive) × (new ≡ Some (receive_failed old))

-- a wire sends a frame, over a socket whose datagrams are known: as one datagram to the peer, or the send fails
abbrev pub SendsDatagram : SocketAddr → Option SocketState → Option SocketState → List ℕ → Bool → Type 0
SendsDatagram peer None new frame is_sent = ⊤
SendsDatagram peer (Some old) new frame true = new ≡ Some (one_sent old peer frame)
SendsDatagram peer (Some old) new frame false = new ≡ Some (send_failed old)
