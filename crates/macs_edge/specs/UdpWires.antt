-- A wire over UDP.
use Rattle.std.specs.Prelude.{None}
use Rattle.std.specs.declared.net.SocketAddr.{SocketAddr}
use Rattle.macs_edge.specs.Wires.{WireState}
use Rattle.macs_edge.specs.declared.counts.WireCounts.{WireCounts}
use Rattle.macs_edge.specs.declared.udp_wire.UdpWire.{UdpWire}

-- its peer: the destination of its datagrams, and the source of those that it takes
abbrev pub peer_of : {A S : Type 0} → UdpWire A S → SocketAddr
peer_of wire = wire.peer

-- its socket
abbrev pub socket_of : {A S : Type 0} → UdpWire A S → S
socket_of wire = wire.socket

-- its state as a wire: its failed calls, and no frames
abbrev pub udp_wire_state : {A S : Type 0} → UdpWire A S → WireState
udp_wire_state wire =
    record { waiting = None; sent = None; failed_receives = wire.failed_receives; failed_sends = wire.failed_sends }

-- the counts of a wire
abbrev pub counts_of : {A S : Type 0} → UdpWire A S → WireCounts
counts_of wire = record {
  strangers = wire.strangers;
  taken = wire.frames_taken;
  too_long = wire.frames_too_long;
  sent = wire.frames_sent;
  failed_receives = wire.failed_receives;
  failed_sends = wire.failed_sends;
  buffer = wire.buffer;
}
