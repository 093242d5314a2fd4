-- A wire in memory.
use Rattle.std.specs.Prelude.{ℕ, List, Some, None, Vec, map}
use Rattle.macs_edge.specs.Wires.{WireState}
use Rattle.macs_edge.specs.declared.counts.WireCounts.{WireCounts}
use Rattle.macs_edge.specs.declared.mem_wire.MemWire.{MemWire}

-- the octets of each frame
abbrev pub frames_of : {A : Type 0} → List (Vec ℕ A) → List (List ℕ)
frames_of frames = map (λ frame. frame.items) frames

-- the frames that its receives will give, next first
abbrev pub waiting_in : {A : Type 0} → MemWire A → List (List ℕ)
waiting_in wire = frames_of wire.waiting.items

-- the frames that were sent, in order
abbrev pub sent_in : {A : Type 0} → MemWire A → List (List ℕ)
sent_in wire = frames_of wire.sent.items

-- its state: no receive of it fails
abbrev pub mem_wire_state : {A : Type 0} → MemWire A → WireState
mem_wire_state wire = record {
  waiting = Some (waiting_in wire);
  sent = Some (sent_in wire);
  failed_receives = 0;
  failed_sends = wire.failed_sends;
}

-- its counts: it has no strangers, no receive of it fails, and no system buffers anything for it
abbrev pub mem_wire_counts : {A : Type 0} → MemWire A → WireCounts
mem_wire_counts wire = record {
  strangers = 0;
  taken = wire.frames_taken;
  too_long = wire.frames_too_long;
  sent = wire.frames_sent;
  failed_receives = 0;
  failed_sends = wire.failed_sends;
  buffer = None;
}
