-- A wire that makes some calls fail: these do not reach the inner wire.
use Rattle.std.specs.Prelude.{◌≡◌, ◌+◌, ◌&&◌, ℕ, if◌then◌else◌, nat_le, nat_lt}
use Rattle.macs_edge.specs.Wires.{WireState, saturated}
use Rattle.macs_edge.specs.declared.counts.WireCounts.{WireCounts}

-- calls of one kind: the number of the one that will fail, counting from 1, or 0 for none; and how many were made, up
-- to 2^64 - 1
pub record CallsValue : Type 0 where
  pub fails_at : ℕ
  pub asked : ℕ

-- The next call is the one that fails. After 2^64 - 1 calls no call fails any more.
abbrev pub FailsNext : CallsValue → Type 0
FailsNext calls = calls.asked + 1 ≡ calls.fails_at

-- one more call was made
abbrev pub asked_once_more : CallsValue → CallsValue
asked_once_more calls = record calls { asked = saturated (calls.asked + 1) }

-- how many of the calls made failed: one, or none
abbrev pub failed_among : CallsValue → ℕ
failed_among calls = if nat_lt 0 calls.fails_at && nat_le calls.fails_at calls.asked then 1 else 0

-- a wire around another: the inner wire, and the calls made
pub record FaultWireValue (W : Type 0) : Type 0 where
  pub inner : W
  pub receives : CallsValue
  pub sends : CallsValue

-- its state, given the state of the inner wire: the same frames, and its own failed calls counted with those of the
-- inner wire
abbrev pub fault_wire_state : {W : Type 0} → (W → WireState) → FaultWireValue W → WireState
fault_wire_state state wire = record {
  waiting = (state wire.inner).waiting;
  sent = (state wire.inner).sent;
  failed_receives = saturated ((state wire.inner).failed_receives + failed_among wire.receives);
  failed_sends = saturated ((state wire.inner).failed_sends + failed_among wire.sends);
}

-- its counts, given those of the inner wire: its own failed calls are added to those of the inner wire
abbrev pub fault_wire_counts : {W : Type 0} → (W → WireCounts) → FaultWireValue W → WireCounts
fault_wire_counts counts wire = record (counts wire.inner) {
  failed_receives = saturated ((counts wire.inner).failed_receives + failed_among wire.receives);
  failed_sends = saturated ((counts wire.inner).failed_sends + failed_among wire.sends);
}
