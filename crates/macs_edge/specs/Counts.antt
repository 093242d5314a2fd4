-- What a wire counts.
use Rattle.std.specs.Prelude.{◌≡◌, ◌⊎◌, ◌+◌, ℕ, Bool, true, false, if◌then◌else◌, List, [], ◌∷◌, Option, Some, None}
use Rattle.std.specs.Prelude.{Result, Ok, Err}
use Rattle.macs_edge.specs.Datagrams.{Datagram, SocketState}
use Rattle.macs_edge.specs.Wires.{saturated}
use Rattle.macs_edge.specs.declared.counts.WireCounts.{WireCounts}
use Rattle.macs_edge.specs.declared.wire.Got.{Got}
use Rattle.macs_edge.specs.declared.wire.Got.TheVariants.{Nothing, Frame, TooLong}
use Rattle.macs_edge.specs.declared.wire.WireFault.{WireFault}

-- the counts before the first call
abbrev pub no_counts : WireCounts
no_counts = record {
  strangers = 0;
  taken = 0;
  too_long = 0;
  sent = 0;
  failed_receives = 0;
  failed_sends = 0;
  buffer = None;
}

-- with this answer a frame is taken off a wire, even if it is too long
abbrev pub takes_one : Result Got WireFault → Bool
takes_one (Ok Frame) = true
takes_one (Ok TooLong) = true
takes_one answer = false

-- with this answer the frame is too long
abbrev pub is_too_long : Result Got WireFault → Bool
is_too_long (Ok TooLong) = true
is_too_long answer = false

-- one more if the condition is true
abbrev pub counted_if : Bool → ℕ → ℕ
counted_if is_so n = if is_so then saturated (n + 1) else n

-- strangers are counted when nothing is returned: one more if a datagram was waiting, else none
abbrev pub CountsWaiting : List Datagram → ℕ → ℕ → Type 0
CountsWaiting [] old new = new ≡ old
CountsWaiting (first ∷ rest) old new = new ≡ saturated (old + 1)

-- The same for a receive with any answer. If it is not known what is waiting, a stranger's datagram may have been there
-- whenever nothing is returned
abbrev pub CountsStrangers : Result Got WireFault → Option SocketState → ℕ → ℕ → Type 0
CountsStrangers (Ok Nothing) None old new = (new ≡ old) ⊎ (new ≡ saturated (old + 1))
CountsStrangers (Ok Nothing) (Some socket) old new = CountsWaiting socket.waiting old new
CountsStrangers answer socket old new = new ≡ old

-- what a receive counts, besides its failure: a frame that is taken, and whether it is too long, or a stranger's
-- datagram; the buffer size stays
pub record CountsReceive (socket : Option SocketState) (answer : Result Got WireFault) (old new : WireCounts) : Type 0
  where
    pub strangers : CountsStrangers answer socket old.strangers new.strangers
    pub taken : new.taken ≡ counted_if (takes_one answer) old.taken
    pub too_long : new.too_long ≡ counted_if (is_too_long answer) old.too_long
    pub sent : new.sent ≡ old.sent
    pub buffer : new.buffer ≡ old.buffer

-- the counts once it is known how many octets of datagrams the system buffers for the wire
abbrev pub with_buffer : ℕ → WireCounts → WireCounts
with_buffer octets c = record c { buffer = Some octets }

-- what a send counts: a frame that is sent, or a failure
abbrev pub counts_after_send : Result (Unit {0}) WireFault → WireCounts → WireCounts
counts_after_send (Ok done) c = record c { sent = saturated (c.sent + 1) }
counts_after_send (Err fault) c = record c { failed_sends = saturated (c.failed_sends + 1) }

-- what a receive counts on a wire without strangers: a frame that is taken, or a failure
abbrev pub counts_after_receive : Result Got WireFault → WireCounts → WireCounts
counts_after_receive (Ok Nothing) c = c
counts_after_receive (Ok Frame) c = record c { taken = saturated (c.taken + 1) }
counts_after_receive (Ok TooLong) c =
    record c { taken = saturated (c.taken + 1); too_long = saturated (c.too_long + 1) }
counts_after_receive (Err fault) c = record c { failed_receives = saturated (c.failed_receives + 1) }
