-- Frames and commands through an endpoint from C: each is the call of the crate below, or changes nothing, for a cause
-- that is named.
use Rattle.std.specs.Prelude.{◌≡◌, ◌⊎◌, ◌<◌, ◌≤◌, ◌++◌, ℕ, true, false, List, drop, length, Option, Some, None, Result}
use Rattle.std.specs.Prelude.{Ok, Err}
use Rattle.macs_config.specs.declared.command.Command.{Command}
use Rattle.macs_c.specs.ReportedDisks.{reported_disk}
use Rattle.macs_endpoint.specs.Calls.{IsCall}
use Rattle.macs_endpoint.specs.State.{Protected, Protects, Received, Receives, Submits, Submitted}
use Rattle.macs_endpoint.specs.declared.fault.ProtectFault.{ProtectFault}
use Rattle.macs_endpoint.specs.declared.fault.Stopped.{Stopped}
use Rattle.macs_endpoint.specs.declared.fault.SubmitFault.{SubmitFault}
use Rattle.macs_rxsc.specs.declared.verdict.Verdict.{Verdict}
use Rattle.macs_rxsc.specs.declared.verdict.Verdict.TheVariants.{Delivered, Discarded, HeldBack}
use Rattle.macs_c.specs.Answers.{protect_answer, submit_answer}
use Rattle.macs_c.specs.Calls.{E}
use Rattle.macs_c.specs.Commands.{IsCommandOf, has_command}
use Rattle.macs_c.specs.declared.answers.Answer.{Answer}
use Rattle.macs_c.specs.declared.answers.Answer.TheVariants as code
use Rattle.macs_c.specs.declared.commands.MacsCommand.{MacsCommand}
use Rattle.macs_c.specs.declared.slot.Slot.{Slot}

-- ---- commands

-- the ticket of a command that is queued
abbrev pub ticket_after : ℕ → Result ℕ SubmitFault → ℕ
ticket_after old (Ok ticket) = ticket
ticket_after old (Err fault) = old

-- A field of a command is out of its range; or the command is submitted, and this is the result.
abbrev pub SubmitFrom : E → MacsCommand → ℕ → Answer → ℕ → E → Type 0
SubmitFrom old command ticket answer ticket' new =
    ((answer ≡ code.Field) × (has_command command ≡ false) × (new ≡ old) × (ticket' ≡ ticket))
    ⊎ ((has_command command ≡ true) × ((asked : Command) × IsCommandOf command asked × ((result : Result ℕ SubmitFault)
    × (answer ≡ submit_answer result) × IsCall reported_disk old (Submits asked) (Submitted result) new
    × (ticket' ≡ ticket_after ticket result))))

-- ---- frames

-- a caller's buffer, and the length of the frame in it, which is stored beside it
pub record Buffer : Type 0 where
  pub octets : List ℕ
  pub written : ℕ

-- the buffer with these octets, beside which this length is stored
abbrev pub buffer_of : List ℕ → ℕ → Buffer
buffer_of octets written = record { octets = octets; written = written }

-- a frame is at the front, and what follows it stays
abbrev pub IsPut : List ℕ → Buffer → Buffer → Type 0
IsPut frame old new = (new.octets ≡ frame ++ drop (length frame) old.octets) × (new.written ≡ length frame)

-- no frame is put there
abbrev pub IsNonePut : Buffer → Buffer → Type 0
IsNonePut old new = (new.octets ≡ old.octets) × (new.written ≡ 0)

-- nothing is stored
abbrev pub IsKept : Buffer → Buffer → Type 0
IsKept old new = (new.octets ≡ old.octets) × (new.written ≡ old.written)

-- what is stored of a frame that is sent, with its packet number, or not
abbrev pub StoresSent : Buffer → ℕ → Result ℕ ProtectFault → List ℕ → Buffer → ℕ → Type 0
StoresSent old pn (Ok number) frame new pn' = IsPut frame old new × (pn' ≡ number)
StoresSent old pn (Err fault) frame new pn' = IsKept old new × (pn' ≡ pn)

-- The buffer is too small; or a plain frame is protected, and this is the result.
abbrev pub ProtectFrom : E → List ℕ → Buffer → ℕ → Answer → Buffer → ℕ → E → Type 0
ProtectFrom old plain out pn answer out' pn' new =
    ((answer ≡ code.Room) × (length out.octets < 9216) × (new ≡ old) × IsKept out out' × (pn' ≡ pn))
    ⊎ ((9216 ≤ length out.octets) × ((result : Result ℕ ProtectFault) × (frame : List ℕ)
    × (answer ≡ protect_answer result) × IsCall reported_disk old (Protects plain) (Protected result frame) new
    × StoresSent out pn result frame out' pn'))

-- the answer for a received frame
abbrev pub receive_answer : Result Verdict Stopped → Answer
receive_answer (Ok verdict) = code.Received verdict
receive_answer (Err stopped) = code.Stopped

-- what is stored of a received frame: the plain frame if it is delivered
abbrev pub StoresReceived : Buffer → Result Verdict Stopped → List ℕ → Buffer → Type 0
StoresReceived old (Ok (Delivered kind)) plain new = IsPut plain old new
StoresReceived old (Ok (Discarded reason)) plain new = IsNonePut old new
StoresReceived old (Ok HeldBack) plain new = IsNonePut old new
StoresReceived old (Err stopped) plain new = IsKept old new

-- The buffer is too small; or a frame is received, and this is the result.
abbrev pub ReceiveFrom : E → List ℕ → Buffer → Answer → Buffer → E → Type 0
ReceiveFrom old frame out answer out' new =
    ((answer ≡ code.Room) × (length out.octets < 9216) × (new ≡ old) × IsKept out out')
    ⊎ ((9216 ≤ length out.octets) × ((result : Result Verdict Stopped) × (plain : List ℕ)
    × (answer ≡ receive_answer result) × IsCall reported_disk old (Receives frame) (Received result plain) new
    × StoresReceived out result plain out'))

-- ---- the same where an endpoint may be open

-- a command; with no open endpoint it is refused, and nothing changes
abbrev pub SubmitAnswer : Option Slot → MacsCommand → ℕ → Answer → ℕ → Option Slot → Type 0
SubmitAnswer None command ticket answer ticket' new = (answer ≡ code.Closed) × (new ≡ None) × (ticket' ≡ ticket)
SubmitAnswer (Some old) command ticket answer ticket' None = ⊥
SubmitAnswer (Some old) command ticket answer ticket' (Some new) =
    SubmitFrom old.endpoint command ticket answer ticket' new.endpoint

-- a plain frame to protect, likewise
abbrev pub ProtectAnswer : Option Slot → List ℕ → Buffer → ℕ → Answer → Buffer → ℕ → Option Slot → Type 0
ProtectAnswer None plain out pn answer out' pn' new =
    (answer ≡ code.Closed) × (new ≡ None) × IsKept out out' × (pn' ≡ pn)
ProtectAnswer (Some old) plain out pn answer out' pn' None = ⊥
ProtectAnswer (Some old) plain out pn answer out' pn' (Some new) =
    ProtectFrom old.endpoint plain out pn answer out' pn' new.endpoint

-- a received frame, likewise
abbrev pub ReceiveAnswer : Option Slot → List ℕ → Buffer → Answer → Buffer → Option Slot → Type 0
ReceiveAnswer None frame out answer out' new = (answer ≡ code.Closed) × (new ≡ None) × IsKept out out'
ReceiveAnswer (Some old) frame out answer out' None = ⊥
ReceiveAnswer (Some old) frame out answer out' (Some new) =
    ReceiveFrom old.endpoint frame out answer out' new.endpoint
