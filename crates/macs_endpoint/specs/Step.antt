-- One life of an endpoint, call by call (IEEE Std 802.1AE-2018, clause 10).
use Rattle.std.specs.Prelude.{◌≡◌, ◌⊎◌, ◌<◌, ◌≤◌, ◌+◌, ℕ, true, false, List, [], ◌∷◌, ◌++◌, length, Option, Some, None}
use Rattle.std.specs.Prelude.{Result, Ok, Err}
use Rattle.std.specs.Option.{option_map}
use Rattle.macs_fields.specs.First.{IsFirst, first}
use Rattle.macs_config.specs.Apply.{LongKey, Named, apply}
use Rattle.macs_config.specs.Config.{Config}
use Rattle.macs_config.specs.Tables.{put, put_at}
use Rattle.macs_config.specs.declared.command.Command.{Command}
use Rattle.macs_config.specs.declared.command.Command.TheVariants.{SetReplay, TxInstall, TxRemove, RxDrop, RxInstall}
use Rattle.macs_config.specs.declared.command.Command.TheVariants.{RxRemove}
use Rattle.macs_txsc.specs.Transmit.{Outgoing, frame_of, next_outgoing, tx_faults}
use Rattle.macs_txsc.specs.declared.fault.TxFault.TheVariants.{NoNumber}
use Rattle.macs_rxsc.specs.Receive.{Arrival, Arrives, RxStepHolds, Numbers, numbers_after_delivery, given_at}
use Rattle.macs_rxsc.specs.Receive.{numbers_after_hold, delivery_kind, put_numbers, first_numbers, rx_steps, verdict_at}
use Rattle.macs_rxsc.specs.Receive.{numbers_under_window}
use Rattle.macs_rxsc.specs.Receive as rx
use Rattle.macs_rxsc.specs.declared.verdict.Verdict.{Verdict}
use Rattle.macs_rxsc.specs.declared.verdict.Verdict.TheVariants.{Delivered, HeldBack}
use Rattle.macs_endpoint.specs.declared.fault.CommandFault.{CommandFault}
use Rattle.macs_endpoint.specs.declared.fault.CommandFault.TheVariants as ran
use Rattle.macs_endpoint.specs.declared.fault.ProtectFault.{ProtectFault}
use Rattle.macs_endpoint.specs.declared.fault.ProtectFault.TheVariants as protect
use Rattle.macs_endpoint.specs.declared.fault.RefillFault.{RefillFault}
use Rattle.macs_endpoint.specs.declared.fault.RefillFault.TheVariants as refill
use Rattle.macs_endpoint.specs.declared.fault.RestFault.{RestFault}
use Rattle.macs_endpoint.specs.declared.fault.RestFault.TheVariants as rest
use Rattle.macs_endpoint.specs.declared.fault.StepFault.{StepFault}
use Rattle.macs_endpoint.specs.declared.fault.StepFault.TheVariants as step
use Rattle.macs_endpoint.specs.declared.fault.Stopped.{Stopped}
use Rattle.macs_endpoint.specs.declared.fault.SubmitFault.{SubmitFault}
use Rattle.macs_endpoint.specs.declared.fault.SubmitFault.TheVariants as submit
use Rattle.macs_endpoint.specs.declared.progress.Step.{Step as Progress}
use Rattle.macs_endpoint.specs.declared.progress.Step.TheVariants.{Done, Idle, Reserved, Worked}
use Rattle.macs_endpoint.specs.declared.queue.Waiting.{Waiting}
use Rattle.macs_endpoint.specs.Queue.{last_ticket, queue_length, with_waiting}
use Rattle.macs_endpoint.specs.State.{Accepts, Advanced, AdvancedLong, Advances, Call, Commands, NoneWait, Protects}
use Rattle.macs_endpoint.specs.State.{Protected, Ran, Received, Receives, Refilled, Refills, RefusedLong, Reply, Rested}
use Rattle.macs_endpoint.specs.State.{Rests, State, Submits, Submitted, state_after_fault, state_with_under_way}
use Rattle.macs_endpoint.specs.State.{rx_side}
use Rattle.macs_endpoint.specs.State.{tx_side}

-- ---- commands

-- an install sets the next number, a removal takes it away
abbrev pub next_after : Command → (ℕ → Option ℕ) → ℕ → Option ℕ
next_after (TxInstall an key start confidential offset) next = put next an (Some start)
next_after (TxRemove an) next = put next an None
next_after command next = next

-- the same for receive associations; and a new window raises the lowest acceptable number of each association where it
-- is further below next than the window
abbrev pub numbers_after : Command → (List ℕ → ℕ → Option Numbers) → List ℕ → ℕ → Option Numbers
numbers_after (SetReplay on window) numbers = λ sci an. option_map (numbers_under_window window) (numbers sci an)
numbers_after (RxDrop sci) numbers = put_at numbers sci (λ an. None)
numbers_after (RxInstall sci an key start offset) numbers = put_numbers numbers sci an (Some (first_numbers start))
numbers_after (RxRemove sci an) numbers = put_numbers numbers sci an None
numbers_after command numbers = numbers

-- the state after a command that led to this configuration
abbrev pub state_after_command : State → Command → Config → State
state_after_command s command config = record s {
  config = config;
  next = next_after command s.next;
  numbers = numbers_after command s.numbers;
  under_way = None;
}

-- a command is not refused, and leads from old to new
abbrev pub Makes : State → Command → State → Type 0
Makes old command new = (config : Config) × (apply old.edition old.identity old.config command ≡ Ok config)
    × (new ≡ state_after_command old command config)

-- A command takes effect, or nothing changes, or a device call failed and the command is under way. While a submitted
-- command is pending, under way or not, no other is taken.
abbrev pub CommandStep : State → Command → Result (Unit {0}) CommandFault → State → Type 0
CommandStep old command (Ok done) new = NoneWait old × Makes old command new
CommandStep old command (Err ran.Busy) new = (¬ NoneWait old) × (new ≡ old)
CommandStep old command (Err (ran.Refused refusal)) new =
    NoneWait old × (apply old.edition old.identity old.config command ≡ Err (Named refusal)) × (new ≡ old)
CommandStep old command (Err ran.GenerationsSpent) new = NoneWait old × Accepts old command × (new ≡ old)
CommandStep old command (Err ran.Disk) new = NoneWait old × Accepts old command
    × (new ≡ state_after_fault (state_with_under_way old command))
CommandStep old command (Err ran.Stopped) new = ⊥

-- an edition that does not accept the key of a command refuses it for that, and nothing changes
abbrev pub RefusesLong : State → Command → State → Type 0
RefusesLong old command new = NoneWait old × (apply old.edition old.identity old.config command ≡ Err LongKey)
    × (new ≡ old)

-- ---- pending commands

-- the state with one more pending command, with the next ticket
abbrev pub state_with_waiting : State → Command → State
state_with_waiting s command = record s {
  waiting = with_waiting s.waiting (s.tickets + 1) command;
  tickets = s.tickets + 1;
}

-- A command is queued and its ticket returned, unless the queue is full or no ticket is left.
abbrev pub SubmitStep : State → Command → Result ℕ SubmitFault → State → Type 0
SubmitStep old command (Ok ticket) new =
    (length old.waiting < queue_length) × (old.tickets < last_ticket) × (ticket ≡ old.tickets + 1)
    × (new ≡ state_with_waiting old command)
SubmitStep old command (Err submit.QueueFull) new = (queue_length ≤ length old.waiting) × (new ≡ old)
SubmitStep old command (Err submit.TicketsSpent) new = (length old.waiting < queue_length) × (last_ticket ≤ old.tickets)
    × (new ≡ old)
SubmitStep old command (Err submit.Stopped) new = ⊥

-- the first pending command is started: it is accepted, and nothing was under way
abbrev pub TakesUp : State → State → Type 0
TakesUp old new = (first : Waiting) × (rest : List Waiting) × (old.waiting ≡ first ∷ rest) × (old.under_way ≡ None)
    × Accepts old first.command × (new ≡ state_with_under_way old first.command)

-- the state without the first pending command, which is no longer under way
abbrev pub state_without_first : State → List Waiting → State
state_without_first s rest = record s { waiting = rest; under_way = None }

-- The first pending command is completed. One that is under way took effect; one that is not took effect, or was
-- refused, or it needs a compaction that is not possible.
abbrev pub Ends : State → Waiting → List Waiting → Result (Unit {0}) CommandFault → State → Type 0
Ends old first rest (Ok done) new = Makes (state_without_first old rest) first.command new
Ends old first rest (Err (ran.Refused refusal)) new =
    (old.under_way ≡ None) × (apply old.edition old.identity old.config first.command ≡ Err (Named refusal))
    × (new ≡ state_without_first old rest)
Ends old first rest (Err ran.GenerationsSpent) new = (old.under_way ≡ None) × Accepts old first.command
    × (new ≡ state_without_first old rest)
Ends old first rest (Err fault) new = ⊥

-- One device call of the pending work, or none. Nothing changes except what is under way, unless the first pending
-- command is completed.
abbrev pub AdvanceStep : State → Result Progress StepFault → State → Type 0
AdvanceStep old (Ok Idle) new = new ≡ old
AdvanceStep old (Ok Worked) new = (new ≡ old) ⊎ TakesUp old new
AdvanceStep old (Ok Reserved) new = new ≡ old
AdvanceStep old (Ok (Done ticket result)) new =
    (first : Waiting) × (rest : List Waiting) × (old.waiting ≡ first ∷ rest) × (ticket ≡ first.ticket)
    × Ends old first rest result new
AdvanceStep old (Err step.GenerationsSpent) new = new ≡ old
AdvanceStep old (Err step.Disk) new = (new ≡ state_after_fault old)
    ⊎ ((mid : State) × TakesUp old mid × (new ≡ state_after_fault mid))
AdvanceStep old (Err step.Stopped) new = ⊥

-- the first pending command, which is not under way, is refused for the length of its key
abbrev pub RefusesFirst : State → Waiting → List Waiting → State → Type 0
RefusesFirst old first rest new =
    (old.under_way ≡ None) × (apply old.edition old.identity old.config first.command ≡ Err LongKey)
    × (new ≡ state_without_first old rest)

-- a step of an edition that does not accept the key of the first pending command
abbrev pub AdvancesLong : State → ℕ → State → Type 0
AdvancesLong old ticket new =
    (first : Waiting) × (rest : List Waiting) × (old.waiting ≡ first ∷ rest) × (ticket ≡ first.ticket)
    × RefusesFirst old first rest new

-- ---- work on the disk

-- A refill leaves the state, which has no ceilings, unchanged, unless a device call failed. While a submitted command
-- is pending there is none.
abbrev pub RefillStep : State → Result (Unit {0}) RefillFault → State → Type 0
RefillStep old (Ok done) new = NoneWait old × (new ≡ old)
RefillStep old (Err refill.Busy) new = (¬ NoneWait old) × (new ≡ old)
RefillStep old (Err refill.GenerationsSpent) new = NoneWait old × (new ≡ old)
RefillStep old (Err refill.Disk) new = NoneWait old × (new ≡ state_after_fault old)
RefillStep old (Err refill.Stopped) new = ⊥

-- the answer of a refill with the name of that of a rest
abbrev pub as_refill : Result (Unit {0}) RestFault → Result (Unit {0}) RefillFault
as_refill (Ok done) = Ok done
as_refill (Err rest.Stopped) = Err refill.Stopped
as_refill (Err rest.Busy) = Err refill.Busy
as_refill (Err rest.GenerationsSpent) = Err refill.GenerationsSpent
as_refill (Err rest.Disk) = Err refill.Disk

-- a rest lowers the ceilings, which the state has not: to the state it is a refill
abbrev pub RestStep : State → Result (Unit {0}) RestFault → State → Type 0
RestStep old result new = RefillStep old (as_refill result) new

-- ---- frames

-- the state after a frame was sent
abbrev pub state_after_frame : State → Outgoing → State
state_after_frame s o = record s {
  next = put s.next o.an (Some (o.pn + 1));
  logs = record s.logs { used = record { key = o.sa.key; pn = o.pn } ∷ s.logs.used };
}

-- The first fault that applies; otherwise there may be no number, or the frame is sent.
abbrev pub ProtectStep : State → List ℕ → Result ℕ ProtectFault → List ℕ → State → Type 0
ProtectStep old plain (Ok pn) out new =
    (first (tx_faults (tx_side old) plain) ≡ None)
    × ((o : Outgoing) × (next_outgoing (tx_side old) ≡ Some o) × (pn ≡ o.pn) × (out ≡ frame_of (tx_side old) o plain)
    × (new ≡ state_after_frame old o))
ProtectStep old plain (Err (protect.Tx fault)) out new =
    ((first (tx_faults (tx_side old) plain) ≡ Some fault)
    ⊎ ((first (tx_faults (tx_side old) plain) ≡ None) × (fault ≡ NoNumber)))
    × (out ≡ []) × (new ≡ old)
ProtectStep old plain (Err protect.Stopped) out new = ⊥

-- the state after a frame that verified was held back
abbrev pub state_after_hold : State → Arrival → State
state_after_hold s a =
    record s { numbers = put_numbers s.numbers a.sci a.an (Some (numbers_after_hold a.numbers a.pn)) }

-- the state after a frame that verified was delivered
abbrev pub state_after_delivery : State → Arrival → State
state_after_delivery s a = record s {
  numbers = put_numbers s.numbers a.sci a.an (Some (numbers_after_delivery s.config.replay.window a.numbers a.pn));
  logs = record s.logs {
    given = record { sci = a.sci; key = a.sa.key; pn = a.pn; kind = delivery_kind a.numbers a.pn } ∷ s.logs.given;
  };
}

-- a frame that verified may be held back if its number is not below the next one, or is delivered
abbrev pub ArriveStep : State → Arrival → Verdict → List ℕ → State → Type 0
ArriveStep old a verdict out new =
    ((verdict ≡ HeldBack) × (a.numbers.next ≤ a.pn) × (out ≡ []) × (new ≡ state_after_hold old a))
    ⊎ ((verdict ≡ Delivered (delivery_kind a.numbers a.pn)) × (out ≡ a.plain) × (new ≡ state_after_delivery old a))

-- one of the first nine steps settles the frame
abbrev pub SettleStep : State → List ℕ → Verdict → List ℕ → State → Type 0
SettleStep old frame verdict out new =
    (step : rx.RxStep) × IsFirst (RxStepHolds (rx_side old) frame) rx_steps step
    × (verdict ≡ verdict_at (rx_side old) frame step) × (out ≡ given_at frame verdict) × (new ≡ old)

-- a received frame is settled by one of the first nine steps, or verified and arrives
abbrev pub ReceiveStep : State → List ℕ → Result Verdict Stopped → List ℕ → State → Type 0
ReceiveStep old frame (Ok verdict) out new =
    SettleStep old frame verdict out new
    ⊎ ((a : Arrival) × Arrives (rx_side old) frame a × ArriveStep old a verdict out new)
ReceiveStep old frame (Err stopped) out new = ⊥

-- ---- a step

-- a call of an endpoint that is not stopped
abbrev pub RunningStep : State → Call → Reply → State → Type 0
RunningStep old (Commands command) (Ran result) new = CommandStep old command result new
RunningStep old Refills (Refilled result) new = RefillStep old result new
RunningStep old Rests (Rested result) new = RestStep old result new
RunningStep old (Submits command) (Submitted result) new = SubmitStep old command result new
RunningStep old Advances (Advanced result) new = AdvanceStep old result new
RunningStep old (Protects plain) (Protected result out) new = ProtectStep old plain result out new
RunningStep old (Receives frame) (Received result out) new = ReceiveStep old frame result out new
RunningStep old (Commands command) RefusedLong new = RefusesLong old command new
RunningStep old Advances (AdvancedLong ticket) new = AdvancesLong old ticket new
RunningStep old call reply new = ⊥

-- a call is answered with Stopped
abbrev pub IsStopped : Call → Reply → Type 0
IsStopped (Commands command) (Ran (Err ran.Stopped)) = Unit {0}
IsStopped Refills (Refilled (Err refill.Stopped)) = Unit {0}
IsStopped Rests (Rested (Err rest.Stopped)) = Unit {0}
IsStopped (Submits command) (Submitted (Err submit.Stopped)) = Unit {0}
IsStopped Advances (Advanced (Err step.Stopped)) = Unit {0}
IsStopped (Protects plain) (Protected (Err protect.Stopped) out) = out ≡ []
IsStopped (Receives frame) (Received (Err stopped) out) = out ≡ []
IsStopped call reply = ⊥

-- A call is made: a stopped endpoint answers Stopped and is unchanged, any other one runs the call.
abbrev pub Step : State → Call → Reply → State → Type 0
Step old call reply new =
    ((old.stopped ≡ true) × IsStopped call reply × (new ≡ old))
    ⊎ ((old.stopped ≡ false) × RunningStep old call reply new)

-- a call and its answer
pub record Exchange : Type 0 where
  pub call : Call
  pub reply : Reply

-- one step after another
abbrev pub Steps : State → List Exchange → State → Type 0
Steps old [] new = new ≡ old
Steps old (e ∷ es) new = (mid : State) × Step old e.call e.reply mid × Steps mid es new
