-- An endpoint at a moment, its calls, and its answers.
use Rattle.std.specs.Prelude.{◌≡◌, ℕ, Bool, true, List, [], ◌∷◌, Option, Some, None, Result, Ok, IsOk}
use Rattle.macs_config.specs.Apply.{apply}
use Rattle.macs_config.specs.Config.{Config, Edition}
use Rattle.macs_config.specs.Identity.{Identity}
use Rattle.macs_config.specs.declared.command.Command.{Command}
use Rattle.macs_txsc.specs.Transmit.{TxSide}
use Rattle.macs_rxsc.specs.Receive.{Numbers, RxSide}
use Rattle.macs_rxsc.specs.declared.verdict.Kind.{Kind}
use Rattle.macs_rxsc.specs.declared.verdict.Verdict.{Verdict}
use Rattle.macs_endpoint.specs.Queue.{first_command}
use Rattle.macs_endpoint.specs.declared.fault.CommandFault.{CommandFault}
use Rattle.macs_endpoint.specs.declared.fault.ProtectFault.{ProtectFault}
use Rattle.macs_endpoint.specs.declared.fault.RefillFault.{RefillFault}
use Rattle.macs_endpoint.specs.declared.fault.RestFault.{RestFault}
use Rattle.macs_endpoint.specs.declared.fault.StepFault.{StepFault}
use Rattle.macs_endpoint.specs.declared.fault.Stopped.{Stopped}
use Rattle.macs_endpoint.specs.declared.fault.SubmitFault.{SubmitFault}
use Rattle.macs_endpoint.specs.declared.progress.Step.{Step as Progress}
use Rattle.macs_endpoint.specs.declared.progress.Step.TheVariants.{Done}
use Rattle.macs_endpoint.specs.declared.queue.Waiting.{Waiting}

-- ---- what happened, over all lives

-- a frame was sent under this key with this packet number
pub record Use : Type 0 where
  pub key : List ℕ
  pub pn : ℕ

-- a frame was delivered as Ok or Delayed
pub record Delivery : Type 0 where
  pub sci : List ℕ
  pub key : List ℕ
  pub pn : ℕ
  pub kind : Kind

-- newest first
pub record Logs : Type 0 where
  pub used : List Use
  pub given : List Delivery

-- no frame was sent, and none was delivered
abbrev pub no_logs : Logs
no_logs = record { used = []; given = [] }

-- ---- a moment

-- The edition of the program; next packet numbers of transmit associations by number, numbers of receive associations
-- by SCI and number; the command whose call or whose work on the disk began and did not end, which stays after a device
-- fault; the submitted commands that are pending, the one under way first if it is one of them; and how many tickets
-- were given
pub record State : Type 0 where
  pub edition : Edition
  pub identity : Identity
  pub config : Config
  pub next : ℕ → Option ℕ
  pub numbers : List ℕ → ℕ → Option Numbers
  pub logs : Logs
  pub stopped : Bool
  pub under_way : Option Command
  pub waiting : List Waiting
  pub tickets : ℕ

-- the transmit channel of a configuration, with these next numbers
abbrev pub tx_side_with : Identity → Config → (ℕ → Option ℕ) → TxSide
tx_side_with identity config next = record {
  sci = identity.sci;
  mode = config.mode;
  encoding = config.encoding;
  tx = config.tx;
  next = next;
}

-- and its receive channels, with these numbers
abbrev pub rx_side_with : Config → (List ℕ → ℕ → Option Numbers) → RxSide
rx_side_with config numbers = record {
  validate = config.validate;
  replay = config.replay;
  channels = config.channels;
  rx = config.rx;
  numbers = numbers;
}

-- the transmit channel of an endpoint in this state
abbrev pub tx_side : State → TxSide
tx_side s = tx_side_with s.identity s.config s.next

-- the receive channels of an endpoint in this state
abbrev pub rx_side : State → RxSide
rx_side s = rx_side_with s.config s.numbers

-- the state with a command under way
abbrev pub state_with_under_way : State → Command → State
state_with_under_way s command = record s { under_way = Some command }

-- the state after a device call failed: the disk must be opened again
abbrev pub state_after_fault : State → State
state_after_fault s = record s { stopped = true }

-- a command would not be refused
abbrev pub Accepts : State → Command → Type 0
Accepts s command = IsOk (apply s.edition s.identity s.config command)

-- no submitted command is pending
abbrev pub NoneWait : State → Type 0
NoneWait s = s.waiting ≡ []

-- ---- calls

-- a command, a refill of the ceilings, a rest before a planned end, a submitted command, one device call of the pending
-- work, or a frame from the controlled or the common port
pub data Call : Type 0 where
  Commands : Command → Call
  Refills : Call
  Rests : Call
  Submits : Command → Call
  Advances : Call
  Protects : (plain : List ℕ) → Call
  Receives : (frame : List ℕ) → Call

-- The answer, with the resulting contents of `out`. The last two are answers of an edition without long keys: a
-- command, or the first pending one, was refused for the length of its key.
pub data Reply : Type 0 where
  Ran : Result (Unit {0}) CommandFault → Reply
  Refilled : Result (Unit {0}) RefillFault → Reply
  Rested : Result (Unit {0}) RestFault → Reply
  Submitted : Result ℕ SubmitFault → Reply
  Advanced : Result Progress StepFault → Reply
  Protected : Result ℕ ProtectFault → (out : List ℕ) → Reply
  Received : Result Verdict Stopped → (out : List ℕ) → Reply
  RefusedLong : Reply
  AdvancedLong : (ticket : ℕ) → Reply

-- the command that this call of an endpoint in this state made durable, if any: it takes effect now
abbrev pub command_made : State → Call → Reply → Option Command
command_made s (Commands command) (Ran (Ok done)) = Some command
command_made s Advances (Advanced (Ok (Done ticket (Ok done)))) = first_command s.waiting
command_made s call reply = None
