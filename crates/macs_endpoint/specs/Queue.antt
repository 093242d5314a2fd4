-- Pending commands, the tickets that identify them, and what is under way.
use Rattle.std.specs.Prelude.{◌≡◌, ◌<◌, ◌≤◌, ◌+◌, ◌-◌, ◌^◌, ◌++◌, ℕ, List, [], ◌∷◌, length, Option, Some, None, Result}
use Rattle.std.specs.Prelude.{Ok, Err}
use Rattle.std.specs.Option.{option_map}
use Rattle.macs_config.specs.declared.command.Command.{Command}
use Rattle.macs_endpoint.specs.declared.fault.SubmitFault.{SubmitFault}
use Rattle.macs_endpoint.specs.declared.fault.SubmitFault.TheVariants.{QueueFull, Stopped, TicketsSpent}
use Rattle.macs_endpoint.specs.declared.queue.Waiting.{Waiting}
use Rattle.macs_endpoint.specs.declared.refilling.Raise.{Raise}
use Rattle.macs_endpoint.specs.declared.under_way.UnderWay.{UnderWay}
use Rattle.macs_endpoint.specs.declared.under_way.UnderWay.TheVariants as variant

-- how many commands may be pending, including the one under way
abbrev pub queue_length : ℕ
queue_length = 16

-- how many tickets there are in one life
abbrev pub last_ticket : ℕ
last_ticket = 2 ^ 64 - 1

-- the pending commands, in order, how many tickets were given, the command under way, and the ceiling that is being
-- raised
pub record QueueValue : Type 0 where
  pub waiting : List Waiting
  pub given : ℕ
  pub under_way : Option Command
  pub reserving : Option Raise

-- the first pending command, with its ticket
abbrev pub first_waiting : List Waiting → Option Waiting
first_waiting [] = None
first_waiting (first ∷ rest) = Some first

-- that command, without its ticket
abbrev pub first_command : List Waiting → Option Command
first_command waiting = option_map (λ (first : Waiting). first.command) (first_waiting waiting)

-- the command under way, where these are pending
abbrev pub command_under_way : List Waiting → UnderWay → Option Command
command_under_way waiting variant.Nothing = None
command_under_way waiting (variant.Raise raise) = None
command_under_way waiting variant.First = first_command waiting
command_under_way waiting (variant.Cut command) = Some command

-- the ceiling that is being raised
abbrev pub raise_under_way : UnderWay → Option Raise
raise_under_way variant.Nothing = None
raise_under_way (variant.Raise raise) = Some raise
raise_under_way variant.First = None
raise_under_way (variant.Cut command) = None

-- the value of a queue made of these parts
abbrev pub queue_of : List Waiting → UnderWay → ℕ → QueueValue
queue_of waiting under_way given = record {
  waiting = waiting;
  given = given;
  under_way = command_under_way waiting under_way;
  reserving = raise_under_way under_way;
}

-- if the first pending command is under way, there is one
abbrev pub IsUnderWayIn : List Waiting → UnderWay → Type 0
IsUnderWayIn waiting variant.Nothing = Unit {0}
IsUnderWayIn waiting (variant.Raise raise) = Unit {0}
IsUnderWayIn waiting variant.First = 1 ≤ length waiting
IsUnderWayIn waiting (variant.Cut command) = Unit {0}

-- these commands, followed by one more with this ticket
abbrev pub with_waiting : List Waiting → ℕ → Command → List Waiting
with_waiting waiting ticket command = let last : Waiting = record { ticket = ticket; command = command } in
    waiting ++ last ∷ []

-- a command is queued and its ticket returned, unless the queue is full or no ticket is left
abbrev pub Queues : QueueValue → Command → Result ℕ SubmitFault → QueueValue → Type 0
Queues old command (Ok ticket) new =
    (length old.waiting < queue_length) × (old.given < last_ticket) × (ticket ≡ old.given + 1)
    × (new ≡ record old { waiting = with_waiting old.waiting ticket command; given = ticket })
Queues old command (Err QueueFull) new = (queue_length ≤ length old.waiting) × (new ≡ old)
Queues old command (Err TicketsSpent) new = (length old.waiting < queue_length) × (last_ticket ≤ old.given)
    × (new ≡ old)
Queues old command (Err Stopped) new = ⊥
