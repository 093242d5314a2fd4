-- What a restart may find.
use Rattle.std.specs.Prelude.{◌≡◌, ◌⊎◌, ◌≤◌, ◌+◌, ◌/◌, ◌^◌, ℕ, min, max, is_ok, not, false, ◌&&◌, if◌then◌else◌, List}
use Rattle.std.specs.Prelude.{[], ◌∷◌, Option, Some, None, Ok}
use Rattle.std.specs.Option.{option_map}
use Rattle.macs_config.specs.Apply.{apply}
use Rattle.macs_config.specs.Config.{Edition, IsUpTo}
use Rattle.macs_config.specs.declared.command.Command.{Command}
use Rattle.macs_disk.specs.States.{Image}
use Rattle.macs_rxsc.specs.Receive.{Numbers, first_numbers}
use Rattle.macs_store.specs.Found.{StandingIs}
use Rattle.macs_store.specs.Standing.{Standing}
use Rattle.macs_endpoint.specs.State.{Advances, Call, Commands, Logs, State, state_with_under_way}
use Rattle.macs_endpoint.specs.Step.{Makes}
use Rattle.macs_endpoint.specs.declared.queue.Waiting.{Waiting}

-- ---- numbers rise

-- A transmit number rises by at most a block and a half, and at most to 2^32, one more than the last packet number; if
-- there is none before, there is none afterwards
abbrev pub TxRises : ℕ → Option ℕ → Option ℕ → Type 0
TxRises block None found = found ≡ None
TxRises block (Some next) found =
    (later : ℕ) × (found ≡ Some later) × (next ≤ later) × (later ≤ next + (block + block / 2)) × (later ≤ 2 ^ 32)

-- how far receive numbers may rise: to a block beyond the greatest number seen
abbrev pub rx_limit : ℕ → ℕ → Option ℕ → ℕ
rx_limit block next None = next
rx_limit block next (Some seen) = max next (min (seen + block) (2 ^ 32))

-- next and lowest become one number, and no number has been seen
abbrev pub RxRises : ℕ → Option Numbers → Option Numbers → Type 0
RxRises block None found = found ≡ None
RxRises block (Some numbers) found =
    (later : ℕ) × (found ≡ Some (first_numbers later)) × (numbers.next ≤ later)
    × (later ≤ rx_limit block numbers.next numbers.seen)

-- ---- a restart

-- The same configuration and logs, with numbers that rose, nothing under way or pending and no ticket given, in a
-- program with no smaller edition. For a single opening the logs are trivially the same; they matter when restarts are
-- combined.
pub record Resumes (old new : State) : Type 0 where
  pub edition : IsUpTo old.edition new.edition
  pub identity : new.identity ≡ old.identity
  pub config : new.config ≡ old.config
  pub next : (an : ℕ) → TxRises old.identity.tx_block (old.next an) (new.next an)
  pub numbers : (sci : List ℕ) (an : ℕ) → RxRises old.identity.rx_block (old.numbers sci an) (new.numbers sci an)
  pub logs : new.logs ≡ old.logs
  pub running : new.stopped ≡ false
  pub idle : new.under_way ≡ None
  pub waiting : new.waiting ≡ []
  pub tickets : new.tickets ≡ 0

-- the state is resumed, or the state after the command under way
abbrev pub Restart : State → State → Type 0
Restart old new = Resumes old new
    ⊎ ((command : Command) × (mid : State) × (old.under_way ≡ Some command) × Makes old command mid × Resumes mid new)

-- ---- the meaning of an image

-- an endpoint that opened a disk with this standing
abbrev pub opened_state : Standing → Logs → State
opened_state found logs = record {
  edition = found.edition;
  identity = found.identity;
  config = found.config;
  next = found.ceilings.tx;
  numbers = λ sci an. option_map first_numbers (found.ceilings.rx sci an);
  logs = logs;
  stopped = false;
  under_way = None;
  waiting = [];
  tickets = 0;
}

-- opening a disk of this many sectors with this image in a program of an edition is a restart of the state
pub record Fits (edition : Edition) (sectors : ℕ) (image : Image) (s : State) : Type 0 where
  pub found : Standing
  pub is_found : StandingIs edition sectors image (Ok found)
  pub restart : Restart s (opened_state found s.logs)

-- the state with a command under way if work on it may begin: the endpoint is running, and accepts it
abbrev pub state_taking : State → Command → State
state_taking s command = if not s.stopped && is_ok (apply s.edition s.identity s.config command)
    then state_with_under_way s command else s

-- a command that does not wait is taken if none is pending
abbrev pub state_taking_alone : State → Command → List Waiting → State
state_taking_alone s command [] = state_taking s command
state_taking_alone s command (first ∷ rest) = s

-- the first pending command is taken if none is under way
abbrev pub state_taking_first : State → Option Command → List Waiting → State
state_taking_first s None (first ∷ rest) = state_taking s first.command
state_taking_first s under_way waiting = s

-- the state during a call: a command is under way if work on it may have begun
abbrev pub state_during : State → Call → State
state_during s (Commands command) = state_taking_alone s command s.waiting
state_during s Advances = state_taking_first s s.under_way s.waiting
state_during s call = s

-- what a power loss during a call or after it leaves
abbrev pub FitsCall : ℕ → State → Call → State → Image → Type 0
FitsCall sectors old call new image = Fits old.edition sectors image (state_during old call)
    ⊎ Fits new.edition sectors image new
