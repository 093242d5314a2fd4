-- The headline on commands.
use Rattle.std.specs.Prelude.{◌≡◌, ◌⊎◌, ◌==◌, ◌++◌, if◌then◌else◌, ℕ, List, [], ◌∷◌, Contains, option_to_list, Option}
use Rattle.std.specs.Prelude.{Some, None, Ok, Err, false}
use Rattle.macs_config.specs.Apply.{apply, Reason, refusal_of}
use Rattle.macs_config.specs.Config.{Config, Edition}
use Rattle.macs_config.specs.Identity.{Identity}
use Rattle.macs_config.specs.declared.command.Command.{Command}
use Rattle.macs_disk.specs.States.{Image}
use Rattle.macs_store.specs.Found.{StandingIs}
use Rattle.macs_store.specs.Standing.{Standing}
use Rattle.macs_endpoint.specs.Queue.{first_command, with_waiting}
use Rattle.macs_endpoint.specs.Restart.{Fits}
use Rattle.macs_endpoint.specs.State.{Advanced, AdvancedLong, Advances, Call, Commands, Ran, Reply, State, Submits}
use Rattle.macs_endpoint.specs.State.{Submitted}
use Rattle.macs_endpoint.specs.Step.{Exchange}
use Rattle.macs_endpoint.specs.declared.fault.CommandFault.TheVariants as ran
use Rattle.macs_endpoint.specs.declared.progress.Step.TheVariants.{Done}
use Rattle.macs_endpoint.specs.declared.queue.Waiting.{Waiting}
use Rattle.macs_headline.specs.History.{state_at_end}
use Rattle.macs_headline.specs.Moments.{Moment}

-- ---- the commands of a life

-- the first pending command, if it has this ticket
abbrev pub first_under : ℕ → List Waiting → List Command
first_under ticket [] = []
first_under ticket (first ∷ rest) = if first.ticket == ticket then first.command ∷ [] else []

-- the pending commands without it
abbrev pub without_first : ℕ → List Waiting → List Waiting
without_first ticket [] = []
without_first ticket (first ∷ rest) = if first.ticket == ticket then rest else first ∷ rest

-- The command that this answer acknowledges, if any: that of the call, or the first of these pending commands, by its
-- ticket.
abbrev pub acknowledged_by : List Waiting → Call → Reply → List Command
acknowledged_by waiting (Commands command) (Ran (Ok done)) = command ∷ []
acknowledged_by waiting Advances (Advanced (Ok (Done ticket (Ok done)))) = first_under ticket waiting
acknowledged_by waiting call reply = []

-- the pending commands after a call, given those before it: one more with the ticket that is returned, or one fewer, by
-- its ticket
abbrev pub waiting_after : List Waiting → Call → Reply → List Waiting
waiting_after waiting (Submits command) (Submitted (Ok ticket)) = with_waiting waiting ticket command
waiting_after waiting Advances (Advanced (Ok (Done ticket result))) = without_first ticket waiting
waiting_after waiting Advances (AdvancedLong ticket) = without_first ticket waiting
waiting_after waiting call reply = waiting

-- those that were acknowledged, starting with these pending, in order
abbrev pub acknowledged_from : List Waiting → List Exchange → List Command
acknowledged_from waiting [] = []
acknowledged_from waiting (e ∷ exchanges) =
    acknowledged_by waiting e.call e.reply ++ acknowledged_from (waiting_after waiting e.call e.reply) exchanges

-- those of a whole life, in which none is pending at first
abbrev pub acknowledged_commands : List Exchange → List Command
acknowledged_commands exchanges = acknowledged_from [] exchanges

-- those whose work on the disk began: the acknowledged ones, and then the one under way at the end of the life, if any
abbrev pub accepted_commands : List Exchange → (under_way : Option Command) → List Command
accepted_commands exchanges under_way = acknowledged_commands exchanges ++ option_to_list under_way

-- ---- the command under way

-- the pending commands after these calls, starting with these
abbrev pub waiting_from : List Waiting → List Exchange → List Waiting
waiting_from waiting [] = waiting
waiting_from waiting (e ∷ exchanges) = waiting_from (waiting_after waiting e.call e.reply) exchanges

-- the pending commands after the calls of a life, in which none is pending at first
abbrev pub waiting_at_end : List Exchange → List Waiting
waiting_at_end exchanges = waiting_from [] exchanges

-- `command` was given this command, and returned that a device call failed
abbrev pub failing : Command → Exchange
failing command = record { call = Commands command; reply = Ran (Err ran.Disk) }

-- A call of this life was given the command, and work on it may have begun: it is the first of those pending at the
-- end; or none is pending there, and it was given to `command`, which returned Disk or is the interrupted call.
abbrev pub WasHandedIn : List Exchange → (cut : Option Call) → Command → Type 0
WasHandedIn exchanges cut command =
    (first_command (waiting_at_end exchanges) ≡ Some command)
    ⊎ ((waiting_at_end exchanges ≡ []) × (Contains exchanges (failing command) ⊎ (cut ≡ Some (Commands command))))

-- At any moment at which a life ends, inside a call or not: what is under way was given to a call of that life.
abbrev pub UnderWayWasGiven : ℕ → Type 0
UnderWayWasGiven sectors = (last : State) (m : Moment sectors last) (cut : Option Call) (command : Command)
    → (state_at_end last cut).under_way ≡ Some command → WasHandedIn m.exchanges cut command

-- ---- the effect of commands

-- each of these is accepted in turn, and they lead from old to new
abbrev pub CommandsMake : Edition → Identity → (old : Config) → List Command → (new : Config) → Type 0
CommandsMake edition identity old [] new = new ≡ old
CommandsMake edition identity old (command ∷ commands) new =
    (mid : Config) × (apply edition identity old command ≡ Ok mid) × CommandsMake edition identity mid commands new

-- ---- what an opening finds of them

-- xs is the beginning of ys, or all of it
abbrev pub IsPrefix : {X : Type 0} → (xs ys : List X) → Type 0
IsPrefix {X} xs ys = (rest : List X) × (xs ++ rest ≡ ys)

-- What is found after a life that itself found `before` and ended with this command under way, or none: the
-- configuration after some of its commands, a prefix of those that were accepted which contains every acknowledged one.
pub record FindsPrefix (before : Standing) (exchanges : List Exchange) (under_way : Option Command)
    (after : Standing) : Type 0 where
  pub identity : after.identity ≡ before.identity
  pub kept : List Command
  pub acknowledged : IsPrefix (acknowledged_commands exchanges) kept
  pub accepted : IsPrefix kept (accepted_commands exchanges under_way)
  pub made : CommandsMake before.edition before.identity before.config kept after.config

-- If nothing was under way at its end, one configuration is found after a life, with one identity: each acknowledged
-- command took effect, and no other did. If a command was under way, it is that configuration, or the one after the
-- command.
pub record FindsOne : Type 0 where
  pub none_under_way : (before a b : Standing) (exchanges : List Exchange) → FindsPrefix before exchanges None a
      → FindsPrefix before exchanges None b
      → (a.config ≡ b.config) × (a.identity ≡ b.identity)
  pub one_under_way : (before without after : Standing) (exchanges : List Exchange) (command : Command)
      → FindsPrefix before exchanges None without
      → FindsPrefix before exchanges (Some command) after
      → ((after.config ≡ without.config)
      ⊎ (apply before.edition before.identity without.config command ≡ Ok after.config))
      × (after.identity ≡ without.identity)

-- At any moment at which a life ends, inside a call or not, and for any edition that opens the disk next: in every
-- image that it may find it finds such a prefix.
abbrev pub CommandsKept : ℕ → Type 0
CommandsKept sectors =
    (last : State) (m : Moment sectors last) (cut : Option Call) (later : Edition) (image : Image) (after : Standing)
    → Fits later sectors image (state_at_end last cut) → StandingIs later sectors image (Ok after)
    → FindsPrefix m.life.found m.exchanges (state_at_end last cut).under_way after

-- ---- the command under way: when work on it may have begun, and that it is accepted

-- the first reason to refuse a command in this state, if there is one
abbrev pub refusal_at : State → Command → Option Reason
refusal_at s command = refusal_of s.edition s.identity s.config command

-- Work on the command may begin in this call, with these pending: in a step, on the first of them; and in `command`, on
-- the one that it is given, if none is pending. In no other call.
abbrev pub MayBegin : Option Call → List Waiting → Command → Type 0
MayBegin (Some Advances) waiting command = first_command waiting ≡ Some command
MayBegin (Some (Commands given)) [] command = given ≡ command
MayBegin cut waiting command = ⊥

-- A command was under way after the last answer, or work on it may have begun in the interrupted call, of an endpoint
-- that is not stopped; and there is no reason to refuse it.
pub record WasBegun (exchanges : List Exchange) (last : State) (cut : Option Call) (command : Command) : Type 0 where
  pub begun : (last.under_way ≡ Some command)
      ⊎ ((last.stopped ≡ false) × MayBegin cut (waiting_at_end exchanges) command)
  pub accepted : refusal_at last command ≡ None
