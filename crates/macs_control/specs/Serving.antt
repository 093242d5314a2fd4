-- What is reported to clients over a whole relay: the result of each command that one of them gave, once, in the order
-- of tickets.
use Rattle.std.specs.Prelude.{◌≡◌, ◌++◌, ℕ, Bool, List, [], ◌∷◌, flat_map, map, Some, Ok}
use Rattle.macs_edge.specs.Commanding.{Ended, ended_by, tickets_taken}
use Rattle.macs_edge.specs.declared.attending.CommandEnd.{CommandEnd}
use Rattle.macs_edge.specs.declared.attending.DeskEvent.{DeskEvent}
use Rattle.macs_edge.specs.declared.attending.DeskEvent.TheVariants.{Answered, Rested, Took, Wanted}
use Rattle.macs_commands.specs.InTurn.{InTurn}
use Rattle.macs_commands.specs.Talks.{Talk, Heard, Said}
use Rattle.macs_commands.specs.declared.requests.clients.Client.{Client}
use Rattle.macs_control.specs.Listening.{LooksIf, Reports, said_of_ending, said_of_taking, unanswered_after}
use Rattle.macs_control.specs.Replies.{ended_text}
use Rattle.macs_control.specs.Unanswered.{entries_of, is_full, without}
use Rattle.macs_control.specs.declared.desk.control_desk.ControlDesk.{ControlDesk}
use Rattle.macs_control.specs.declared.desk.unanswered.Submitted.{Submitted as Entry}

-- ---- a desk, from event to event

-- the unanswered commands and their clients, and the client whose line was taken last
pub record DeskState : Type 0 where
  pub unanswered : List Entry
  pub asking : Client

-- what is sent to clients at an event, and the unanswered commands after it: as each call of a desk ensures
abbrev pub SpeaksAt : DeskState → DeskEvent → List Talk → DeskState → Type 0
SpeaksAt old (Wanted was_quiet order) talk new = (is_time : Bool) × (reports : Reports)
    × LooksIf is_time was_quiet (is_full old.unanswered) reports old.asking talk order new.asking
    × (new.unanswered ≡ old.unanswered)
SpeaksAt old (Took answer) talk new = (talk ≡ said_of_taking old.asking answer)
    × (new.unanswered ≡ unanswered_after old.unanswered old.asking answer) × (new.asking ≡ old.asking)
SpeaksAt old (Answered ticket end) talk new = (talk ≡ said_of_ending old.unanswered ticket end)
    × (new.unanswered ≡ without old.unanswered ticket) × (new.asking ≡ old.asking)
SpeaksAt old Rested talk new = (talk ≡ []) × (new ≡ old)

-- the same at each of several events, one after another
abbrev pub Speaks : DeskState → List DeskEvent → List (List Talk) → DeskState → Type 0
Speaks old [] [] new = new ≡ old
Speaks old (event ∷ events) (talk ∷ talks) new =
    (between : DeskState) × SpeaksAt old event talk between × Speaks between events talks new
Speaks old events talks new = ⊥

-- ---- what is reported to clients

-- a command that was taken: the client that gave it, its ticket, and its result
pub record Told : Type 0 where
  pub client : Client
  pub ticket : ℕ
  pub end : CommandEnd

-- the result of a command, regardless of who gave it
abbrev pub ended_in : Told → Ended
ended_in told = record { ticket = told.ticket; end = told.end }

-- the message about it: to its client, and to no other
abbrev pub saying : Told → Talk
saying told = Said told.client (ended_text told.end)

-- the client whose line was taken last, after these messages
abbrev pub asking_after : Client → List Talk → Client
asking_after client [] = client
asking_after client (Heard (Some heard) ∷ talk) = asking_after heard.client talk
asking_after client (other ∷ talk) = asking_after client talk

-- the client that gave a command which is taken: the one whose line was taken last
abbrev pub giver : Client → DeskEvent → List Client
giver client (Took (Ok ticket)) = client ∷ []
giver client event = []

-- the clients of all commands that are taken, in order
abbrev pub givers : Client → List DeskEvent → List (List Talk) → List Client
givers client (event ∷ events) (talk ∷ talks) = giver client event ++ givers (asking_after client talk) events talks
givers client events talks = []

-- the messages about a command that is taken: when it is taken, and when its result is known
abbrev pub said_at : DeskEvent → List Talk → List Talk
said_at (Took (Ok ticket)) talk = talk
said_at (Answered ticket end) talk = talk
said_at event talk = []

-- all such messages, in order
abbrev pub endings : List DeskEvent → List (List Talk) → List Talk
endings (event ∷ events) (talk ∷ talks) = said_at event talk ++ endings events talks
endings events talks = []

-- Each command that was taken is listed once, in the order of tickets, with the client that gave it and its result. The
-- result is sent to this client, in the same order, and nothing else is sent when commands are taken and answered
pub record ClientsAreTold (asking : Client) (events : List DeskEvent) (talks : List (List Talk)) : Type 0 where
  pub told : List Told
  pub once : map (λ (t : Told). t.ticket) told ≡ tickets_taken events
  pub ends : map ended_in told ≡ flat_map ended_by events
  pub clients : map (λ (t : Told). t.client) told ≡ givers asking events talks
  pub said : endings events talks ≡ map saying told

-- ---- the desk of the program

-- its unanswered commands, and the client whose line it took last
abbrev pub state_of_desk : {C M S : Type 0} → ControlDesk C M S → DeskState
state_of_desk desk = record { unanswered = entries_of desk.unanswered; asking = desk.asking }

-- what passes between it and its clients at an event: `Does` is what an exchange makes of the clients
abbrev pub SpeaksToClients : {C M S : Type 0} → (C → Talk → C → Type 0) → ControlDesk C M S → DeskEvent
    → ControlDesk C M S → Type 0
SpeaksToClients Does old event new = (talk : List Talk)
    × SpeaksAt (state_of_desk old) event talk (state_of_desk new) × InTurn Does old.clients talk new.clients

-- over a whole relay, in which these events came to it: what passes between it and its clients has the result of each
-- command that one of them gave, once, in the order of tickets; and no command is left
pub record ServesClients {C M S : Type 0} (Does : C → Talk → C → Type 0) (before : ControlDesk C M S)
    (events : List DeskEvent) (after : ControlDesk C M S) : Type 0 where
  pub talks : List (List Talk)
  pub passed : InTurn Does before.clients (flat_map (λ (talk : List Talk). talk) talks) after.clients
  pub told : ClientsAreTold before.asking events talks
  pub left : entries_of after.unanswered ≡ []
