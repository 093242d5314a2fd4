-- The unanswered commands, earliest first, each with its ticket and the client that gave it.
use Rattle.std.specs.Prelude.{ℕ, ◌==◌, ◌++◌, if◌then◌else◌, Bool, List, [], ◌∷◌, length, Option, Some, None}
use Rattle.macs_commands.specs.declared.requests.clients.Client.{Client}
use Rattle.macs_control.specs.declared.desk.unanswered.Unanswered.{Unanswered}
use Rattle.macs_control.specs.declared.desk.unanswered.Submitted.{Submitted as Entry}

-- the commands of a queue
abbrev pub entries_of : Unanswered → List Entry
entries_of queue = queue.entries.items

-- as many commands are unanswered as an endpoint has pending at most
abbrev pub is_full : List Entry → Bool
is_full entries = length entries == 16

-- one more is added at the end, if there is room
abbrev pub joined : List Entry → Entry → List Entry
joined entries entry = if is_full entries then entries else entries ++ entry ∷ []

-- the client of the earliest command, if that has this ticket
abbrev pub client_of : List Entry → ℕ → Option Client
client_of [] ticket = None
client_of (first ∷ rest) ticket = if first.ticket == ticket then Some first.client else None

-- the commands without the earliest, if that has this ticket
abbrev pub without : List Entry → ℕ → List Entry
without [] ticket = []
without (first ∷ rest) ticket = if first.ticket == ticket then rest else first ∷ rest
