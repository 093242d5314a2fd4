-- Received octets, taken as lines.
use Rattle.std.specs.Prelude.{◌≡◌, ◌≢◌, ◌<◌, ◌++◌, ℕ, List, ◌∷◌, length, get_or, Option, Some, None}
use Rattle.macs_commands.specs.declared.requests.inbox.Inbox.{Inbox}

-- the octets that do not form a line yet
abbrev pub octets_in : Inbox → List ℕ
octets_in inbox = inbox.octets.items

-- no octet of the text is a line feed (10)
abbrev pub HasNoFeed : List ℕ → Type 0
HasNoFeed text = (i : ℕ) → i < length text → get_or text i 0 ≢ 10

-- The first whole line is taken off a text, with its line feed. If there is none, nothing changes.
abbrev pub TakesLine : List ℕ → Option (List ℕ) → List ℕ → Type 0
TakesLine old None new = (new ≡ old) × HasNoFeed old
TakesLine old (Some line) new = (old ≡ line ++ 10 ∷ new) × HasNoFeed line
