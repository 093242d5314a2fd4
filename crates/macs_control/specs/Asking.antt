-- A client of a relay: what it sends, the lines of the relay, and its answer.
use Rattle.std.specs.Prelude.{◌≡◌, ◌<◌, ◌^◌, ◌++◌, ◌||◌, ⊤, ℕ, Bool, true, false, List, [], ◌∷◌, flat_map, Option, Some}
use Rattle.std.specs.Prelude.{None}
use Rattle.macs_commands.specs.Inboxes.{HasNoFeed}
use Rattle.macs_commands.specs.Requests.{end_line}
use Rattle.macs_control.specs.Links.{Link}
use Rattle.macs_control.specs.Seats.{connection_of, held_by}
use Rattle.macs_control.specs.declared.asking.Asker.{Asker}
use Rattle.macs_control.specs.declared.seat.Seat.{Seat}

-- the relay that is asked
abbrev pub seat_of : {S : Type 0} → Asker S → Seat S
seat_of asker = asker.relay

-- what is known of a conversation with a relay: the octets that it sent and that were not read yet, and those sent to
-- it, both in order; and whether it was found that the relay has ended the connection
pub record Conversation : Type 0 where
  pub unread : List ℕ
  pub sent : List ℕ
  pub over : Bool

-- the conversation of a client that holds these octets, if it is known what its connection carries
abbrev pub conversation : List ℕ → Option Link → Option Conversation
conversation held None = None
conversation held (Some link) =
    Some (record { unread = held ++ link.coming; sent = link.given; over = link.over })

-- the conversation of a client
abbrev pub conversation_of : {S : Type 0} → (S → Option Link) → Asker S → Option Conversation
conversation_of link asker = conversation (held_by (seat_of asker)) (link (connection_of (seat_of asker)))

-- these octets are read, and nothing is sent; and it is found that the relay has ended, or not
abbrev pub ReadsAndFinds : Option Conversation → List ℕ → Bool → Option Conversation → Type 0
ReadsAndFinds None octets ended new = ⊤
ReadsAndFinds (Some old) octets ended new = (left : List ℕ) × (old.unread ≡ octets ++ left)
    × (new ≡ Some (record { unread = left; sent = old.sent; over = ended || old.over }))

-- these octets are read, and nothing else is done or found
abbrev pub Reads : Option Conversation → List ℕ → Option Conversation → Type 0
Reads old octets new = ReadsAndFinds old octets false new

-- nothing is read or sent; the relay may be found to have ended
abbrev pub ReadsNothing : Option Conversation → Option Conversation → Type 0
ReadsNothing old new = (ended : Bool) × ReadsAndFinds old [] ended new

-- some octets are read, and nothing is sent; the relay may be found to have ended
abbrev pub ReadsSome : Option Conversation → Option Conversation → Type 0
ReadsSome old new = (octets : List ℕ) × (ended : Bool) × ReadsAndFinds old octets ended new

-- some octets are read, nothing is sent, and the relay is found to have ended
abbrev pub Outlives : Option Conversation → Option Conversation → Type 0
Outlives old new = (octets : List ℕ) × ReadsAndFinds old octets true new

-- some octets are read, nothing is sent, and the relay is not found to have ended
abbrev pub OutlivesNot : Option Conversation → Option Conversation → Type 0
OutlivesNot old new = (octets : List ℕ) × Reads old octets new

-- these octets are sent, and nothing is read
abbrev pub Sends : Option Conversation → List ℕ → Option Conversation → Type 0
Sends None octets new = ⊤
Sends (Some old) octets new = new ≡ Some (record old { sent = old.sent ++ octets })

-- the first of these octets are sent, or none, and nothing is read
abbrev pub SendsSome : Option Conversation → List ℕ → Option Conversation → Type 0
SendsSome old octets new = (first rest : List ℕ) × (octets ≡ first ++ rest) × Sends old first new

-- a line is read
abbrev pub ReadsLine : Option Conversation → List ℕ → Option Conversation → Type 0
ReadsLine old line new = HasNoFeed line × Reads old (line ++ 10 ∷ []) new

-- a line ends an answer: with some status of 8 bits
abbrev pub EndsAnswer : List ℕ → Type 0
EndsAnswer line = (status : ℕ) × (status < 2 ^ 8) × (line ≡ end_line status)

-- lines of which none ends an answer
abbrev pub HasNoEnd : List (List ℕ) → Type 0
HasNoEnd [] = ⊤
HasNoEnd (line ∷ lines) = HasNoFeed line × (EndsAnswer line → ⊥) × HasNoEnd lines

-- a text consists of such lines, each with its line feed
abbrev pub IsOpen : List ℕ → Type 0
IsOpen text = (lines : List (List ℕ)) × HasNoEnd lines × (text ≡ flat_map (λ line. line ++ 10 ∷ []) lines)

-- an answer is read: a text without an end, and then the line with this status that ends it
abbrev pub ReadsAnswer : Option Conversation → List ℕ → ℕ → Option Conversation → Type 0
ReadsAnswer old text status new = IsOpen text × Reads old (text ++ (end_line status ++ 10 ∷ [])) new

-- no answer is read: a text without an end, after which the relay may be found to have ended
abbrev pub ReadsNoEnd : Option Conversation → Option Conversation → Type 0
ReadsNoEnd old new = (text : List ℕ) × (ended : Bool) × IsOpen text × ReadsAndFinds old text ended new
