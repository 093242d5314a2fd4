-- Which client is heard, which one is sent a text, and who keeps a place after it.
use Rattle.std.specs.List.{list_any}
use Rattle.std.specs.Prelude.{◌≡◌, ◌++◌, ◌∷◌, ◌&&◌, ◌⊎◌, ⊤, if◌then◌else◌, ℕ, Bool, false, not, List, []}
use Rattle.std.specs.Prelude.{Option, Some, None}
use Rattle.macs_commands.specs.declared.requests.clients.Client.{Client}
use Rattle.macs_commands.specs.declared.requests.clients.Heard.{Heard}
use Rattle.macs_control.specs.Links.{Link, GivesOctets, Hears, IsOneLine}
use Rattle.macs_control.specs.Places.{is_of, seat_in, standing_in}
use Rattle.macs_control.specs.Seats.{client_of, connection_of, held_by}
use Rattle.macs_control.specs.Standings.{after_hearing, after_saying, is_let_go, is_over}
use Rattle.macs_control.specs.declared.place.Place.{Place}
use Rattle.macs_control.specs.declared.seat.Hearing.{Hearing}
use Rattle.macs_control.specs.declared.seat.Hearing.TheVariants as hears

-- ---- hearing

-- a client is looked at: what is heard of it, and its place after that
pub record LooksAt {S : Type 0} (link : S → Option Link) (now : ℕ) (old : Place S) (heard : Hearing) (new : Place S)
    : Type 0 where
  pub client : client_of (seat_in new) ≡ client_of (seat_in old)
  pub octets : Hears (held_by (seat_in old)) (link (connection_of (seat_in old))) heard
      (held_by (seat_in new)) (link (connection_of (seat_in new)))
  pub one_line : IsOneLine heard
  pub standing : standing_in new ≡ after_hearing now heard (standing_in old)

-- no line is heard
abbrev pub IsNoLine : Hearing → Type 0
IsNoLine (hears.Line line) = ⊥
IsNoLine other = ⊤

-- a client that sent no line keeps its place, unless it is let go
abbrev pub staying : {S : Type 0} → Hearing → Place S → List (Place S)
staying heard place = if is_let_go heard (standing_in place) then [] else place ∷ []

-- a client between these sends no line
abbrev pub HearsNoLine : {S : Type 0} → (S → Option Link) → ℕ → List (Place S) → Place S → List (Place S)
    → List (Place S) → Type 0
HearsNoLine link now front place rest new = (heard : Hearing) × (looked : Place _) × LooksAt link now place heard looked
    × IsNoLine heard × (new ≡ front ++ staying heard looked ++ rest)

-- a client between these sends a line, and gets the last place
abbrev pub HearsLine : {S : Type 0} → (S → Option Link) → ℕ → List (Place S) → Place S → List (Place S) → Heard
    → List (Place S) → Type 0
HearsLine link now front place rest heard new = (looked : Place _)
    × LooksAt link now place (hears.Line heard.line) looked
    × (heard.client ≡ client_of (seat_in place)) × (new ≡ front ++ rest ++ looked ∷ [])

-- a client between these is looked at
abbrev pub HearsOne : {S : Type 0} → (S → Option Link) → ℕ → List (Place S) → Place S → List (Place S) → Option Heard
    → List (Place S) → Type 0
HearsOne link now front place rest None new = HearsNoLine link now front place rest new
HearsOne link now front place rest (Some heard) new = HearsLine link now front place rest heard new

-- each client is looked at, in order, and none sends a line
abbrev pub HearsNone : {S : Type 0} → (S → Option Link) → ℕ → List (Place S) → List (Place S) → Type 0
HearsNone link now [] new = new ≡ []
HearsNone link now (place ∷ places) new = (left : List (Place _)) × HearsNoLine link now [] place left new
    × HearsNone link now places left

-- clients are looked at, in order, up to the first that sends a line
pub record HearsUpTo {S : Type 0} (link : S → Option Link) (now : ℕ) (old : List (Place S)) (heard : Heard)
    (new : List (Place S)) : Type 0 where
  pub front : List (Place S)
  pub place : Place S
  pub rest : List (Place S)
  pub left : List (Place S)
  pub places : old ≡ front ++ place ∷ rest
  pub before : HearsNone link now front left
  pub hears : HearsLine link now left place rest heard new

-- the first line of a client, or none
abbrev pub HearsFirst : {S : Type 0} → (S → Option Link) → ℕ → List (Place S) → Option Heard → List (Place S) → Type 0
HearsFirst link now old None new = HearsNone link now old new
HearsFirst link now old (Some heard) new = HearsUpTo link now old heard new

-- ---- sending

-- A text is sent to a client. It keeps its place if it takes all of it at once, unless it sends no more and no other
-- answer is due
pub record SaysTo {S : Type 0} (link : S → Option Link) (now : ℕ) (text : List ℕ) (old new : Place S) (keeps : Bool)
    : Type 0 where
  pub client : client_of (seat_in new) ≡ client_of (seat_in old)
  pub held : held_by (seat_in new) ≡ held_by (seat_in old)
  pub standing : standing_in new ≡ after_saying now text (standing_in old)
  pub whole : Bool
  pub given : GivesOctets (link (connection_of (seat_in old))) (link (connection_of (seat_in new))) text whole
  pub is_kept : keeps ≡ (whole && not (is_over (standing_in new)))

-- a text is sent to this client, and to no other
pub record SaysToOne {S : Type 0} (link : S → Option Link) (now : ℕ) (client : Client) (text : List ℕ)
    (old new : List (Place S)) : Type 0 where
  pub front : List (Place S)
  pub place : Place S
  pub rest : List (Place S)
  pub places : old ≡ front ++ place ∷ rest
  pub before : list_any (is_of client) front ≡ false
  pub is_its : client_of (seat_in place) ≡ client
  pub said : Place S
  pub keeps : Bool
  pub says : SaysTo link now text place said keeps
  pub left : new ≡ front ++ (if keeps then said ∷ [] else []) ++ rest

-- a text for this client: nothing is sent if the client has no place
abbrev pub Says : {S : Type 0} → (S → Option Link) → ℕ → Client → List ℕ → List (Place S) → List (Place S) → Type 0
Says link now client text old new = ((list_any (is_of client) old ≡ false) × (new ≡ old))
    ⊎ SaysToOne link now client text old new
