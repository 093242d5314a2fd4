-- Octets received and sent over a connection, and lines made of them.
use Rattle.std.specs.Prelude.{◌≡◌, ◌≢◌, ◌<◌, ◌≤◌, ◌++◌, ⊤, ℕ, Bool, true, false, List, [], ◌∷◌, take, Option, Some}
use Rattle.std.specs.Prelude.{None}
use Rattle.macs_control.specs.declared.connection.Taken.{Taken}
use Rattle.macs_control.specs.declared.connection.Taken.TheVariants.{Octets, Nothing, Ended, Gone}
use Rattle.macs_control.specs.declared.seat.Hearing.{Hearing}
use Rattle.macs_control.specs.declared.seat.Hearing.TheVariants as hears
use Rattle.macs_commands.specs.Inboxes.{HasNoFeed}

-- what is known about a connection: the octets that the other side sent and that were not taken yet, and those sent to
-- it, both in order; and whether a read found that the other side has ended, with everything that it sent taken
pub record Link : Type 0 where
  pub coming : List ℕ
  pub given : List ℕ
  pub over : Bool

-- what is known about a connection: what it carries, and whether it is known to be steady
pub record Line : Type 0 where
  pub link : Option Link
  pub steady : Bool

-- the same about a connection of any kind
abbrev pub line_of : {C : Type 0} → (C → Option Link) → (C → Bool) → C → Line
line_of link steady connection = record { link = link connection; steady = steady connection }

-- no more octets are returned than fit
abbrev pub IsAtMost : Taken → ℕ → Type 0
IsAtMost (Octets count) room = count ≤ room
IsAtMost other room = ⊤

-- a look that finds octets or the end
abbrev pub FindsMore : Taken → Type 0
FindsMore (Octets count) = 0 < count
FindsMore Ended = ⊤
FindsMore other = ⊥

-- how many octets a look finds
abbrev pub count_of : Taken → ℕ
count_of (Octets count) = count
count_of other = 0

-- The first octets that arrived are taken; or none, and nothing is lost. After the end no more arrive
abbrev pub TakesOctets : Option Link → Option Link → List ℕ → Taken → Type 0
TakesOctets None new into answer = ⊤
TakesOctets (Some old) new into (Octets count) =
    (rest : List ℕ) × (old.coming ≡ take count into ++ rest) × (new ≡ Some (record old { coming = rest }))
TakesOctets (Some old) new into Nothing = new ≡ Some old
TakesOctets (Some old) new into Ended = (old.coming ≡ []) × (new ≡ Some (record old { over = true }))
TakesOctets (Some old) new into Gone = new ≡ Some old

-- octets are sent whole; else not all of them
abbrev pub GivesOctets : Option Link → Option Link → List ℕ → Bool → Type 0
GivesOctets None new octets whole = ⊤
GivesOctets (Some old) new octets true = new ≡ Some (record old { given = old.given ++ octets })
GivesOctets (Some old) new octets false =
    (some rest : List ℕ) × (octets ≡ some ++ rest) × (rest ≢ [])
    × (new ≡ Some (record old { given = old.given ++ some }))

-- Octets that arrived are appended to those that are held; or none, and nothing changes. After the end no more arrive
abbrev pub Fills : List ℕ → Option Link → Taken → List ℕ → Option Link → Type 0
Fills held None taken kept new = ⊤
Fills held (Some old) (Octets count) kept new =
    (came rest : List ℕ) × (old.coming ≡ came ++ rest) × (kept ≡ held ++ came)
    × (new ≡ Some (record old { coming = rest }))
Fills held (Some old) Ended kept new =
    (old.coming ≡ []) × (kept ≡ held) × (new ≡ Some (record old { over = true }))
Fills held (Some old) other kept new = (kept ≡ held) × (new ≡ Some old)

-- What is heard of a client with these unheard octets: its first line, after which the rest is left; or no line is
-- whole, and nothing is lost; or it sends no more, and no whole line is left; or it is gone
abbrev pub HearsOf : List ℕ → Hearing → List ℕ → Type 0
HearsOf text (hears.Line line) left = (text ≡ line.items ++ 10 ∷ left) × HasNoFeed line.items
HearsOf text hears.Silence left = left ≡ text
HearsOf text hears.Ended left = (left ≡ text) × HasNoFeed text
HearsOf text hears.Gone left = left ≡ text

-- where no line is heard of a client that is there, no whole one is held
abbrev pub HoldsNoLine : Hearing → List ℕ → Type 0
HoldsNoLine hears.Silence held = HasNoFeed held
HoldsNoLine hears.Ended held = HasNoFeed held
HoldsNoLine other held = ⊤

-- where no octets are taken, what is held stays
abbrev pub HoldsSame : Taken → List ℕ → List ℕ → Type 0
HoldsSame (Octets count) held kept = ⊤
HoldsSame other held kept = kept ≡ held

-- a line that is heard is one line
abbrev pub IsOneLine : Hearing → Type 0
IsOneLine (hears.Line line) = HasNoFeed line.items
IsOneLine other = ⊤

-- whether a connection is over after this was heard
abbrev pub over_after : Hearing → Bool → Bool
over_after hears.Ended over = true
over_after other over = over

-- the same for the octets held and a connection whose octets are known; and nothing is sent
abbrev pub Hears : List ℕ → Option Link → Hearing → List ℕ → Option Link → Type 0
Hears held None heard kept new = ⊤
Hears held (Some old) heard kept new =
    (left : Link) × (new ≡ Some left) × (left.given ≡ old.given) × (left.over ≡ over_after heard old.over)
    × HearsOf (held ++ old.coming) heard (kept ++ left.coming)
