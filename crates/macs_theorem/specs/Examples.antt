-- What the example programs remember, and the deeds of histories, as events.
use Rattle.std.specs.Prelude.{◌≡◌, ◌++◌, ℕ, Bool, List, [], ◌∷◌, Contains, Option, Some, None, is_some, Result, Ok, Err}
use Rattle.macs_disk.specs.Disk.{Disk}
use Rattle.macs_endpoint.specs.State.{Protected, Protects}
use Rattle.macs_endpoint.specs.declared.fault.ProtectFault.{ProtectFault}
use Rattle.macs_headline.specs.Deeds.{Chain, Link}
use Rattle.macs_theorem.specs.Events.{Answers, Calls, Event, Happen, HoldsDisk, Shows}
use Rattle.macs_theorem.specs.Shown.{Shown, shown_by}

-- ---- packet numbers around a power loss

-- the number of a frame, if one was written
abbrev pub numbers_of : Result ℕ ProtectFault → List ℕ
numbers_of (Ok pn) = pn ∷ []
numbers_of (Err fault) = []

-- the numbers of a frame, at most one
abbrev pub number_list : Option ℕ → List ℕ
number_list (Some pn) = pn ∷ []
number_list None = []

-- that of a frame whose answer was heard
abbrev pub number_in : Event Shown → List ℕ
number_in (Answers (Calls (Protects plain) (Protected result out))) = numbers_of result
number_in event = []

-- of all frames whose answers were heard
abbrev pub numbers_in : List (Event Shown) → List ℕ
numbers_in [] = []
numbers_in (event ∷ events) = number_in event ++ numbers_in events

-- these are the first and the second of them, if there are two
abbrev pub AreFirst : (first second : Option ℕ) → List ℕ → Type 0
AreFirst None None [] = Unit {0}
AreFirst (Some first) None (pn ∷ []) = first ≡ pn
AreFirst (Some first) (Some second) (pn ∷ next ∷ more) = (first ≡ pn) × (second ≡ next)
AreFirst first second numbers = ⊥

-- ---- a command that is interrupted

-- an endpoint showed, among these events, a transmit association at this AN, or none
abbrev pub WasShown : List (Event Shown) → (an : ℕ) → (there : Bool) → Type 0
WasShown events an there =
    (shown : Shown) × Contains events (Answers (Shows shown)) × (there ≡ is_some (shown.settings.tx an))

-- ---- deeds

-- each chain of deeds is a list of events
abbrev pub DeedsHappen : {D : Type 0} → (D → Disk) → Type 0
DeedsHappen {D} disk_of = (old new : D) (links : List (Link D)) → Chain disk_of old links new
    → (events : List (Event Shown)) × Happen disk_of shown_by (HoldsDisk old) events (HoldsDisk new)
