-- What a program hears when it requests calls of a disk, and of the endpoint on it.
use Rattle.std.specs.Prelude.{◌≡◌, ◌⊎◌, ◌++◌, List, [], ◌∷◌, Option, Some, None}
use Rattle.macs_disk.specs.Disk.{Disk}
use Rattle.macs_endpoint.specs.State.{Advanced, Advances, Commands, Protected, Protects, Ran, Received, Receives}
use Rattle.macs_endpoint.specs.State.{Refilled, Refills, Rested, Rests, Submits, Submitted}
use Rattle.macs_theorem.specs.Events.{Answer, Answers, Calls, Closes, Ends, EndsIn, Event, Formats, Happen, Happens}
use Rattle.macs_theorem.specs.Events.{Holds, HoldsDisk, HoldsEndpoint, IsAnswered, Opens, Shows}
use Rattle.macs_theorem.specs.Observer.{ExpectsAll, new_observer}
use Rattle.macs_theorem.specs.declared.asking.Ask.{Ask}
use Rattle.macs_theorem.specs.declared.asking.Ask.TheVariants as ask
use Rattle.macs_theorem.specs.declared.asking.Heard.{Heard}
use Rattle.macs_theorem.specs.declared.asking.Heard.TheVariants as heard
use Rattle.macs_theorem.specs.declared.asking.Power.TheVariants as power
use Rattle.macs_theorem.specs.declared.asking.Request.{Request}
use Rattle.macs_theorem.specs.declared.asking.Request.TheVariants as request
use Rattle.macs_theorem.specs.declared.held.Held.{Held}
use Rattle.macs_theorem.specs.declared.held.Held.TheVariants as held
use Rattle.macs_theorem.specs.Shown.{Shown, shown_by}

-- what a program holds
abbrev pub holds : {D : Type 0} → Held D → Holds D
holds (held.Disk disk) = HoldsDisk disk
holds (held.Endpoint endpoint) = HoldsEndpoint endpoint

-- the answer that it hears, as an observed answer
abbrev pub answer_of : Heard → Answer Shown
answer_of (heard.Formatted identity result) = Formats identity result
answer_of (heard.Opened result) = Opens result
answer_of (heard.Ran command result) = Calls (Commands command) (Ran result)
answer_of (heard.Refilled result) = Calls Refills (Refilled result)
answer_of (heard.Rested result) = Calls Rests (Rested result)
answer_of (heard.Submitted command result) = Calls (Submits command) (Submitted result)
answer_of (heard.Stepped result) = Calls Advances (Advanced result)
answer_of (heard.Protected plain result out) = Calls (Protects plain.items) (Protected result out.items)
answer_of (heard.Received frame result out) = Calls (Receives frame.items) (Received result out.items)
answer_of heard.Closed = Closes

-- this answer may be heard for this request
abbrev pub IsAnswerTo : Request → Heard → Type 0
IsAnswerTo (request.Format identity) (heard.Formatted given result) = given ≡ identity
IsAnswerTo request.Open (heard.Opened result) = Unit {0}
IsAnswerTo (request.Command command) (heard.Ran given result) = given ≡ command
IsAnswerTo request.Refill (heard.Refilled result) = Unit {0}
IsAnswerTo request.Rest (heard.Rested result) = Unit {0}
IsAnswerTo (request.Submit command) (heard.Submitted given result) = given ≡ command
IsAnswerTo request.Step (heard.Stepped result) = Unit {0}
IsAnswerTo (request.Protect plain) (heard.Protected given result out) = given ≡ plain
IsAnswerTo (request.Receive frame) (heard.Received given result out) = given ≡ frame
IsAnswerTo request.Close heard.Closed = Unit {0}
IsAnswerTo asked answer = ⊥

-- what the program holds does not have this call
abbrev pub HasNot : {D : Type 0} → Holds D → Request → Type 0
HasNot (HoldsDisk disk) (request.Format identity) = ⊥
HasNot (HoldsDisk disk) request.Open = ⊥
HasNot (HoldsDisk disk) asked = Unit {0}
HasNot (HoldsEndpoint endpoint) (request.Format identity) = Unit {0}
HasNot (HoldsEndpoint endpoint) request.Open = Unit {0}
HasNot (HoldsEndpoint endpoint) asked = ⊥

-- The requested call was made, with this answer; or what is held does not have it, and nothing was done.
abbrev pub IsMade : {D : Type 0} → (D → Disk) → Holds D → Request → Option Heard → Holds D → Type 0
IsMade disk_of old asked (Some answer) new =
    IsAnswerTo asked answer × IsAnswered disk_of shown_by old (answer_of answer) new
IsMade disk_of old asked None new = HasNot old asked × (new ≡ old)

-- an event is what was requested
abbrev pub IsAskedFor : Ask → Event Shown → Type 0
IsAskedFor (ask.Call asked) (Answers answer) = (it : Heard) × IsAnswerTo asked it × (answer ≡ answer_of it)
IsAskedFor ask.Show (Answers (Shows shown)) = Unit {0}
IsAskedFor (ask.Power (power.LostIn asked)) (EndsIn answer) =
    (it : Heard) × IsAnswerTo asked it × (answer ≡ answer_of it)
IsAskedFor (ask.Power power.Lost) Ends = Unit {0}
IsAskedFor (ask.Power (power.LastsFor calls)) Ends = Unit {0}
IsAskedFor asked event = ⊥

-- what is held does not have it
abbrev pub IsPassedOver : {D : Type 0} → Holds D → Ask → Type 0
IsPassedOver old (ask.Call asked) = HasNot old asked
IsPassedOver old (ask.Power (power.LostIn asked)) = HasNot old asked
IsPassedOver old (ask.Power power.Lost) = ⊥
IsPassedOver (HoldsDisk disk) ask.Show = Unit {0}
IsPassedOver (HoldsDisk disk) (ask.Power (power.LastsFor calls)) = ⊥
IsPassedOver (HoldsEndpoint endpoint) ask.Show = ⊥
IsPassedOver (HoldsEndpoint endpoint) (ask.Power (power.LastsFor calls)) = Unit {0}

-- What was requested happened, and the program remembers it along with the events before; or what is held does not have
-- it, and nothing was done.
abbrev pub Hears : {D : Type 0} → (D → Disk) → Holds D → Ask → (before after : List (Event Shown) → Type 0) → Holds D
    → Type 0
Hears disk_of old asked before after new =
    ((event : Event Shown) × IsAskedFor asked event
    × ((events : List (Event Shown)) → before events → after (events ++ event ∷ []))
    × Happens disk_of shown_by old event new)
    ⊎ (IsPassedOver old asked × ((events : List (Event Shown)) → before events → after events) × (new ≡ old))

-- One event happened, and the program remembers it along with the events before; or nothing was done.
abbrev pub HearsOrPassesOver : {D : Type 0} → (D → Disk) → Holds D → (before after : List (Event Shown) → Type 0)
    → Holds D → Type 0
HearsOrPassesOver disk_of old before after new =
    ((event : Event Shown) × ((events : List (Event Shown)) → before events → after (events ++ event ∷ []))
    × Happens disk_of shown_by old event new)
    ⊎ (((events : List (Event Shown)) → before events → after events) × (new ≡ old))

-- The events that the program remembers happened, starting with a new disk, and an observer expects them.
abbrev pub HearsExpected : {D : Type 0} → (D → Disk) → D → (List (Event Shown) → Type 0) → Holds D → Type 0
HearsExpected disk_of disk keeps new =
    (events : List (Event Shown)) × keeps events × Happen disk_of shown_by (HoldsDisk disk) events new
    × ExpectsAll new_observer events
