-- What is promised of an endpoint on an honest disk, for all programs, and no matter where they end.
use Rattle.std.specs.Prelude.{◌≡◌, ◌≢◌, ◌<◌, ◌≤◌, ◌^◌, ℕ, Bool, true, false, List, [], ◌∷◌, AllPairs, Contains, filter}
use Rattle.std.specs.Prelude.{flat_map, length, Ok, Err}
use Rattle.macs_aes.specs.Keys.{octets_of_key}
use Rattle.macs_frame.specs.Protection.{protected_frame}
use Rattle.macs_frame.specs.declared.tag.SecTag.{SecTag}
use Rattle.macs_config.specs.declared.command.Command.TheVariants.{TxInstall}
use Rattle.macs_disk.specs.Disk.{Disk}
use Rattle.macs_endpoint.specs.State.{Call, Commands, Protected, Protects, Reply, Submits, Use}
use Rattle.macs_endpoint.specs.Step.{Exchange}
use Rattle.macs_headline.specs.Binding.{IsNewDisk}
use Rattle.macs_theorem.specs.Events.{Answers, Calls, EndsIn, Event, Happen, Holds, HoldsDisk}
use Rattle.macs_theorem.specs.Observer.{ExpectsAll, new_observer}
use Rattle.macs_theorem.specs.Shown.{Shown, shown_by}

-- ---- no packet number is used twice

-- all calls of an endpoint, with their answers, even if a program ended before it saw the answer
abbrev pub calls_in : {V : Type 0} → List (Event V) → List Exchange
calls_in [] = []
calls_in (Answers (Calls call reply) ∷ events) = record { call = call; reply = reply } ∷ calls_in events
calls_in (EndsIn (Calls call reply) ∷ events) = record { call = call; reply = reply } ∷ calls_in events
calls_in (event ∷ events) = calls_in events

-- the key of a transmit association that a call should install, regardless of the answer
abbrev pub installed_by : Call → List (List ℕ)
installed_by (Commands (TxInstall an key start confidential offset)) = octets_of_key key ∷ []
installed_by (Submits (TxInstall an key start confidential offset)) = octets_of_key key ∷ []
installed_by call = []

-- a frame is written: a packet number is returned, or `out` is not empty
abbrev pub writes : Reply → Bool
writes (Protected (Err fault) []) = false
writes (Protected answer out) = true
writes reply = false

-- A call writes the frame that protects its plain one under this key, which is one of these, and this packet number
-- (IEEE Std 802.1AE-2018, clauses 9, 10 and 14): the number and some SCI form the IV. Which SCI, SecTAG and offset does
-- not matter here.
abbrev pub IsProtected : (keys : List (List ℕ)) → Use → Call → Reply → Type 0
IsProtected keys u (Protects plain) (Protected (Ok pn) out) =
    (sci : List ℕ) × (tag : SecTag) × (offset : ℕ) × (out ≡ protected_frame u.key sci tag offset plain)
    × Contains keys u.key × (length sci ≡ 8) × (tag.pn ≡ u.pn) × (u.pn ≡ pn) × (1 ≤ pn) × (pn < 2 ^ 32)
IsProtected keys u call reply = ⊥

-- each of these calls does, in order
abbrev pub AreProtected : (keys : List (List ℕ)) → List Use → List Exchange → Type 0
AreProtected keys [] [] = Unit {0}
AreProtected keys (u ∷ uses) (e ∷ calls) = IsProtected keys u e.call e.reply × AreProtected keys uses calls
AreProtected keys uses calls = ⊥

-- For all programs, on an honest disk that was new, and no matter where they end: each frame that they write is
-- protected under a key that they were to install, with some packet number, and no two have the same key and number.
-- What readers show does not matter here, so they show nothing.
abbrev pub NoNumberTwice : {D : Type 0} → (D → Disk) → Type 0
NoNumberTwice {D} disk_of = (disk : D) (events : List (Event (Unit {0}))) (end : Holds D) → IsNewDisk (disk_of disk)
    → Happen disk_of (λ endpoint. tt) (HoldsDisk disk) events end
    → let calls = calls_in events in
    let keys = flat_map (λ (e : Exchange). installed_by e.call) calls in
    let written = filter (λ (e : Exchange). writes e.reply) calls in
    (uses : List Use) × AreProtected keys uses written × AllPairs {X = Use} (λ a b. a ≢ b) uses

-- ---- all that is seen

-- For all programs, on an honest disk that was new, and no matter where they end: an observer expects all that is seen.
abbrev pub AllIsExpected : {D : Type 0} → (D → Disk) → Type 0
AllIsExpected {D} disk_of = (disk : D) (events : List (Event Shown)) (end : Holds D) → IsNewDisk (disk_of disk)
    → Happen disk_of shown_by (HoldsDisk disk) events end → ExpectsAll new_observer events
