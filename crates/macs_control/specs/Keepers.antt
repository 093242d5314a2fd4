-- What a keeper does for its client: a greeting, and then for each request, one after another, one call of the disk and
-- one answer.
use Rattle.std.specs.Prelude.{◌≡◌, ◌<◌, ◌≤◌, ◌-◌, ◌^◌, ◌++◌, ⊤, ℕ, Bool, true, false, List, [], ◌∷◌, length, Option, Some, None}
use Rattle.std.specs.Prelude.{Result, Ok, Err}
use Rattle.macs_disk.specs.Disk.{Disk}
use Rattle.macs_disk.specs.DeviceCalls.{IsCall, IsMade, IsWithin}
use Rattle.macs_disk.specs.Messages.{answer_octets, answer_to, greeting_octets, request_of}
use Rattle.macs_disk.specs.declared.device_call.DeviceCall.{DeviceCall}
use Rattle.macs_disk.specs.declared.disk.DeviceFault.{DeviceFault}
use Rattle.macs_control.specs.Links.{GivesOctets, Line, Link}
use Rattle.macs_control.specs.declared.keeping.cut.Cut.{Cut}
use Rattle.macs_control.specs.declared.keeping.cut.Cut.TheVariants as cut
use Rattle.macs_control.specs.declared.keeping.keeper.KeepEnd.{KeepEnd}
use Rattle.macs_control.specs.declared.keeping.keeper.KeepEnd.TheVariants.{Ungreeted, Ended, Gone, Malformed, Outside}
use Rattle.macs_control.specs.declared.keeping.keeper.KeepEnd.TheVariants.{Unanswered}

-- ---- what a connection carries, where that is known

-- these octets are taken, and nothing is sent
abbrev pub Takes : Option Link → List ℕ → Option Link → Type 0
Takes None octets new = ⊤
Takes (Some old) octets new =
    (rest : List ℕ) × (old.coming ≡ octets ++ rest) × (new ≡ Some (record old { coming = rest }))

-- these octets are the last, and the other side is found to have ended
abbrev pub TakesLast : Option Link → List ℕ → Option Link → Type 0
TakesLast None octets new = ⊤
TakesLast (Some old) octets new = (old.coming ≡ octets) × (new ≡ Some (record old { coming = []; over = true }))

-- a message of this size does not arrive: the other side ends within it, or the connection fails
abbrev pub IsCut : ℕ → Option Link → Cut → Option Link → Type 0
IsCut size old cut.Ended new = (part : List ℕ) × (length part < size) × TakesLast old part new
IsCut size old cut.Gone new = (part : List ℕ) × Takes old part new

-- the same where these octets of it were taken before
abbrev pub IsCutAfter : List ℕ → Option Link → Cut → Option Link → Type 0
IsCutAfter held old cut.Ended new = TakesLast old held new
IsCutAfter held old cut.Gone new = (part : List ℕ) × Takes old part new

-- More of a message is taken from a connection that is known to be steady, and it still is: there are more octets now
-- than before; or the other side has ended
abbrev pub TakesMore : Result (Unit {0}) Cut → ℕ → ℕ → Bool → Type 0
TakesMore (Ok done) before now steady = (before < now) × (steady ≡ true)
TakesMore (Err cut.Ended) before now steady = ⊤
TakesMore (Err cut.Gone) before now steady = ⊥

-- a cut as the end of work for a client
abbrev pub end_of_cut : Cut → KeepEnd
end_of_cut cut.Ended = Ended
end_of_cut cut.Gone = Gone

-- ---- requests and answers

-- a call that was made for a client: what it read, and how it ended
pub record Served : Type 0 where
  pub call : DeviceCall
  pub read : List ℕ
  pub result : Result (Unit {0}) DeviceFault

-- its answer
abbrev pub answer_for : Served → List ℕ
answer_for served = answer_octets (answer_to served.call served.read served.result)

-- A request is taken, its call is made on the disk, and its answer is sent, whole or not
pub record Makes (before : Disk) (old : Option Link) (served : Served) (whole : Bool) (after : Disk)
    (new : Option Link) : Type 0 where
  pub asked : Option Link
  pub taken : Takes old (request_of served.call) asked
  pub within : IsWithin before.sectors served.call
  pub made : IsMade before after served.call served.read served.result
  pub given : GivesOctets asked new (answer_for served) whole

-- the same for a call that was taken already
abbrev pub MakesOne : Disk → Option Link → DeviceCall → Bool → Disk → Option Link → Type 0
MakesOne before old call whole after new = (read : List ℕ) × (result : Result (Unit {0}) DeviceFault)
    × IsMade before after call read result
    × GivesOctets old new (answer_octets (answer_to call read result)) whole

-- the same for each of several, one after another
abbrev pub MakesEach : Disk → Option Link → List Served → Disk → Option Link → Type 0
MakesEach before old [] after new = (after ≡ before) × (new ≡ old)
MakesEach before old (served ∷ others) after new = (between : Disk) × (link : Option Link)
    × Makes before old served true between link × MakesEach between link others after new

-- ---- the end

-- no request for a call of a disk of this many sectors is taken: the client ends, within a request or between two; the
-- connection fails; what comes is not a request; or it is for a sector that the disk does not have
abbrev pub AsksNot : ℕ → KeepEnd → Option Link → Option Link → Type 0
AsksNot sectors Ended old new = IsCut 521 old cut.Ended new
AsksNot sectors Gone old new = IsCut 521 old cut.Gone new
AsksNot sectors Malformed old new = (octets : List ℕ) × (length octets ≡ 521)
    × ((call : DeviceCall) → IsCall call → octets ≡ request_of call → ⊥) × Takes old octets new
AsksNot sectors Outside old new = (call : DeviceCall) × (¬ IsWithin sectors call) × Takes old (request_of call) new
AsksNot sectors other old new = ⊥

-- what ends the work for a client that was greeted: no request is taken, and no call is made; or an answer is not sent
-- whole
abbrev pub EndsWith : KeepEnd → Disk → Option Link → Disk → Option Link → Type 0
EndsWith Unanswered before old after new = (served : Served) × Makes before old served false after new
EndsWith end before old after new = (after ≡ before) × AsksNot before.sectors end old new

-- After a greeting: calls for requests, and the end. A connection that is known to be steady fails after 2^64 - 1
-- requests and not before
pub record Serves (before : Disk) (old : Line) (end : KeepEnd) (after : Disk) (new : Option Link) : Type 0 where
  pub served : List Served
  pub between : Disk
  pub link : Option Link
  pub makes : MakesEach before old.link served between link
  pub ends : EndsWith end between link after new
  pub gone : old.steady ≡ true → end ≡ Gone → 2 ^ 64 - 1 ≤ length served

-- the whole work of a keeper for a client
abbrev pub Keeps : Disk → Line → KeepEnd → Disk → Option Link → Type 0
Keeps before old Ungreeted after new = (after ≡ before)
    × GivesOctets old.link new (greeting_octets before.sectors) false
Keeps before old end after new = (greeted : Option Link)
    × GivesOctets old.link greeted (greeting_octets before.sectors) true
    × Serves before (record old { link = greeted }) end after new
