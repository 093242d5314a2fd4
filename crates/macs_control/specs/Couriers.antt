-- Device calls that a courier carries to a keeper: which octets are sent for each, and which are read.
use Rattle.std.specs.Prelude.{◌≡◌, ◌≢◌, ◌++◌, ◌⊎◌, ℕ, Bool, true, false, List, [], length, Option, Result, Ok, Err}
use Rattle.std.specs.Prelude.{IsErr}
use Rattle.macs_disk.specs.Messages.{answer_octets, answer_to, request_of}
use Rattle.macs_disk.specs.declared.device_call.DeviceCall.{DeviceCall}
use Rattle.macs_disk.specs.declared.disk.DeviceFault.{DeviceFault}
use Rattle.macs_disk.specs.declared.messages.answer.CallAnswer.{CallAnswer}
use Rattle.macs_control.specs.Asking.{Conversation, Reads, ReadsAndFinds, Sends}
use Rattle.macs_control.specs.declared.keeping.courier.Errand.{Errand}
use Rattle.macs_control.specs.declared.keeping.courier.Errand.TheVariants as errand

-- a courier: what it is doing, and what is known of the conversation with its keeper
pub record CourierValue : Type 0 where
  pub errand : Errand
  pub talk : Option Conversation

-- what it is doing after a call that ended so
abbrev pub errand_after : {T E : Type 0} → Result T E → Errand
errand_after (Ok done) = errand.Free
errand_after (Err fault) = errand.Failed

-- what it is doing once a call is under way, or is not
abbrev pub errand_with : DeviceCall → Bool → Errand
errand_with call true = errand.Asked call
errand_with call false = errand.Failed

-- ---- the answer of a keeper

-- the answer to a call that is done
abbrev pub done_answer : DeviceCall → List ℕ → CallAnswer
done_answer call read = answer_to {T = Unit {0}} {E = DeviceFault} call read (Ok tt)

-- octets that do not say that this call is done
abbrev pub IsNoAnswer : DeviceCall → List ℕ → Type 0
IsNoAnswer call octets = (read : List ℕ) → length read ≡ 512 → octets ≡ answer_octets (done_answer call read) → ⊥

-- the answer that the call is done is read; or octets that do not say so, and the keeper may be found to have ended
abbrev pub Hears : Option Conversation → DeviceCall → List ℕ → Result (Unit {0}) DeviceFault → Option Conversation
    → Type 0
Hears old call read (Ok done) new = Reads old (answer_octets (done_answer call read)) new
Hears old call read (Err fault) new =
    (octets : List ℕ) × (ended : Bool) × IsNoAnswer call octets × ReadsAndFinds old octets ended new

-- the answer is not there: nothing is read, and nothing else has changed
abbrev pub IsUnheard : CourierValue → CourierValue → Type 0
IsUnheard old new = (new ≡ record old { talk = new.talk }) × Reads old.talk [] new.talk

-- a call under way ends with what the keeper answers
pub record EndsCall (old : CourierValue) (call : DeviceCall) (read : List ℕ) (result : Result (Unit {0}) DeviceFault)
    (new : CourierValue) : Type 0 where
  pub errand : new.errand ≡ errand_after result
  pub heard : Hears old.talk call read result new.talk

-- ---- the begin of a call

-- not all of these octets are sent, and nothing is read
abbrev pub SendsPart : Option Conversation → List ℕ → Option Conversation → Type 0
SendsPart old octets new = (first rest : List ℕ) × (octets ≡ first ++ rest) × (rest ≢ []) × Sends old first new

-- What is said so that a call is under way, or is not: its request, once, or a part of it. Where the call is under way
-- already, where another is, and where one has failed, nothing
abbrev pub BeginsFrom : Errand → Option Conversation → DeviceCall → Bool → Option Conversation → Type 0
BeginsFrom errand.Free old call true new = Sends old (request_of call) new
BeginsFrom errand.Free old call false new = SendsPart old (request_of call) new
BeginsFrom (errand.Asked asked) old call true new = (asked ≡ call) × (new ≡ old)
BeginsFrom (errand.Asked asked) old call false new = (asked ≢ call) × (new ≡ old)
BeginsFrom errand.Failed old call true new = ⊥
BeginsFrom errand.Failed old call false new = new ≡ old

-- a call is begun, and is under way or not
pub record Begins (old : CourierValue) (call : DeviceCall) (is_asked : Bool) (new : CourierValue) : Type 0 where
  pub errand : new.errand ≡ errand_with call is_asked
  pub said : BeginsFrom old.errand old.talk call is_asked new.talk

-- ---- a whole call

-- not all of the request is sent; or it is, and then the answer is read
abbrev pub Talks : Option Conversation → DeviceCall → List ℕ → Result (Unit {0}) DeviceFault → Option Conversation
    → Type 0
Talks old call read result new =
    (IsErr result × SendsPart old (request_of call) new)
    ⊎ ((between : Option Conversation) × Sends old (request_of call) between × Hears between call read result new)

-- What is said for a call that ends: its request and the answer. Where it is under way already its answer alone; where
-- another is, and where one has failed, nothing, and it fails
abbrev pub ExchangesFrom : Errand → Option Conversation → DeviceCall → List ℕ → Result (Unit {0}) DeviceFault
    → Option Conversation → Type 0
ExchangesFrom errand.Free old call read result new = Talks old call read result new
ExchangesFrom (errand.Asked asked) old call read result new =
    ((asked ≡ call) × Hears old call read result new) ⊎ ((asked ≢ call) × IsErr result × (new ≡ old))
ExchangesFrom errand.Failed old call read result new = IsErr result × (new ≡ old)

-- a call is made, and ends
pub record Exchanges (old : CourierValue) (call : DeviceCall) (read : List ℕ)
    (result : Result (Unit {0}) DeviceFault) (new : CourierValue) : Type 0 where
  pub errand : new.errand ≡ errand_after result
  pub said : ExchangesFrom old.errand old.talk call read result new.talk

-- What is said for a call whose answer is not there: its request, unless it is under way already. No other is, and none
-- has failed
abbrev pub AwaitsFrom : Errand → Option Conversation → DeviceCall → Option Conversation → Type 0
AwaitsFrom errand.Free old call new = Sends old (request_of call) new
AwaitsFrom (errand.Asked asked) old call new = (asked ≡ call) × Reads old [] new
AwaitsFrom errand.Failed old call new = ⊥

-- a call is under way, and its answer is not there
pub record Awaits (old : CourierValue) (call : DeviceCall) (new : CourierValue) : Type 0 where
  pub errand : new.errand ≡ errand.Asked call
  pub said : AwaitsFrom old.errand old.talk call new.talk
