-- Calls that a courier carries.
use Rattle.std.proofs.Common.{◌≡◌, ◌∙◌, ◌++◌, inl, inr, ℕ, Bool, true, false, List, [], ◌∷◌, Option, Some}
use Rattle.std.proofs.Common.{None, Result, Ok, Err, IfSome, IsErr, OnErr, OnOk, refl, sym, ap, subst, length, arith}
use Rattle.macs_disk.specs.Messages.{answer_octets, octets_in, octet_of, request_of}
use Rattle.macs_disk.specs.declared.device_call.DeviceCall.{DeviceCall}
use Rattle.macs_disk.specs.declared.device_call.DeviceCall.TheVariants.{Read, Write, Sync}
use Rattle.macs_disk.specs.declared.disk.DeviceFault.{DeviceFault}
use Rattle.macs_disk.specs.declared.messages.answer.CallAnswer.TheVariants.{Sector, Done, Failed}
use Rattle.macs_disk.proofs.ReadBack.{front, size-of-zeros}
use Rattle.macs_control.specs.Asking.{Conversation, Reads, Sends, conversation}
use Rattle.macs_control.specs.Couriers.{Awaits, AwaitsFrom, Begins, BeginsFrom, CourierValue, EndsCall, Exchanges}
use Rattle.macs_control.specs.Couriers.{ExchangesFrom, Hears, IsNoAnswer, IsUnheard, done_answer, errand_after}
use Rattle.macs_control.specs.Links.{GivesOctets, Link}
use Rattle.macs_control.specs.declared.keeping.courier.Errand.{Errand}
use Rattle.macs_control.specs.declared.keeping.courier.Errand.TheVariants as errand
use Rattle.macs_control.proofs.Asked.{finds-more, reads-more, reads-none}

-- ---- octets that say nothing of a call

pub nothing-said : (call : DeviceCall) → IsNoAnswer call []
nothing-said call read size is =
    let e : [] ≡ octet_of (done_answer call read) ∷ octets_in (done_answer call read) = is in
    cc

other-kind : (kind : ℕ) (rest octets : List ℕ) (call : DeviceCall) → octets ≡ kind ∷ rest
    → ((read : List ℕ) → kind ≡ octet_of (done_answer call read) → ⊥) → IsNoAnswer call octets
other-kind kind rest octets call is other read size said =
    other read (front kind (octet_of (done_answer call read)) rest (octets_in (done_answer call read)) octets is said).0

pub said-failed : (call : DeviceCall) (octets : List ℕ) → octets ≡ answer_octets Failed → IsNoAnswer call octets
said-failed (Read at) octets is =
    other-kind 3 (octets_in Failed) octets (Read at) is (λ read e. omega (arith, e))
said-failed (Write at from) octets is =
    other-kind 3 (octets_in Failed) octets (Write at from) is (λ read e. omega (arith, e))
said-failed Sync octets is = other-kind 3 (octets_in Failed) octets Sync is (λ read e. omega (arith, e))

pub said-sector : (call : DeviceCall) (sector octets : List ℕ) → octets ≡ answer_octets (Sector sector)
    → ((read : List ℕ) → octet_of (done_answer call read) ≡ 2) → IsNoAnswer call octets
said-sector call sector octets is other =
    other-kind 1 sector octets call is (λ read e. let two = other read in omega (arith, e, two))

pub said-done : (at : ℕ) (octets : List ℕ) → octets ≡ answer_octets Done → IsNoAnswer (Read at) octets
said-done at octets is = other-kind 2 (octets_in Done) octets (Read at) is (λ read e. omega (arith, e))

-- how long the sector of an answer is
pub whole-sector : (call : DeviceCall) (read : List ℕ) → length read ≡ 512
    → length (octets_in (done_answer call read)) ≡ 512
whole-sector (Read at) read size = size
whole-sector (Write at from) read size = size-of-zeros
whole-sector Sync read size = size-of-zeros

-- ---- what is heard

pub hears-later : (old mid new : Option Conversation) (call : DeviceCall) (read : List ℕ)
    (result : Result (Unit {0}) DeviceFault) → Reads old [] mid → Hears mid call read result new
    → Hears old call read result new
hears-later old mid new call read (Ok done) first then =
    reads-more old mid new [] (answer_octets (done_answer call read)) first then
hears-later old mid new call read (Err fault) first (octets, ended, none, finds) =
    (octets, ended, none, finds-more ended old mid new [] octets first finds)

-- nothing is heard, and the call fails
pub hears-nothing : (old new : Option Conversation) (call : DeviceCall) (read : List ℕ)
    (result : Result (Unit {0}) DeviceFault) → IsErr result → Reads old [] new → Hears old call read result new
hears-nothing old new call read (Ok done) is still = absurd cc
hears-nothing old new call read (Err fault) is still = ([], false, nothing-said call, still)

-- a message is read, and says this
pub hears-said : (old new : Option Conversation) (call : DeviceCall) (read octets held : List ℕ)
    (result : Result (Unit {0}) DeviceFault) → octets ≡ held → Reads old held new
    → OnOk result (octets ≡ answer_octets (done_answer call read)) → OnErr result (IsNoAnswer call octets)
    → Hears old call read result new
hears-said old new call read octets held (Ok done) same reads ok err =
    subst (λ (o : List ℕ). Reads old o new) (sym same ∙ ok) reads
hears-said old new call read octets held (Err fault) same reads ok err =
    (octets, false, err, subst (λ (o : List ℕ). Reads old o new) (sym same) reads)

pub hears-if-later : (old mid new : Option Conversation) (call : DeviceCall) (read : List ℕ)
    (found : Option (Result (Unit {0}) DeviceFault)) → Reads old [] mid
    → IfSome found (λ (end : Result (Unit {0}) DeviceFault). Hears mid call read end new)
    → IfSome found (λ (end : Result (Unit {0}) DeviceFault). Hears old call read end new)
hears-if-later old mid new call read None first then = tt
hears-if-later old mid new call read (Some end) first then = hears-later old mid new call read end first then

-- ---- a call under way ends

pub unheard-none : (value : CourierValue) → IsUnheard value value
unheard-none value = (refl, reads-none value.talk)

pub unheard-more : (old mid new : CourierValue) → IsUnheard old mid → IsUnheard mid new → IsUnheard old new
unheard-more old mid new (same, still) (more, then) = (
  more ∙ ap (λ (v : CourierValue). record v { talk = new.talk }) same,
  reads-more old.talk mid.talk new.talk [] [] still then,
)

-- and waiting changes nothing
pub waited : (old mid new last : CourierValue) → IsUnheard old mid → IsUnheard mid new → last ≡ new
    → IsUnheard old last
waited old mid new last before then same =
    subst (λ (v : CourierValue). IsUnheard old v) (sym same) (unheard-more old mid new before then)

pub ends-later : (old mid new : CourierValue) (call : DeviceCall) (read : List ℕ)
    (result : Result (Unit {0}) DeviceFault) → IsUnheard old mid → EndsCall mid call read result new
    → EndsCall old call read result new
ends-later old mid new call read result (same, still) ends =
    record { errand = ends.errand; heard = hears-later old.talk mid.talk new.talk call read result still ends.heard }

failed-after : (result : Result (Unit {0}) DeviceFault) → IsErr result → errand.Failed ≡ errand_after result
failed-after (Ok done) is = absurd cc
failed-after (Err fault) is = refl

-- it ends without an answer
pub ends-failed : (old mid new : CourierValue) (call : DeviceCall) (read : List ℕ)
    (result : Result (Unit {0}) DeviceFault) → IsUnheard old mid → IsErr result
    → new ≡ record mid { errand = errand.Failed } → EndsCall old call read result new
ends-failed old mid new call read result (same, still) is now = record {
  errand = ap (λ (v : CourierValue). v.errand) now ∙ failed-after result is;
  heard = hears-nothing old.talk new.talk call read result is
      (subst (λ (c : Option Conversation). Reads old.talk [] c) (sym (ap (λ (v : CourierValue). v.talk) now)) still);
}

-- what was looked at and found
pub ends-looked : (old mid new : CourierValue) (call : DeviceCall) (read : List ℕ)
    (result : Result (Unit {0}) DeviceFault) (next : Errand) → Hears old.talk call read result mid.talk
    → next ≡ errand_after result → new ≡ record mid { errand = next } → EndsCall old call read result new
ends-looked old mid new call read result next heard is now = record {
  errand = ap (λ (v : CourierValue). v.errand) now ∙ is;
  heard = subst (λ (c : Option Conversation). Hears old.talk call read result c)
      (sym (ap (λ (v : CourierValue). v.talk) now)) heard;
}

-- ---- a request

-- what a connection took of a request
pub said-from-free : (held : List ℕ) (old new : Option Link) (call : DeviceCall) (octets : List ℕ) (whole : Bool)
    → octets ≡ request_of call → GivesOctets old new octets whole
    → BeginsFrom errand.Free (conversation held old) call whole (conversation held new)
said-from-free held None new call octets true is gives = tt
said-from-free held None new call octets false is gives = ([], request_of call, refl, (λ none. cc), tt)
said-from-free held (Some old) new call octets true is gives =
    ap (λ (l : Option Link). conversation held l) gives
    ∙ ap (λ (o : List ℕ). conversation held (Some (record old { given = old.given ++ o }))) is
said-from-free held (Some old) new call octets false is (some, rest, parts, more, gives) =
    (some, rest, sym is ∙ parts, more, ap (λ (l : Option Link). conversation held l) gives)

-- ---- a whole call

said-all : (errand : Errand) (old mid new : Option Conversation) (call : DeviceCall) (read : List ℕ)
    (result : Result (Unit {0}) DeviceFault) → BeginsFrom errand old call true mid → Hears mid call read result new
    → ExchangesFrom errand old call read result new
said-all errand.Free old mid new call read result sends hears = inr (mid, sends, hears)
said-all (errand.Asked asked) old mid new call read result (same, still) hears =
    inl (same, subst (λ (c : Option Conversation). Hears c call read result new) still hears)
said-all errand.Failed old mid new call read result begun hears = absurd begun

said-no-more : (errand : Errand) (old new : Option Conversation) (call : DeviceCall) (read : List ℕ)
    (result : Result (Unit {0}) DeviceFault) → BeginsFrom errand old call false new → IsErr result
    → ExchangesFrom errand old call read result new
said-no-more errand.Free old new call read result part is = inl (is, part)
said-no-more (errand.Asked asked) old new call read result (other, still) is = inr (other, is, still)
said-no-more errand.Failed old new call read result still is = (is, still)

-- a call that is begun ends
pub exchanged : (old mid new : CourierValue) (call : DeviceCall) (read : List ℕ)
    (result : Result (Unit {0}) DeviceFault) → Begins old call true mid → EndsCall mid call read result new
    → Exchanges old call read result new
exchanged old mid new call read result begun ends = record {
  errand = ends.errand;
  said = said-all old.errand old.talk mid.talk new.talk call read result begun.said ends.heard;
}

pub exchanged-if : (old mid new : CourierValue) (call : DeviceCall) (read : List ℕ)
    (found : Option (Result (Unit {0}) DeviceFault)) → Begins old call true mid
    → IfSome found (λ (end : Result (Unit {0}) DeviceFault). EndsCall mid call read end new)
    → IfSome found (λ (end : Result (Unit {0}) DeviceFault). Exchanges old call read end new)
exchanged-if old mid new call read None begun ends = tt
exchanged-if old mid new call read (Some end) begun ends = exchanged old mid new call read end begun ends

-- one that is not fails
pub exchanged-not : (old new : CourierValue) (call : DeviceCall) (read : List ℕ)
    (result : Result (Unit {0}) DeviceFault) → Begins old call false new → IsErr result
    → Exchanges old call read result new
exchanged-not old new call read result begun is = record {
  errand = begun.errand ∙ failed-after result is;
  said = said-no-more old.errand old.talk new.talk call read result begun.said is;
}

sends-then : (old mid new : Option Conversation) (octets : List ℕ) → Sends old octets mid → Reads mid [] new
    → Sends old octets new
sends-then None mid new octets sends still = tt
sends-then (Some old) None new octets sends still = cc
sends-then (Some old) (Some mid) new octets sends (left, is, now) =
    now
    ∙ ap (λ (l : List ℕ). Some (record mid { unread = l })) (sym is)
    ∙ sends

said-so-far : (errand : Errand) (old mid new : Option Conversation) (call : DeviceCall)
    → BeginsFrom errand old call true mid → Reads mid [] new → AwaitsFrom errand old call new
said-so-far errand.Free old mid new call sends still = sends-then old mid new (request_of call) sends still
said-so-far (errand.Asked asked) old mid new call (same, was) still =
    (same, subst (λ (c : Option Conversation). Reads c [] new) was still)
said-so-far errand.Failed old mid new call begun still = absurd begun

-- the answer to one that is begun is not there
pub awaits : (old mid new : CourierValue) (call : DeviceCall) → Begins old call true mid → IsUnheard mid new
    → Awaits old call new
awaits old mid new call begun (same, still) = record {
  errand = ap (λ (v : CourierValue). v.errand) same ∙ begun.errand;
  said = said-so-far old.errand old.talk mid.talk new.talk call begun.said still;
}
