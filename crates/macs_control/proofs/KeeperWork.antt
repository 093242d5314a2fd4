-- The work of a keeper, request after request.
use Rattle.std.proofs.Common.{◌≡◌, ◌≤◌, ◌-◌, ◌^◌, ◌+◌, ◌++◌, ℕ, Bool, true, List, [], ◌∷◌, length, Option, refl, subst, Result}
use Rattle.std.proofs.lemmas.List.{length-append}
use Rattle.macs_disk.specs.DeviceCalls.{IsMade, IsWithin}
use Rattle.macs_disk.specs.Disk.{Disk}
use Rattle.macs_disk.specs.Messages.{answer_octets, answer_to, greeting_octets, request_of}
use Rattle.macs_disk.specs.declared.device_call.DeviceCall.{DeviceCall}
use Rattle.macs_disk.specs.declared.disk.DeviceFault.{DeviceFault}
use Rattle.macs_disk.specs.declared.messages.answer.CallAnswer.{CallAnswer}
use Rattle.macs_control.specs.Keepers.{AsksNot, EndsWith, IsCut, Keeps, Makes, MakesEach, MakesOne, Served, Serves}
use Rattle.macs_control.specs.Keepers.{Takes, end_of_cut}
use Rattle.macs_control.specs.Links.{GivesOctets, Line, Link}
use Rattle.macs_control.specs.declared.keeping.cut.Cut.{Cut}
use Rattle.macs_control.specs.declared.keeping.cut.Cut.TheVariants as cut
use Rattle.macs_control.specs.declared.keeping.keeper.KeepEnd.{KeepEnd}
use Rattle.macs_control.specs.declared.keeping.keeper.KeepEnd.TheVariants.{Ungreeted, Ended, Gone, Malformed, Outside}
use Rattle.macs_control.specs.declared.keeping.keeper.KeepEnd.TheVariants.{Unanswered}
use Rattle.macs_control.proofs.Carried.{takes-none}

-- the request does not arrive
pub asks-not : (sectors : ℕ) (end : Cut) (old new : Option Link) → IsCut 521 old end new
    → AsksNot sectors (end_of_cut end) old new
asks-not sectors cut.Ended old new is = is
asks-not sectors cut.Gone old new is = is

-- so no call is made
pub ends-not : (end : KeepEnd) (before after : Disk) (old new : Option Link) → after ≡ before
    → AsksNot before.sectors end old new → EndsWith end before old after new
ends-not Ungreeted before after old new same not = absurd not
ends-not Ended before after old new same not = (same, not)
ends-not Gone before after old new same not = (same, not)
ends-not Malformed before after old new same not = (same, not)
ends-not Outside before after old new same not = (same, not)
ends-not Unanswered before after old new same not = absurd not

-- a call is made, and answered
pub made-one : (before : Disk) (old : Option Link) (call : DeviceCall) (read : List ℕ)
    (result : Result (Unit {0}) DeviceFault) (answer : CallAnswer) (octets sent : List ℕ) (whole : Bool) (after : Disk)
    (new : Option Link)
    → IsMade before after call read result → answer ≡ answer_to call read result → octets ≡ answer_octets answer
    → sent ≡ octets → GivesOctets old new sent whole → MakesOne before old call whole after new
made-one before old call read result answer octets sent whole after new made is are same gives = (
  read,
  result,
  made,
  (
      let P : List ℕ → Type 0 = λ o. GivesOctets old new o whole in
      subst (λ (a : CallAnswer). P (answer_octets a)) is (subst P are (subst P same gives))),
)

-- with its request
pub makes : (before : Disk) (old mid : Option Link) (call : DeviceCall) (whole : Bool) (after : Disk)
    (new : Option Link) → Takes old (request_of call) mid → IsWithin before.sectors call
    → MakesOne before mid call whole after new → (served : Served) × Makes before old served whole after new
makes before old mid call whole after new takes within (read, result, made, gives) = (
  record { call = call; read = read; result = result },
  record { asked = mid; taken = takes; within = within; made = made; given = gives },
)

-- no request yet
pub makes-none : (before : Disk) (old : Option Link)
    → (served : List Served) × (length served ≡ 0) × MakesEach before old served before old
makes-none before old = ([], refl, (refl, refl))

each-more : (before : Disk) (old : Option Link) (served : List Served) (mid : Disk) (link : Option Link) (one : Served)
    (after : Disk) (new : Option Link) → MakesEach before old served mid link → Makes mid link one true after new
    → MakesEach before old (served ++ one ∷ []) after new
each-more before old [] mid link one after new (same, still) more = (
  after,
  new,
  subst (λ (d : Disk). Makes d old one true after new) same
      (subst (λ (l : Option Link). Makes mid l one true after new) still more),
  (refl, refl),
)
each-more before old (first ∷ others) mid link one after new (between, at, makes, rest) more =
    (between, at, makes, each-more between at others mid link one after new rest more)

-- one more request
pub makes-more : (before : Disk) (old : Option Link) (mid : Disk) (link : Option Link) (after : Disk)
    (new : Option Link) (served : List Served) → MakesEach before old served mid link
    → (one : Served) × Makes mid link one true after new
    → (more : List Served) × (length more ≡ length served + 1) × MakesEach before old more after new
makes-more before old mid link after new served each (one, more) = (
  served ++ one ∷ [],
  length-append served (one ∷ []),
  each-more before old served mid link one after new each more,
)

-- and the end
pub serves : (before : Disk) (old : Line) (mid : Disk) (link : Option Link) (end : KeepEnd) (after : Disk)
    (new : Option Link) (served : List Served) → MakesEach before old.link served mid link
    → EndsWith end mid link after new → (old.steady ≡ true → end ≡ Gone → 2 ^ 64 - 1 ≤ length served)
    → Serves before old end after new
serves before old mid link end after new served each ends gone =
    record { served = served; between = mid; link = link; makes = each; ends = ends; gone = gone }

pub greets : (old new : Option Link) (octets : List ℕ) (sectors count : ℕ) (whole : Bool)
    → octets ≡ greeting_octets sectors → sectors ≡ count → GivesOctets old new octets whole
    → GivesOctets old new (greeting_octets count) whole
greets old new octets sectors count whole is same gives =
    subst (λ (n : ℕ). GivesOctets old new (greeting_octets n) whole) same
    (subst (λ (o : List ℕ). GivesOctets old new o whole) is gives)

-- a client that was greeted is served
pub keeps : (before : Disk) (old : Line) (greeted : Option Link) (end : KeepEnd) (after : Disk) (new : Option Link)
    → GivesOctets old.link greeted (greeting_octets before.sectors) true
    → Serves before (record old { link = greeted }) end after new → Keeps before old end after new
keeps before old greeted Ungreeted after new gives is = absurd (is.ends.1)
keeps before old greeted Ended after new gives is = (greeted, gives, is)
keeps before old greeted Gone after new gives is = (greeted, gives, is)
keeps before old greeted Malformed after new gives is = (greeted, gives, is)
keeps before old greeted Outside after new gives is = (greeted, gives, is)
keeps before old greeted Unanswered after new gives is = (greeted, gives, is)
