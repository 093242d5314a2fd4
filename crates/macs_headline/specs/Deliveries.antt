-- The headline on received frames.
use Rattle.std.specs.Prelude.{◌≡◌, ◌≢◌, ◌⊎◌, ◌<◌, ◌≤◌, ◌+◌, ◌-◌, max, true, ℕ, List, [], ◌∷◌, Contains, Option}
use Rattle.std.specs.Prelude.{Some, None, Result, Ok}
use Rattle.macs_fields.specs.Fields.{octets_of}
use Rattle.macs_frame.specs.Opening.{Verified, bare_frame}
use Rattle.macs_frame.specs.Tag.{tag_of}
use Rattle.macs_config.specs.declared.association.RxSa.{RxSa}
use Rattle.macs_rxsc.specs.Receive.{Numbers, channel_of}
use Rattle.macs_rxsc.specs.declared.verdict.Kind.{Kind}
use Rattle.macs_rxsc.specs.declared.verdict.Kind.TheVariants.{Delayed, Ok as AsOk, Untagged}
use Rattle.macs_rxsc.specs.declared.verdict.Verdict.{Verdict}
use Rattle.macs_rxsc.specs.declared.verdict.Verdict.TheVariants.{Delivered}
use Rattle.macs_endpoint.specs.declared.fault.Stopped.{Stopped}
use Rattle.macs_endpoint.specs.State.{Logs, Receives, Received, State, rx_side}
use Rattle.macs_endpoint.specs.Step.{Exchange, Step}
use Rattle.macs_store.specs.Standing.{Standing}
use Rattle.macs_headline.specs.Answered.{WasAnswered, exchanges_of_lives, lives_at}
use Rattle.macs_headline.specs.History.{Life, Past, logs_of}
use Rattle.macs_headline.specs.Moments.{IsFoundAfter, Moment}
use Rattle.macs_headline.specs.Numbers.{IsBeyondRx}

-- ---- what is delivered as verified

-- delivered as verified: as Ok, or as Delayed
abbrev pub IsVerifiedKind : Kind → Type 0
IsVerifiedKind AsOk = Unit {0}
IsVerifiedKind Delayed = Unit {0}
IsVerifiedKind kind = ⊥

-- A packet number is below the lowest acceptable one of its association, and the frame is Delayed; or it is not below
-- that, and the frame is Ok (IEEE Std 802.1AE-2018, 10.6).
abbrev pub IsInTime : ℕ → ℕ → Kind → Type 0
IsInTime lowest pn kind = ((pn < lowest) × (kind ≡ Delayed)) ⊎ ((lowest ≤ pn) × (kind ≡ AsOk))

-- the greatest packet number seen, after this one was
abbrev pub greatest_seen : Option ℕ → ℕ → ℕ
greatest_seen None pn = pn
greatest_seen (Some seen) pn = max seen pn

-- The numbers of an association after a frame of it was delivered. Next is at least one more than its packet number,
-- and lowest at least that next minus the window; neither falls (10.6). The greatest number seen is at least this one.
abbrev pub numbers_moved : (window : ℕ) → Numbers → (pn : ℕ) → Numbers
numbers_moved window n pn = record {
  next = max n.next (pn + 1);
  lowest = max n.lowest (max n.next (pn + 1) - window);
  seen = Some (greatest_seen n.seen pn);
}

-- A frame verifies (IEEE Std 802.1AE-2018, clause 10) under the key, the SCI and the offset of the association at that
-- moment that its tag names, by channel and AN; it is Delayed if its packet number is below the lowest acceptable one
-- there, else Ok, and if replay protection is on it is not below that (10.6); it gives its plain frame and no other;
-- and its packet number is added to those that were delivered, and changes those of the association.
pub record IsVerifiedDelivery (s : State) (frame : List ℕ) (kind : Kind) (out : List ℕ) (new : State) : Type 0 where
  pub sci : List ℕ
  pub sa : RxSa
  pub named : channel_of (rx_side s) frame ≡ Some sci
  pub association : s.config.rx sci (tag_of frame).an ≡ Some sa
  pub numbers : Numbers
  pub are_numbers : s.numbers sci (tag_of frame).an ≡ Some numbers
  pub in_time : IsInTime numbers.lowest (tag_of frame).pn kind
  pub guarded : s.config.replay.on ≡ true → numbers.lowest ≤ (tag_of frame).pn
  pub verified : Verified frame sa.key sci (octets_of sa.offset) out
  pub only : (other : List ℕ) → Verified frame sa.key sci (octets_of sa.offset) other → other ≡ out
  pub moved : new.numbers sci (tag_of frame).an ≡ Some (numbers_moved s.config.replay.window numbers (tag_of frame).pn)
  pub logged : new.logs.given ≡ record { sci = sci; key = sa.key; pn = (tag_of frame).pn; kind = kind } ∷ s.logs.given

-- an answer that a frame is delivered as verified
abbrev pub IsVerifiedAnswer : Result Verdict Stopped → Type 0
IsVerifiedAnswer (Ok (Delivered kind)) = IsVerifiedKind kind
IsVerifiedAnswer answer = ⊥

-- each frame with such an answer is delivered as verified
abbrev pub DeliveriesAreVerified : ℕ → Type 0
DeliveriesAreVerified sectors = (s : State) → Moment sectors s → (frame out : List ℕ) (verdict : Verdict) (new : State)
    → IsVerifiedAnswer (Ok verdict)
    → Step s (Receives frame) (Received (Ok verdict) out) new
    → (kind : Kind) × (verdict ≡ Delivered kind) × IsVerifiedDelivery s frame kind out new

-- ---- all other answers

-- what `out` holds after another answer: a frame without a tag whole, one that is delivered though it did not verify
-- without its SecTAG and ICV, and nothing for one that is discarded or held back, or that a stopped endpoint was given
abbrev pub out_after : List ℕ → Result Verdict Stopped → List ℕ
out_after frame (Ok (Delivered Untagged)) = frame
out_after frame (Ok (Delivered kind)) = bare_frame frame
out_after frame answer = []

-- each other answer gives that, and adds nothing to what was used and delivered
abbrev pub OthersAreBare : ℕ → Type 0
OthersAreBare sectors = (s : State) → Moment sectors s
    → (frame out : List ℕ) (answer : Result Verdict Stopped) (new : State) → ¬ IsVerifiedAnswer answer
    → Step s (Receives frame) (Received answer out) new → (out ≡ out_after frame answer) × (new.logs ≡ s.logs)

-- ---- no number twice

-- `receive` was given this frame, and delivered it as this kind
abbrev pub delivering : (frame : List ℕ) → Kind → (out : List ℕ) → Exchange
delivering frame kind out = record { call = Receives frame; reply = Received (Ok (Delivered kind)) out }

-- A frame was delivered as this kind in these lives, and then it verified under an SCI or key other than these, or it
-- has another number.
pub record IsOtherDelivery (sectors : ℕ) (lives : List Life) (logs : Logs) (frame : List ℕ) (kind : Kind)
    (out sci key : List ℕ) (pn : ℕ) : Type 0 where
  pub answered : WasAnswered sectors lives (delivering frame kind out) logs
  pub delivery : IsVerifiedDelivery answered.at frame kind out answered.after
  pub other : delivery.sci ≡ sci → delivery.sa.key ≡ key → (tag_of frame).pn ≢ pn

-- If replay protection is on with window 0, a frame that is delivered as verified differs from each that was delivered
-- as verified in this life or in one before it: on an association with the same SCI and key it has another number.
abbrev pub GivenOnce : ℕ → Type 0
GivenOnce sectors = (s : State) (m : Moment sectors s) → s.config.replay.on ≡ true → s.config.replay.window ≡ 0
    → (frame out : List ℕ) (kind : Kind) (new : State) (d : IsVerifiedDelivery s frame kind out new)
    → Step s (Receives frame) (Received (Ok (Delivered kind)) out) new
    → (earlier given : List ℕ) (was : Kind) → IsVerifiedKind was
    → Contains (exchanges_of_lives (lives_at m)) (delivering earlier was given)
    → IsOtherDelivery sectors (lives_at m) s.logs earlier was given d.sci d.sa.key (tag_of frame).pn

-- For any window, a frame that is delivered as Ok differs from each that was delivered as verified in a life before
-- this one.
abbrev pub NeverOkAgain : ℕ → Type 0
NeverOkAgain sectors = (s : State) (m : Moment sectors s)
    → (frame out : List ℕ) (new : State) (d : IsVerifiedDelivery s frame AsOk out new)
    → Step s (Receives frame) (Received (Ok (Delivered AsOk)) out) new
    → (earlier given : List ℕ) (was : Kind) → IsVerifiedKind was
    → Contains (exchanges_of_lives m.lives) (delivering earlier was given)
    → IsOtherDelivery sectors m.lives (logs_of m.past) earlier was given d.sci d.sa.key (tag_of frame).pn

-- ---- what is found is greater than the number of each

-- A frame was delivered as this kind in these lives, and this was found after them: the key of the association under
-- which it verified is spent for its SCI, and each association of the SCI with that key begins above the number.
pub record IsFoundBeyondDelivery (sectors : ℕ) (lives : List Life) (logs : Logs) (frame : List ℕ) (kind : Kind)
    (out : List ℕ) (found : Standing) : Type 0 where
  pub answered : WasAnswered sectors lives (delivering frame kind out) logs
  pub delivery : IsVerifiedDelivery answered.at frame kind out answered.after
  pub beyond : IsBeyondRx found delivery.sci delivery.sa.key (tag_of frame).pn

-- this holds in every image, for each frame that any life before it delivered as verified
abbrev pub DeliveredBelow : ℕ → Type 0
DeliveredBelow sectors = (past : Past) (found : Standing) (f : IsFoundAfter sectors past found) (frame out : List ℕ)
    (kind : Kind) → IsVerifiedKind kind
    → Contains (exchanges_of_lives f.lives) (delivering frame kind out)
    → IsFoundBeyondDelivery sectors f.lives (logs_of past) frame kind out found
