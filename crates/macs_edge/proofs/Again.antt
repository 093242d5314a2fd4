-- A frame that waited is settled after a refill as it would have been at once.
use Rattle.std.proofs.Common.{◌≡◌, ◌≢◌, ◌<◌, ◌+◌, ◌/◌, ◌==◌, ◌||◌, ◌⊎◌, inl, inr, ℕ, Bool, true, false, cond, List, []}
use Rattle.std.proofs.Common.{◌∷◌, Option, Some, None, IsSome, Result, Ok, Err, IfOk, refl, sym, ◌∙◌, ap, subst, arith}
use Rattle.std.specs.Prelude.{max, IsSomeAnd}
use Rattle.std.specs.Option.{option_and_then}
use Rattle.std.proofs.Math.Nat.{le-max_right, max-eq_left}
use Rattle.std.proofs.Math.Path.{fun_ext}
use Rattle.macs_fields.specs.First.{NoneHolds}
use Rattle.macs_frame.specs.Tag.{changed, control, tag_of}
use Rattle.macs_frame.specs.declared.tag.TagFault.TheVariants as fault
use Rattle.macs_fields.proofs.FirstRefusal.{none-first}
use Rattle.macs_config.specs.Tables.{put, put_at}
use Rattle.macs_config.specs.declared.association.TxSa.{TxSa}
use Rattle.macs_config.proofs.Tables.{put_at-here, put_at-twice, put_rx-here}
use Rattle.macs_disk.specs.Disk.{Disk}
use Rattle.macs_txsc.specs.Transmit.{TxSide, is_at_ceiling, outgoing_at, outgoing_with}
use Rattle.macs_txsc.specs.declared.fault.TxFault.TheVariants.{Runt, TooLong, ForeignSource, NoEncodingSa, Exhausted}
use Rattle.macs_txsc.specs.declared.fault.TxFault.TheVariants.{NoNumber}
use Rattle.macs_rxsc.specs.Receive.{Arrival, Arrives, Numbers, RxSide, RxStep, RxStepHolds, Tag, NoChannel}
use Rattle.macs_rxsc.specs.Receive.{NoAssociation, BelowLowest, NotVerified, VerifiesAs, is_strict}
use Rattle.macs_rxsc.specs.Receive.{numbers_after_delivery, numbers_after_hold, numbers_of, put_numbers, rx_steps}
use Rattle.macs_rxsc.specs.Receive.{seen_after, verdict_at}
use Rattle.macs_rxsc.specs.declared.verdict.Kind.{Kind}
use Rattle.macs_rxsc.specs.declared.verdict.Kind.TheVariants.{Invalid, Untagged, UnknownSci, UnusedSa}
use Rattle.macs_rxsc.specs.declared.verdict.Reason.{Reason}
use Rattle.macs_rxsc.specs.declared.verdict.Reason.TheVariants.{NoTag, NoSci, NotUsingSa, NotValid}
use Rattle.macs_rxsc.specs.declared.verdict.Verdict.{Verdict}
use Rattle.macs_rxsc.specs.declared.verdict.Verdict.TheVariants.{Delivered, Discarded, HeldBack}
use Rattle.macs_rxsc.proofs.Steps.{arrives_once}
use Rattle.macs_store.specs.Value.{standing_in}
use Rattle.macs_endpoint.specs.Calls.{IsCall}
use Rattle.macs_endpoint.specs.Rooms.{IsEncodingAn}
use Rattle.macs_endpoint.specs.State.{Advanced, AdvancedLong, Call, Logs, Protected, Protects, Ran, Received, Receives}
use Rattle.macs_endpoint.specs.State.{Refilled, Refills, RefusedLong, Reply, State, Submitted, no_logs, rx_side}
use Rattle.macs_endpoint.specs.State.{tx_side}
use Rattle.macs_endpoint.specs.State.{Rested}
use Rattle.macs_endpoint.specs.Step.{ArriveStep, IsStopped, RunningStep, Step, state_after_delivery, state_after_hold}
use Rattle.macs_endpoint.specs.Value.{EndpointValue, IsSoundEndpoint, state_of}
use Rattle.macs_endpoint.specs.declared.fault.ProtectFault.TheVariants as protect
use Rattle.macs_endpoint.specs.declared.fault.RefillFault.{RefillFault}
use Rattle.macs_endpoint.specs.declared.fault.Stopped.{Stopped}
use Rattle.macs_endpoint.proofs.Rooms.{below-delivered, room-numbered, room-refilled}
use Rattle.macs_endpoint.proofs.Seen.{below-again}
use Rattle.macs_edge.specs.Settling.{HandsInAgain, IsJudged, Means, Settles, Waits, call_on, ending_of, is_passed}
use Rattle.macs_edge.specs.Settling.{verdict_of}
use Rattle.macs_edge.specs.declared.settling.Outcome.{Outcome}
use Rattle.macs_edge.specs.declared.settling.Outcome.TheVariants as outcome
use Rattle.macs_edge.specs.declared.settling.Side.{Side}
use Rattle.macs_edge.specs.declared.settling.Side.TheVariants.{Controlled, Common}

-- ---- what an answer means

module _ {D : Type 0} (disk_of : D → Disk) (old new : EndpointValue D) (frame out : List ℕ)
    (verdict : Option Verdict) where
  abbrev Answers : Side → Outcome → Type 0
  Answers side what = (reply : Reply) × IsCall disk_of old (call_on side frame) reply new
      × Means (call_on side frame) reply out what
      × (verdict ≡ verdict_of reply)

  pub controlled : (side : Side) (what : Outcome) (reply : Reply) → side ≡ Controlled
      → IsCall disk_of old (Protects frame) reply new
      → Means (Protects frame) reply out what → verdict ≡ verdict_of reply → Answers side what
  controlled side what reply is call means noted =
      subst (λ (s : Side). Answers s what) (sym is) (reply, call, means, noted)

  pub common : (side : Side) (what : Outcome) (reply : Reply) → side ≡ Common
      → IsCall disk_of old (Receives frame) reply new
      → Means (Receives frame) reply out what → verdict ≡ verdict_of reply → Answers side what
  common side what reply is call means noted = subst (λ (s : Side). Answers s what) (sym is) (reply, call, means, noted)

module _ {D : Type 0} (disk_of : D → Disk) (old new : EndpointValue D) (frame out : List ℕ) where
  pub protect_stopped : IsCall disk_of old (Protects frame) (Protected (Err protect.Stopped) out) new
      → IsStopped (Protects frame) (Protected (Err protect.Stopped) out)
  protect_stopped call = elim (call.behaves.step no_logs).1 [
    | inl stopped ↦ stopped.1
    | inr ran ↦ absurd ran.1
  ]

  pub receive_stopped : (s : Stopped) → IsCall disk_of old (Receives frame) (Received (Err s) out) new
      → IsStopped (Receives frame) (Received (Err s) out)
  receive_stopped s call = elim (call.behaves.step no_logs).1 [
    | inl stopped ↦ stopped.1
    | inr ran ↦ absurd ran.1
  ]

-- ---- held back, and then received

unheld : (b : Bool) (reason : Reason) (kind : Kind) → ¬ (cond b (Discarded reason) (Delivered kind) ≡ HeldBack)
unheld true reason kind is = absurd cc
unheld false reason kind is = absurd cc

settled_unheld : (side : RxSide) (frame : List ℕ) (step : RxStep) → ¬ (verdict_at side frame step ≡ HeldBack)
settled_unheld side frame (Tag fault.Runt) is = absurd cc
settled_unheld side frame (Tag fault.Oversize) is = absurd cc
settled_unheld side frame (Tag fault.NoTag) is = unheld (is_strict side.validate) NoTag Untagged is
settled_unheld side frame (Tag fault.BadTag) is = absurd cc
settled_unheld side frame (Tag fault.ForKay) is = absurd cc
settled_unheld side frame NoChannel is = unheld (is_strict side.validate || changed (control frame)) NoSci UnknownSci is
settled_unheld side frame NoAssociation is =
    unheld (is_strict side.validate || changed (control frame)) NotUsingSa UnusedSa is
settled_unheld side frame BelowLowest is = absurd cc
settled_unheld side frame NotVerified is =
    unheld (is_strict side.validate || changed (control frame)) NotValid Invalid is

same_twice : (a b : ℕ) → max (max a b) b ≡ max a b
same_twice a b = max-eq_left {n = max a b} {m = b} (le-max_right a b)

same_once : (a : ℕ) → max a a ≡ a
same_once a = max-eq_left {n = a} {m = a} (omega arith)

seen_twice : (seen : Option ℕ) (pn : ℕ) → seen_after (seen_after seen pn) pn ≡ seen_after seen pn
seen_twice None pn = ap Some (same_once pn)
seen_twice (Some seen) pn = ap Some (same_twice seen pn)

delivered_twice : (window : ℕ) (n : Numbers) (pn : ℕ)
    → numbers_after_delivery window (numbers_after_hold n pn) pn ≡ numbers_after_delivery window n pn
delivered_twice window n pn = λ i. record (numbers_after_delivery window n pn) { seen = seen_twice n.seen pn i }

twice : {Y : Type 0} (b : Bool) (x y z : Y) → cond b y (cond b x z) ≡ cond b y z
twice true x y z = refl
twice false x y z = refl

put_numbers-twice : (f : List ℕ → ℕ → Option Numbers) (sci : List ℕ) (an : ℕ) (x y : Option Numbers)
    → put_numbers (put_numbers f sci an x) sci an y ≡ put_numbers f sci an y
put_numbers-twice f sci an x y =
    ap (λ (g : ℕ → Option Numbers). put_at (put_numbers f sci an x) sci g) inner
    ∙ put_at-twice f sci (put (f sci) an x) (put (f sci) an y) where
      inner : put (put_numbers f sci an x sci) an y ≡ put (f sci) an y
      inner = ap (λ (g : ℕ → Option Numbers). put g an y) (put_at-here f sci (put (f sci) an x))
          ∙ fun_ext (λ k. twice (k == an) x y (f sci k))

none_of : {X : Type 0} (P Q : X → Type 0) (xs : List X) → ((x : X) → Q x → P x) → NoneHolds P xs → NoneHolds Q xs
none_of P Q [] f none = tt
none_of P Q (x ∷ xs) f none = ((λ q. none.0 (f x q)), none_of P Q xs f none.1)

module _ (s : State) (frame : List ℕ) (a : Arrival) (arrives : Arrives (rx_side s) frame a) where
  -- the arrival once more
  abbrev again : Arrival
  again = record a { numbers = numbers_after_hold a.numbers a.pn }

  abbrev before : RxSide
  before = rx_side s

  abbrev after : RxSide
  after = rx_side (state_after_hold s a)

  held_numbers : after.numbers a.sci a.an ≡ Some (numbers_after_hold a.numbers a.pn)
  held_numbers = put_rx-here s.numbers a.sci a.an (Some (numbers_after_hold a.numbers a.pn))

  numbers_now : numbers_of after frame ≡ Some (numbers_after_hold a.numbers a.pn)
  numbers_now = ap (option_and_then (λ (sci : List ℕ). after.numbers sci (tag_of frame).an)) arrives.is_channel
      ∙ ap (λ (an : ℕ). after.numbers a.sci an) (sym arrives.is_an) ∙ held_numbers

  numbers_before : numbers_of before frame ≡ Some a.numbers
  numbers_before = ap (option_and_then (λ (sci : List ℕ). before.numbers sci (tag_of frame).an)) arrives.is_channel
      ∙ ap (λ (an : ℕ). before.numbers a.sci an) (sym arrives.is_an) ∙ arrives.are_numbers

  verifies : (plain : List ℕ) → VerifiesAs before frame plain → VerifiesAs after frame plain
  verifies plain v = record {
    sci = v.sci;
    sa = v.sa;
    is_channel = v.is_channel;
    is_association = v.is_association;
    verified = v.verified;
  }

  -- no step holds now that did not hold before
  holds_before : (step : RxStep) → RxStepHolds after frame step → RxStepHolds before frame step
  holds_before (Tag f) h = h
  holds_before NoChannel h = h
  holds_before NoAssociation h = h
  holds_before BelowLowest h = (
    h.0,
    let late : IsSomeAnd (Some (numbers_after_hold a.numbers a.pn)) (λ numbers. (tag_of frame).pn < numbers.lowest) =
        subst (λ (n : Option Numbers). IsSomeAnd n (λ numbers. (tag_of frame).pn < numbers.lowest)) numbers_now h.1 in
        subst (λ (n : Option Numbers). IsSomeAnd n (λ numbers. (tag_of frame).pn < numbers.lowest))
        (sym numbers_before) late,
  )
  holds_before NotVerified h = λ plain v. h plain (verifies plain v)

  arrives-again : Arrives (rx_side (state_after_hold s a)) frame again
  arrives-again = record {
    unsettled = none_of (RxStepHolds before frame) (RxStepHolds after frame) rx_steps holds_before arrives.unsettled;
    is_channel = arrives.is_channel;
    is_an = arrives.is_an;
    is_pn = arrives.is_pn;
    is_association = arrives.is_association;
    are_numbers = held_numbers;
    verified = arrives.verified;
  }

  delivered-again : state_after_delivery (state_after_hold s a) again ≡ state_after_delivery s a
  delivered-again =
      let window = s.config.replay.window in
      let numbers : put_numbers (put_numbers s.numbers a.sci a.an (Some (numbers_after_hold a.numbers a.pn))) a.sci a.an
      (Some (numbers_after_delivery window (numbers_after_hold a.numbers a.pn) a.pn))
      ≡ put_numbers s.numbers a.sci a.an (Some (numbers_after_delivery window a.numbers a.pn)) =
      put_numbers-twice s.numbers a.sci a.an (Some (numbers_after_hold a.numbers a.pn))
      (Some (numbers_after_delivery window (numbers_after_hold a.numbers a.pn) a.pn))
      ∙ ap (λ (n : Numbers). put_numbers s.numbers a.sci a.an (Some n)) (delivered_twice window a.numbers a.pn) in
      λ i. record (state_after_delivery s a) { numbers = numbers i }

  arrive-again : (verdict : Verdict) (out : List ℕ) (t : State) → ¬ (verdict ≡ HeldBack)
      → ArriveStep (state_after_hold s a) again verdict out t
      → ArriveStep s a verdict out t
  arrive-again verdict out t unheld (inl held) = absurd (unheld held.0)
  arrive-again verdict out t unheld (inr taken) = inr (taken.0, taken.1, taken.2 ∙ delivered-again)

  -- what settles the frame once it was held back settles it at once
  step-again : (reply : Reply) (passed : Option (List ℕ)) (t : State) → Settles reply passed
      → Step (state_after_hold s a) (Receives frame) reply t
      → Step s (Receives frame) reply t
  step-again (Received (Ok verdict) out) passed t settles (inl stopped) = absurd stopped.1
  step-again (Received (Ok verdict) out) passed t settles (inr (running, inl settled)) =
      absurd (none-first (RxStepHolds after frame) rx_steps settled.0 arrives-again.unsettled settled.1)
  step-again (Received (Ok verdict) out) passed t settles (inr (running, inr (other, arrived, arriving))) =
      let same : other ≡ again = arrives_once after frame other again arrived arrives-again in
      inr (
        running,
        inr (
          a,
          arrives,
          arrive-again verdict out t (not_held verdict settles)
              (subst (λ (x : Arrival). ArriveStep (state_after_hold s a) x verdict out t) same arriving),
        ),
      ) where
        not_held : (v : Verdict) → Settles (Received (Ok v) out) passed → ¬ (v ≡ HeldBack)
        not_held (Delivered kind) is held = absurd cc
        not_held (Discarded reason) is held = absurd cc
        not_held HeldBack is held = is
  step-again (Received (Err stopped) out) passed t settles step = absurd settles
  step-again (Ran result) passed t settles step = absurd settles
  step-again (Refilled result) passed t settles step = absurd settles
  step-again (Rested result) passed t settles step = absurd settles
  step-again (Submitted result) passed t settles step = absurd settles
  step-again (Advanced result) passed t settles step = absurd settles
  step-again RefusedLong passed t settles step = absurd settles
  step-again (AdvancedLong ticket) passed t settles step = absurd settles
  step-again (Protected result out) passed t settles (inl stopped) = absurd stopped.1
  step-again (Protected result out) passed t settles (inr ran) = absurd ran.1

-- ---- a call, a refill and a call again

-- which answers wait
waits_how : (reply : Reply) → Waits reply
    → ((out : List ℕ) × (reply ≡ Protected (Err (protect.Tx NoNumber)) out))
    ⊎ ((out : List ℕ) × (reply ≡ Received (Ok HeldBack) out))
waits_how (Protected (Err (protect.Tx NoNumber)) out) waits = inl (out, refl)
waits_how (Received (Ok HeldBack) out) waits = inr (out, refl)
waits_how (Protected (Ok pn) out) waits = absurd waits
waits_how (Protected (Err protect.Stopped) out) waits = absurd waits
waits_how (Protected (Err (protect.Tx Runt)) out) waits = absurd waits
waits_how (Protected (Err (protect.Tx TooLong)) out) waits = absurd waits
waits_how (Protected (Err (protect.Tx ForeignSource)) out) waits = absurd waits
waits_how (Protected (Err (protect.Tx NoEncodingSa)) out) waits = absurd waits
waits_how (Protected (Err (protect.Tx Exhausted)) out) waits = absurd waits
waits_how (Received (Ok (Delivered kind)) out) waits = absurd waits
waits_how (Received (Ok (Discarded reason)) out) waits = absurd waits
waits_how (Received (Err stopped) out) waits = absurd waits
waits_how (Ran result) waits = absurd waits
waits_how (Refilled result) waits = absurd waits
waits_how (Rested result) waits = absurd waits
waits_how (Submitted result) waits = absurd waits
waits_how (Advanced result) waits = absurd waits
waits_how RefusedLong waits = absurd waits
waits_how (AdvancedLong ticket) waits = absurd waits

-- a frame is held back by arriving
held_how : (s t : State) (frame out : List ℕ) → Step s (Receives frame) (Received (Ok HeldBack) out) t
    → (a : Arrival) × Arrives (rx_side s) frame a × (t ≡ state_after_hold s a)
held_how s t frame out (inl stopped) = absurd stopped.1
held_how s t frame out (inr (running, inl settled)) =
    absurd (settled_unheld (rx_side s) frame settled.0 (sym settled.2))
held_how s t frame out (inr (running, inr (a, arrives, inl held))) = (a, arrives, held.3)
held_how s t frame out (inr (running, inr (a, arrives, inr taken))) = let wrong = taken.0 in absurd cc

-- frames go out under the association at whose ceiling the next number is
encodes_at : (side : TxSide) (ceilings : ℕ → Option ℕ) (encoding : Option ℕ)
    → is_at_ceiling ceilings (outgoing_at side encoding) ≡ true
    → (an : ℕ) × (encoding ≡ Some an) × IsSome (side.next an)
encodes_at side ceilings None at = absurd cc
encodes_at side ceilings (Some an) at = (an, refl, stands (side.tx an) (side.next an) at) where
  stands : (sa : Option TxSa) (next : Option ℕ) → is_at_ceiling ceilings (outgoing_with an sa next) ≡ true → IsSome next
  stands sa (Some pn) is = refl
  stands (Some sa) None is = absurd cc
  stands None None is = absurd cc

module _ {D : Type 0} (disk_of : D → Disk) where
  -- one call settles the frame
  pub at_once : (old new : EndpointValue D) (call : Call) (reply : Reply) (passed : Option (List ℕ))
      (verdict : Option Verdict) → IsSoundEndpoint old
      → IsCall disk_of old call reply new → Settles reply passed → verdict ≡ verdict_of reply
      → IsJudged disk_of old call passed verdict new
  at_once old new call reply passed verdict sound is settles noted = (
    record {
      turns = record { call = call; reply = reply; after = new } ∷ [];
      lives = (sound, is, refl);
      reply = reply;
      handed = (refl, refl);
      settles = settles;
      step = is.behaves.step;
    },
    noted,
  )

  module _ (old waiting filled new : EndpointValue D) (sound_old : IsSoundEndpoint old)
      (sound_waiting : IsSoundEndpoint waiting)
      (sound_filled : IsSoundEndpoint filled) (refills : IsCall disk_of waiting Refills (Refilled (Ok tt)) filled) where
    -- a refill changes nothing that the machine knows
    refilled : (logs : Logs) → (after : Logs) × (state_of filled after ≡ state_of waiting logs)
    refilled logs =
        let ended = refills.behaves.step logs in (
          ended.0,
          elim ended.1 [
            | inl stopped ↦ absurd stopped.1
            | inr ran ↦ ran.1.1
          ],
        )

    runs : (logs : Logs) → (state_of filled logs).stopped ≡ false
    runs logs =
        let ended = refills.behaves.step no_logs in
        elim ended.1 [
          | inl stopped ↦ absurd stopped.1
          | inr ran ↦ ap (λ (s : State). s.stopped) ran.1.1 ∙ ran.0
        ]

    -- ---- a plain frame

    module _ (plain out : List ℕ)
        (waits : IsCall disk_of old (Protects plain) (Protected (Err (protect.Tx NoNumber)) out) waiting) where
      protect_same : (logs : Logs) → (after : Logs) × (state_of waiting after ≡ state_of old logs)
      protect_same logs =
          let ended = waits.behaves.step logs in (
            ended.0,
            elim ended.1 [
              | inl stopped ↦ absurd stopped.1
              | inr ran ↦ ran.1.2
            ],
          )

      protect_step : (reply : Reply) → IsCall disk_of filled (Protects plain) reply new
          → (logs : Logs) → (after : Logs) × Step (state_of old logs) (Protects plain) reply (state_of new after)
      protect_step reply call logs =
          let first = protect_same logs in
          let second = refilled first.0 in
          let third = call.behaves.step second.0 in (
            third.0,
            subst (λ (s : State). Step s (Protects plain) reply (state_of new third.0)) (second.1 ∙ first.1) third.1,
          )

      -- there is a number now
      protect_numbered : (out' : List ℕ)
          → IsCall disk_of filled (Protects plain) (Protected (Err (protect.Tx NoNumber)) out') new → ⊥
      protect_numbered out' call =
          let at = encodes_at (tx_side (state_of filled no_logs)) (standing_in filled.store).ceilings.tx
          (standing_in filled.store).config.encoding call.behaves.limited in
          let encodes : IsEncodingAn filled at.0 = (at.1, at.2) in
          let room = room-refilled disk_of waiting filled at.0 sound_waiting refills encodes in
          room-numbered disk_of filled new at.0 ((standing_in filled.store).identity.tx_block / 2 + 1) plain out'
          encodes room (omega arith) call

    -- ---- a frame from the common side

    module _ (frame out : List ℕ)
        (waits : IsCall disk_of old (Receives frame) (Received (Ok HeldBack) out) waiting) where
      receive_step : (reply : Reply) (passed : Option (List ℕ)) → Settles reply passed
          → IsCall disk_of filled (Receives frame) reply new
          → (logs : Logs) → (after : Logs) × Step (state_of old logs) (Receives frame) reply (state_of new after)
      receive_step reply passed settles call logs =
          let first = waits.behaves.step logs in
          let how = held_how (state_of old logs) (state_of waiting first.0) frame out first.1 in
          let second = refilled first.0 in
          let third = call.behaves.step second.0 in (
            third.0,
            step-again (state_of old logs) frame how.0 how.1 reply passed (state_of new third.0) settles
                (subst (λ (s : State). Step s (Receives frame) reply (state_of new third.0))
                (second.1 ∙ how.2) third.1),
          )

      -- its number is below the ceiling now
      receive_below : (out' : List ℕ) → IsCall disk_of filled (Receives frame) (Received (Ok HeldBack) out') new → ⊥
      receive_below out' call =
          let first = waits.behaves.step no_logs in
          let how = held_how (state_of old no_logs) (state_of waiting first.0) frame out first.1 in
          let second = refilled first.0 in
          let same : state_of filled second.0 ≡ state_after_hold (state_of old no_logs) how.0 = second.1 ∙ how.2 in
          let arrived = arrives-again (state_of old no_logs) frame how.0 how.1 in
          let arrives : Arrives (rx_side (state_of filled no_logs)) frame
          (again (state_of old no_logs) frame how.0 how.1) =
          subst (λ (s : State). Arrives (rx_side s) frame (again (state_of old no_logs) frame how.0 how.1))
          (sym same) arrived in
          let below = below-again disk_of old waiting waiting filled [] frame out how.0 sound_filled how.1 waits refl
          tt refills in
          below-delivered disk_of filled new frame out' (again (state_of old no_logs) frame how.0 how.1)
          (record { ceiling = below.ceiling; is_ceiling = below.is_ceiling; below = below.below }) arrives call

    -- ---- on either side

    wrong_side : (frame out : List ℕ)
        → IsCall disk_of old (Receives frame) (Protected (Err (protect.Tx NoNumber)) out) waiting → ⊥
    wrong_side frame out call = elim (call.behaves.step no_logs).1 [
      | inl stopped ↦ stopped.1
      | inr ran ↦ ran.1
    ]

    other_side : (plain out : List ℕ) → IsCall disk_of old (Protects plain) (Received (Ok HeldBack) out) waiting → ⊥
    other_side plain out call = elim (call.behaves.step no_logs).1 [
      | inl stopped ↦ stopped.1
      | inr ran ↦ ran.1
    ]

    settled_step : (side : Side) (frame : List ℕ) (first reply : Reply) (passed : Option (List ℕ)) → Waits first
        → IsCall disk_of old (call_on side frame) first waiting → IsCall disk_of filled (call_on side frame) reply new
        → Settles reply passed
        → (logs : Logs) → (after : Logs) × Step (state_of old logs) (call_on side frame) reply (state_of new after)
    settled_step Controlled frame first reply passed waits one two settles = elim (waits_how first waits) [
      | inl no_number ↦ protect_step frame no_number.0
          (subst (λ (r : Reply). IsCall disk_of old (Protects frame) r waiting) no_number.1 one) reply two
      | inr held_back ↦ absurd (other_side frame held_back.0
          (subst (λ (r : Reply). IsCall disk_of old (Protects frame) r waiting) held_back.1 one))
    ]
    settled_step Common frame first reply passed waits one two settles = elim (waits_how first waits) [
      | inl no_number ↦ absurd (wrong_side frame no_number.0
          (subst (λ (r : Reply). IsCall disk_of old (Receives frame) r waiting) no_number.1 one))
      | inr held_back ↦ receive_step frame held_back.0 (subst
          (λ (r : Reply). IsCall disk_of old (Receives frame) r waiting) held_back.1 one) reply passed settles two
    ]

    -- the second call settles the frame
    pub settled_again : (side : Side) (frame : List ℕ) (first reply : Reply) (passed : Option (List ℕ))
        (verdict : Option Verdict) → Waits first
        → IsCall disk_of old (call_on side frame) first waiting → IsCall disk_of filled (call_on side frame) reply new
        → Settles reply passed
        → verdict ≡ verdict_of reply → IsJudged disk_of old (call_on side frame) passed verdict new
    settled_again side frame first reply passed verdict waits one two settles noted = (
      record {
        turns = record { call = call_on side frame; reply = first; after = waiting }
            ∷ record { call = Refills; reply = Refilled (Ok tt); after = filled }
            ∷ record { call = call_on side frame; reply = reply; after = new } ∷ [];
        lives = (sound_old, one, (sound_waiting, refills, (sound_filled, two, refl)));
        reply = reply;
        handed = (refl, waits, refl, refl, refl, refl);
        settles = settles;
        step = settled_step side frame first reply passed waits one two settles;
      },
      noted,
    )

    -- it does not wait again
    waits_once : (side : Side) (frame : List ℕ) (first reply : Reply) → Waits first → Waits reply
        → IsCall disk_of old (call_on side frame) first waiting
        → IsCall disk_of filled (call_on side frame) reply new → ⊥
    waits_once Controlled frame first reply waits again one two = elim (waits_how first waits) [
      | inl no_number ↦ elim (waits_how reply again) [
        | inl no_number' ↦ protect_numbered frame no_number.0
            (subst (λ (r : Reply). IsCall disk_of old (Protects frame) r waiting) no_number.1 one)
            no_number'.0 (subst (λ (r : Reply). IsCall disk_of filled (Protects frame) r new) no_number'.1 two)
        | inr held_back ↦ elim ((subst (λ (r : Reply). IsCall disk_of filled (Protects frame) r new) held_back.1
            two).behaves.step no_logs).1 [
              | inl stopped ↦ stopped.1
              | inr ran ↦ ran.1
            ]
      ]
      | inr held_back ↦ other_side frame held_back.0
          (subst (λ (r : Reply). IsCall disk_of old (Protects frame) r waiting) held_back.1 one)
    ]
    waits_once Common frame first reply waits again one two = elim (waits_how first waits) [
      | inl no_number ↦ wrong_side frame no_number.0
          (subst (λ (r : Reply). IsCall disk_of old (Receives frame) r waiting) no_number.1 one)
      | inr held_back ↦ elim (waits_how reply again) [
        | inl no_number ↦ elim ((subst (λ (r : Reply). IsCall disk_of filled (Receives frame) r new) no_number.1
            two).behaves.step no_logs).1 [
              | inl stopped ↦ stopped.1
              | inr ran ↦ ran.1
            ]
        | inr held_back' ↦ receive_below frame held_back.0
            (subst (λ (r : Reply). IsCall disk_of old (Receives frame) r waiting) held_back.1 one)
            held_back'.0 (subst (λ (r : Reply). IsCall disk_of filled (Receives frame) r new) held_back'.1 two)
      ]
    ]

    -- and is not answered that the endpoint is stopped
    not_stopped : (side : Side) (frame : List ℕ) (reply : Reply) → IsStopped (call_on side frame) reply
        → IsCall disk_of filled (call_on side frame) reply new → ⊥
    not_stopped Controlled frame reply is call = elim (call.behaves.step no_logs).1 [
      | inl stopped ↦ (let running = runs no_logs in let s = stopped.0 in cc)
      | inr ran ↦ never reply is ran.1
    ] where
      never : (r : Reply) → IsStopped (Protects frame) r
          → RunningStep (state_of filled no_logs) (Protects frame) r (state_of new (call.behaves.step no_logs).0) → ⊥
      never (Protected (Err protect.Stopped) out) s run = run
      never (Protected (Ok pn) out) s run = s
      never (Protected (Err (protect.Tx f)) out) s run = s
      never (Received result out) s run = s
      never (Ran result) s run = s
      never (Refilled result) s run = s
      never (Rested result) s run = s
      never (Submitted result) s run = s
      never (Advanced result) s run = s
      never RefusedLong s run = s
      never (AdvancedLong ticket) s run = s
    not_stopped Common frame reply is call = elim (call.behaves.step no_logs).1 [
      | inl stopped ↦ (let running = runs no_logs in let s = stopped.0 in cc)
      | inr ran ↦ never reply is ran.1
    ] where
      never : (r : Reply) → IsStopped (Receives frame) r
          → RunningStep (state_of filled no_logs) (Receives frame) r (state_of new (call.behaves.step no_logs).0) → ⊥
      never (Received (Err stopped) out) s run = run
      never (Received (Ok verdict) out) s run = s
      never (Protected result out) s run = s
      never (Ran result) s run = s
      never (Refilled result) s run = s
      never (Rested result) s run = s
      never (Submitted result) s run = s
      never (Advanced result) s run = s
      never RefusedLong s run = s
      never (AdvancedLong ticket) s run = s

    -- so where nothing passes now the frame is left out
    pub dropped_again : (side : Side) (frame : List ℕ) (first : Reply) (out : List ℕ) (what : Outcome)
        (verdict : Option Verdict) → Waits first
        → IsCall disk_of old (call_on side frame) first waiting
        → (reply : Reply) × IsCall disk_of filled (call_on side frame) reply new
        × Means (call_on side frame) reply out what
        × (verdict ≡ verdict_of reply)
        → (what ≡ outcome.Dropped) ⊎ (what ≡ outcome.Waiting) ⊎ (what ≡ outcome.Stopped)
        → IsJudged disk_of old (call_on side frame) None verdict new
    dropped_again side frame first out what verdict waits one (reply, two, means, noted) (inl is) =
        settled_again side frame first reply None verdict waits one two
        (subst (λ (w : Outcome). Means (call_on side frame) reply out w) is means) noted
    dropped_again side frame first out what verdict waits one (reply, two, means, noted) (inr (inl is)) =
        absurd (waits_once side frame first reply waits
        (subst (λ (w : Outcome). Means (call_on side frame) reply out w) is means) one two)
    dropped_again side frame first out what verdict waits one (reply, two, means, noted) (inr (inr is)) =
        absurd (not_stopped side frame reply
        (subst (λ (w : Outcome). Means (call_on side frame) reply out w) is means) two)

-- an answer settles the frame, unless it waits
pub ended : {D : Type 0} (disk_of : D → Disk) (old new : EndpointValue D) (call : Call) (out : List ℕ) (what : Outcome)
    (verdict : Option Verdict)
    → what ≢ outcome.Waiting → IsSoundEndpoint old
    → (reply : Reply) × IsCall disk_of old call reply new × Means call reply out what × (verdict ≡ verdict_of reply)
    → IfOk (ending_of what) (λ passes. IsJudged disk_of old call (cond passes (Some out) None) verdict new)
ended disk_of old new call out outcome.Passed verdict moves sound (reply, is, settles, noted) =
    at_once disk_of old new call reply (Some out) verdict sound is settles noted
ended disk_of old new call out outcome.Dropped verdict moves sound (reply, is, settles, noted) =
    at_once disk_of old new call reply None verdict sound is settles noted
ended disk_of old new call out outcome.Waiting verdict moves sound answered = absurd (moves refl)
ended disk_of old new call out outcome.Stopped verdict moves sound answered = tt

-- what is handed in again is settled
settled-behind : {D : Type 0} (disk_of : D → Disk) (old waiting filled new : EndpointValue D) (side : Side)
    (frame out : List ℕ) (verdict : Option Verdict)
    (first reply : Reply) (what : Outcome) → IsSoundEndpoint old → IsCall disk_of old (call_on side frame) first waiting
    → Waits first
    → IsSoundEndpoint waiting → IsCall disk_of waiting Refills (Refilled (Ok tt)) filled
    → IsSoundEndpoint filled → IsCall disk_of filled (call_on side frame) reply new
    → Means (call_on side frame) reply out what
    → verdict ≡ verdict_of reply
    → IsJudged disk_of old (call_on side frame) (cond (is_passed what) (Some out) None) verdict new
settled-behind disk_of old waiting filled new side frame out verdict first reply outcome.Passed sound one waits
    sound_waiting refills sound_filled two settles noted =
    settled_again disk_of old waiting filled new sound sound_waiting sound_filled refills side frame first reply
    (Some out) verdict waits one two settles noted
settled-behind disk_of old waiting filled new side frame out verdict first reply outcome.Dropped sound one waits
    sound_waiting refills sound_filled two means noted =
    dropped_again disk_of old waiting filled new sound sound_waiting sound_filled refills side frame first out
    outcome.Dropped verdict waits one
    (reply, two, means, noted) (inl refl)
settled-behind disk_of old waiting filled new side frame out verdict first reply outcome.Waiting sound one waits
    sound_waiting refills sound_filled two means noted =
    dropped_again disk_of old waiting filled new sound sound_waiting sound_filled refills side frame first out
    outcome.Waiting verdict waits one
    (reply, two, means, noted) (inr (inl refl))
settled-behind disk_of old waiting filled new side frame out verdict first reply outcome.Stopped sound one waits
    sound_waiting refills sound_filled two means noted =
    dropped_again disk_of old waiting filled new sound sound_waiting sound_filled refills side frame first out
    outcome.Stopped verdict waits one
    (reply, two, means, noted) (inr (inr refl))

-- and so where the refill was made
pub settled-at_last : {D : Type 0} (disk_of : D → Disk) (old waiting new : EndpointValue D) (side : Side)
    (frame out : List ℕ) (verdict : Option Verdict)
    (first : Reply) (result : Result Bool RefillFault) → IsSoundEndpoint old
    → IsCall disk_of old (call_on side frame) first waiting → Waits first
    → HandsInAgain disk_of waiting (call_on side frame) result out verdict new
    → IfOk result (λ passes. IsJudged disk_of old (call_on side frame) (cond passes (Some out) None) verdict new)
settled-at_last disk_of old waiting new side frame out verdict first (Err fault) sound one waits again = tt
settled-at_last disk_of old waiting new side frame out verdict first (Ok passes) sound one waits
    (what, filled, reply, is, sound_waiting, refills, sound_filled, two, means, noted) =
    rw is (settled-behind disk_of old waiting filled new side frame out verdict first reply what sound one waits
    sound_waiting refills sound_filled two means noted)
