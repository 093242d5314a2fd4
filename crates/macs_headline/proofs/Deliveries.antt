-- Frames that are delivered as verified.
use Rattle.std.proofs.Common.{◌≡◌, ◌≤◌, ◌+◌, inl, inr, ℕ, Bool, true, false, cond, List, ◌∷◌, Ok, Err, refl, sym, ◌∙◌}
use Rattle.std.proofs.Common.{ap, subst}
use Rattle.macs_fields.specs.Fields.{octets_of}
use Rattle.macs_frame.specs.Opening.{Verified}
use Rattle.macs_frame.proofs.Readings.{verified_once}
use Rattle.macs_frame.specs.Tag.{changed, control, tag_of}
use Rattle.macs_frame.specs.declared.tag.TagFault.TheVariants.{Runt as IsRunt, Oversize as IsOversize}
use Rattle.macs_frame.specs.declared.tag.TagFault.TheVariants.{NoTag as HasNoTag, BadTag as HasBadTag}
use Rattle.macs_frame.specs.declared.tag.TagFault.TheVariants.{ForKay as IsForKay}
use Rattle.std.specs.Prelude.{◌||◌, ◌-◌, max, nat_lt, Option, Some, None}
use Rattle.std.proofs.lemmas.Bool.{ltb-false, ltb-true}
use Rattle.macs_rxsc.specs.Receive.{BelowLowest, NoAssociation, NoChannel, NotVerified, Numbers, RxSide, RxStep, Tag}
use Rattle.macs_rxsc.specs.Receive.{delivery_kind, given_at, is_strict, numbers_after_delivery, seen_after, verdict_at}
use Rattle.macs_rxsc.specs.declared.verdict.Kind.{Kind}
use Rattle.macs_rxsc.specs.declared.verdict.Kind.TheVariants.{Delayed, Ok as AsOk, Invalid, UnknownSci, Untagged}
use Rattle.macs_rxsc.specs.declared.verdict.Kind.TheVariants.{UnusedSa}
use Rattle.macs_rxsc.specs.declared.verdict.Reason.{Reason}
use Rattle.macs_rxsc.specs.declared.verdict.Reason.TheVariants.{NoSci, NoTag, NotUsingSa, NotValid}
use Rattle.macs_rxsc.specs.declared.verdict.Verdict.{Verdict}
use Rattle.macs_rxsc.specs.declared.verdict.Verdict.TheVariants.{Delivered, Discarded, HeldBack}
use Rattle.macs_endpoint.specs.State.{Received, Receives, State, rx_side}
use Rattle.macs_endpoint.specs.Step.{Step}
use Rattle.macs_headline.specs.Deliveries.{DeliveriesAreVerified, IsInTime, IsVerifiedAnswer, IsVerifiedDelivery}
use Rattle.macs_headline.specs.Deliveries.{IsVerifiedKind, OthersAreBare, greatest_seen, numbers_moved, out_after}
use Rattle.macs_headline.proofs.Effects.{arrives-in-time}
use Rattle.macs_headline.proofs.Places.{put_rx-this}

unverified : (b : Bool) (reason : Reason) (kind other : Kind) → IsVerifiedKind kind → (IsVerifiedKind other → ⊥)
    → Delivered kind ≡ cond b (Discarded reason) (Delivered other) → ⊥
unverified true reason kind other is never same = absurd (cc)
unverified false reason kind other is never same = let one : kind ≡ other = cc in never (subst IsVerifiedKind one is)

pub settled : (side : RxSide) (frame : List ℕ) (step : RxStep) (kind : Kind) → IsVerifiedKind kind
    → Delivered kind ≡ verdict_at side frame step → ⊥
settled side frame (Tag IsRunt) kind is same = absurd (cc)
settled side frame (Tag IsOversize) kind is same = absurd (cc)
settled side frame (Tag HasNoTag) kind is same =
    unverified (is_strict side.validate) NoTag kind Untagged is (λ h. h) same
settled side frame (Tag HasBadTag) kind is same = absurd (cc)
settled side frame (Tag IsForKay) kind is same = absurd (cc)
settled side frame NoChannel kind is same =
    unverified (is_strict side.validate || changed (control frame)) NoSci kind UnknownSci is (λ h. h) same
settled side frame NoAssociation kind is same =
    unverified (is_strict side.validate || changed (control frame)) NotUsingSa kind UnusedSa is (λ h. h) same
settled side frame BelowLowest kind is same = absurd (cc)
settled side frame NotVerified kind is same =
    unverified (is_strict side.validate || changed (control frame)) NotValid kind Invalid is (λ h. h) same

-- when it is in time, and what it moves, in the law's words
in_time_by : (late : Bool) (pn lowest : ℕ) → nat_lt pn lowest ≡ late → IsInTime lowest pn (cond late Delayed AsOk)
in_time_by true pn lowest is = inl (ltb-true pn lowest is, refl)
in_time_by false pn lowest is = inr (ltb-false pn lowest is, refl)

in-time : (n : Numbers) (pn : ℕ) → IsInTime n.lowest pn (delivery_kind n pn)
in-time n pn = in_time_by (nat_lt pn n.lowest) pn n.lowest refl

seen_on : (seen : Option ℕ) (pn : ℕ) → seen_after seen pn ≡ Some (greatest_seen seen pn)
seen_on None pn = refl
seen_on (Some seen) pn = refl

numbers-moved : (window : ℕ) (n : Numbers) (pn : ℕ) → numbers_after_delivery window n pn ≡ numbers_moved window n pn
numbers-moved window n pn =
    λ i. record {
      next = max n.next (pn + 1);
      lowest = max n.lowest (max n.next (pn + 1) - window);
      seen =
          seen_on n.seen pn i;
    }

-- one call
pub delivered : (s : State) (frame out : List ℕ) (kind : Kind) (new : State) → IsVerifiedKind kind
    → Step s (Receives frame) (Received (Ok (Delivered kind)) out) new → IsVerifiedDelivery s frame kind out new
delivered s frame out kind new is (inl (stopped, answer, same)) = absurd answer
delivered s frame out kind new is (inr (running, inl (step, first, is_verdict, is_out, same))) =
    absurd (settled (rx_side s) frame step kind is is_verdict)
delivered s frame out kind new is (inr (running, inr (a, there, inl (is_verdict, above, is_out, same)))) = absurd (cc)
delivered s frame out kind new is (inr (running, inr (a, there, inr (is_verdict, is_out, same)))) =
    let one : delivery_kind a.numbers a.pn ≡ kind = cc in
    record {
      sci = a.sci;
      sa = a.sa;
      named = there.is_channel;
      association = ap (s.config.rx a.sci) (sym there.is_an) ∙ there.is_association;
      numbers = a.numbers;
      are_numbers = ap (s.numbers a.sci) (sym there.is_an) ∙ there.are_numbers;
      in_time = subst (λ (pn : ℕ). IsInTime a.numbers.lowest pn kind) there.is_pn
          (subst (IsInTime a.numbers.lowest a.pn) one (in-time a.numbers a.pn));
      guarded =
          λ on. subst (λ (pn : ℕ). a.numbers.lowest ≤ pn) there.is_pn (arrives-in-time (rx_side s) frame a there on);
      verified = subst (Verified frame a.sa.key a.sci (octets_of a.sa.offset)) (sym is_out) there.verified;
      only = λ other verified. verified_once frame a.sa.key a.sci (octets_of a.sa.offset) other out verified
          (subst (Verified frame a.sa.key a.sci (octets_of a.sa.offset)) (sym is_out) there.verified);
      moved = ap (λ (t : State). t.numbers a.sci (tag_of frame).an) same
          ∙ put_rx-this s.numbers a.sci a.an a.sci (tag_of frame).an
          (Some (numbers_after_delivery s.config.replay.window a.numbers a.pn)) refl (sym there.is_an)
          ∙ ap (λ (pn : ℕ). Some (numbers_after_delivery s.config.replay.window a.numbers pn)) there.is_pn
          ∙ ap (λ (n : Numbers). Some n) (numbers-moved s.config.replay.window a.numbers (tag_of frame).pn);
      logged = ap (λ (t : State). t.logs.given) same
          ∙ (λ i. record { sci = a.sci; key = a.sa.key; pn = there.is_pn i; kind = one i } ∷ s.logs.given);
    }

pub deliveries-are-verified : (sectors : ℕ) → DeliveriesAreVerified sectors
deliveries-are-verified sectors s m frame out (Delivered kind) new is step =
    (kind, refl, delivered s frame out kind new is step)
deliveries-are-verified sectors s m frame out (Discarded reason) new is step = absurd is
deliveries-are-verified sectors s m frame out HeldBack new is step = absurd is

-- ---- the other answers

pub verified-kind : (late : Bool) → IsVerifiedKind (cond late Delayed AsOk)
verified-kind true = tt
verified-kind false = tt

bare : (frame : List ℕ) (verdict : Verdict) → ¬ IsVerifiedAnswer (Ok verdict)
    → given_at frame verdict ≡ out_after frame (Ok verdict)
bare frame (Delivered AsOk) other = absurd (other tt)
bare frame (Delivered Delayed) other = absurd (other tt)
bare frame (Delivered Untagged) other = refl
bare frame (Delivered UnknownSci) other = refl
bare frame (Delivered UnusedSa) other = refl
bare frame (Delivered Invalid) other = refl
bare frame (Discarded reason) other = refl
bare frame HeldBack other = refl

pub others-are-bare : (sectors : ℕ) → OthersAreBare sectors
others-are-bare sectors s m frame out (Ok verdict) new other (inl (stopped, answer, same)) = absurd answer
others-are-bare sectors s m frame out (Ok verdict) new other
    (inr (running, inl (step, first, is_verdict, is_out, same))) =
    (is_out ∙ bare frame verdict other, ap (λ (t : State). t.logs) same)
others-are-bare sectors s m frame out (Ok verdict) new other
    (inr (running, inr (a, there, inl (is_verdict, above, is_out, same)))) =
    (is_out ∙ sym (ap (λ (v : Verdict). out_after frame (Ok v)) is_verdict), ap (λ (t : State). t.logs) same)
others-are-bare sectors s m frame out (Ok verdict) new other
    (inr (running, inr (a, there, inr (is_verdict, is_out, same)))) =
    absurd (other (subst (λ (v : Verdict). IsVerifiedAnswer (Ok v)) (sym is_verdict)
    (verified-kind (nat_lt a.pn a.numbers.lowest))))
others-are-bare sectors s m frame out (Err stopped) new other (inl (is_stopped, empty, same)) =
    (empty, ap (λ (t : State). t.logs) same)
others-are-bare sectors s m frame out (Err stopped) new other (inr (running, answer)) = absurd answer
