-- What becomes of a frame: the steps in their order, and what they say once the parts of the frame are read.
use Rattle.std.proofs.Common.{◌≡◌, ◌∙◌, ◌<◌, ◌⊎◌, ℕ, Bool, true, false, cond, List, [], ◌∷◌, Option, Some, None, IsSome}
use Rattle.std.proofs.Common.{inl, inr, refl, ap, sym, subst, arith}
use Rattle.std.specs.Prelude.{◌&&◌, ◌||◌, IsSomeAnd, nat_lt}
use Rattle.std.specs.Option.{option_and_then}
use Rattle.std.proofs.lemmas.Bool.{cases_lt}
use Rattle.std.proofs.lemmas.Bool.Decides.{nat_tests}
use Rattle.macs_config.specs.Tables.{put_at}
use Rattle.macs_config.specs.declared.association.RxSa.{RxSa}
use Rattle.macs_fields.specs.Fields.{octets_of}
use Rattle.macs_fields.specs.First.{IsFirst}
use Rattle.macs_frame.specs.Opening.{Verified, bare_frame}
use Rattle.macs_frame.specs.Tag.{IsForKay, Tag, TagFaultHolds, changed, control, tag_faults, tag_of}
use Rattle.macs_frame.specs.declared.tag.Parts.{Parts}
use Rattle.macs_frame.specs.declared.tag.TagFault.{TagFault}
use Rattle.macs_fields.proofs.FirstRefusal.{first-map-append, first-behind, none-map-append, first-once, none-first}
use Rattle.macs_frame.proofs.Decisions.{read_or_refused, verified_or_not}
use Rattle.macs_frame.proofs.OpenFaults.{no_tag_fault}
use Rattle.macs_frame.proofs.Readings.{verified_once}
use Rattle.macs_rxsc.specs.Receive.{AreNumbered, Arrival, Arrives, RxStepHolds, Numbers, Outcome, IsOutcome, RxSide}
use Rattle.macs_rxsc.specs.Receive.{RxStep, Tag as TagStep, NoChannel, NoAssociation, BelowLowest, NotVerified}
use Rattle.macs_rxsc.specs.Receive.{VerifiesAs, numbers_after_delivery, arrival_outcome, association_of, channel_of}
use Rattle.macs_rxsc.specs.Receive.{given_at, numbers_after_hold, is_strict, delivery_kind, numbers_of, put_numbers}
use Rattle.macs_rxsc.specs.Receive.{settled_outcome, rx_steps, verdict_unless_checked, verdict_at}
use Rattle.macs_config.specs.declared.command.Validate.{Validate}
use Rattle.macs_rxsc.specs.declared.verdict.Kind.{Kind}
use Rattle.macs_rxsc.specs.declared.verdict.Reason.{Reason}
use Rattle.macs_rxsc.specs.declared.verdict.Verdict.{Verdict}
use Rattle.macs_rxsc.specs.declared.verdict.Verdict.TheVariants.{Delivered, Discarded, HeldBack}
use Rattle.macs_config.proofs.Tables.{put-same, put_at-same}

-- the steps after those of the tag
abbrev pub later_steps : List RxStep
later_steps = NoChannel ∷ NoAssociation ∷ BelowLowest ∷ NotVerified ∷ []

-- a frame that is discarded gives nothing, one that is delivered without having verified its bare octets
pub bare_given : (b : Bool) (frame : List ℕ) (reason : Reason) (kind : Kind)
    → given_at frame (Delivered kind) ≡ bare_frame frame
    → cond b [] (bare_frame frame) ≡ given_at frame (cond b (Discarded reason) (Delivered kind))
bare_given true frame reason kind is = refl
bare_given false frame reason kind is = sym is

-- a frame is settled by the first step that holds
pub settles : (side : RxSide) (ceilings : List ℕ → ℕ → Option ℕ) (frame : List ℕ) (step : RxStep)
    → IsFirst (RxStepHolds side frame) rx_steps step
    → (verdict : Verdict) (given : List ℕ) (numbers : List ℕ → ℕ → Option Numbers)
    → verdict ≡ verdict_at side frame step → given ≡ given_at frame (verdict_at side frame step)
    → numbers ≡ side.numbers
    → IsOutcome side ceilings frame (record { verdict = verdict; given = given; numbers = numbers })
settles side ceilings frame step first verdict given numbers v g n =
    let same : ◌≡◌ {A = Outcome} (record { verdict = verdict; given = given; numbers = numbers })
    (settled_outcome side frame step) =
    λ i. record { verdict = v i; given = g i; numbers = n i } in
    inl (step, first, same)

pub first_fault : (side : RxSide) (frame : List ℕ) (fault : TagFault) → IsFirst (TagFaultHolds frame) tag_faults fault
    → IsFirst (RxStepHolds side frame) rx_steps (TagStep fault)
first_fault side frame fault first =
    first-map-append (RxStepHolds side frame) TagStep tag_faults later_steps fault first

-- ---- once the parts are read

module _ (side : RxSide) (frame : List ℕ) (parts : Parts) (read : Tag frame parts × (¬ IsForKay frame)) where
  behind_tag : (step : RxStep) → IsFirst (RxStepHolds side frame) later_steps step
      → IsFirst (RxStepHolds side frame) rx_steps step
  behind_tag step first =
      first-behind (RxStepHolds side frame) TagStep tag_faults later_steps step (no_tag_fault frame parts read) first

  pub first_no_channel : channel_of side frame ≡ None → IsFirst (RxStepHolds side frame) rx_steps NoChannel
  first_no_channel none = behind_tag NoChannel (inl (none, refl))

  module _ (sci : List ℕ) (is_channel : channel_of side frame ≡ Some sci) where
    some_channel : ¬ (channel_of side frame ≡ None)
    some_channel none = absurd (cc)

    pub association_is : association_of side frame ≡ side.rx sci (tag_of frame).an
    association_is = ap (option_and_then (λ (s : List ℕ). side.rx s (tag_of frame).an)) is_channel

    pub numbers_are : numbers_of side frame ≡ side.numbers sci (tag_of frame).an
    numbers_are = ap (option_and_then (λ (s : List ℕ). side.numbers s (tag_of frame).an)) is_channel

    pub first_no_association : side.rx sci (tag_of frame).an ≡ None
        → IsFirst (RxStepHolds side frame) rx_steps NoAssociation
    first_no_association none = behind_tag NoAssociation (inr (some_channel, inl (association_is ∙ none, refl)))

    module _ (sa : RxSa) (numbers : Numbers) (is_association : side.rx sci (tag_of frame).an ≡ Some sa)
        (are_numbers : side.numbers sci (tag_of frame).an ≡ Some numbers) where
      some_association : ¬ (association_of side frame ≡ None)
      some_association none = let is : association_of side frame ≡ Some sa = association_is ∙ is_association in
          absurd (cc)

      pub first_late : side.replay.on ≡ true → (tag_of frame).pn < numbers.lowest
          → IsFirst (RxStepHolds side frame) rx_steps BelowLowest
      first_late on late =
          let holds : RxStepHolds side frame BelowLowest = (
            on,
            subst (λ n.
                IsSomeAnd n (λ (m : Numbers). (tag_of frame).pn < m.lowest)) (sym (numbers_are ∙ are_numbers)) late,
          ) in
          behind_tag BelowLowest (inr (some_channel, inr (some_association, inl (holds, refl))))

      -- the frame is not late
      module _ (in_time : side.replay.on ≡ true → ¬ ((tag_of frame).pn < numbers.lowest)) where
        not_late : ¬ RxStepHolds side frame BelowLowest
        not_late holds = in_time holds.0 (subst (λ n. IsSomeAnd n (λ (m : Numbers). (tag_of frame).pn < m.lowest))
            (numbers_are ∙ are_numbers) holds.1)

        pub first_not_verified : ((plain : List ℕ) → ¬ Verified frame sa.key sci (octets_of sa.offset) plain)
            → IsFirst (RxStepHolds side frame) rx_steps NotVerified
        first_not_verified closed =
            let holds : RxStepHolds side frame NotVerified = λ plain found.
            let same_sci : found.sci ≡ sci = let f = found.is_channel in cc in
            let same_sa : found.sa ≡ sa = let f = found.is_association in
            let g : association_of side frame ≡ Some sa = association_is ∙ is_association in cc in
            let under_sci = subst (λ (x : List ℕ). Verified frame found.sa.key x (octets_of found.sa.offset) plain)
            same_sci found.verified in
            closed plain
            (subst (λ (x : RxSa). Verified frame x.key sci (octets_of x.offset) plain) same_sa under_sci) in
            behind_tag NotVerified (inr (some_channel, inr (some_association, inr (not_late, inl (holds, refl)))))

        abbrev pub arrival : List ℕ → Arrival
        arrival plain = record {
          sci = sci;
          an = (tag_of frame).an;
          pn = (tag_of frame).pn;
          sa = sa;
          numbers = numbers;
          plain = plain;
        }

        pub arrives : (plain : List ℕ) → Verified frame sa.key sci (octets_of sa.offset) plain
            → Arrives side frame (arrival plain)
        arrives plain verified =
            let found : VerifiesAs side frame plain =
            record {
              sci = sci;
              sa = sa;
              is_channel = is_channel;
              is_association = association_is ∙ is_association;
              verified = verified;
            } in
            record {
              unsettled = none-map-append (RxStepHolds side frame) TagStep tag_faults later_steps
                  (no_tag_fault frame parts read)
                  (some_channel, (some_association, (not_late, ((λ wrong. wrong plain found), tt))));
              is_channel = is_channel;
              is_an = refl;
              is_pn = refl;
              is_association = is_association;
              are_numbers = are_numbers;
              verified = verified;
            }

-- ---- arrivals

arrival_by : (side : RxSide) (a : Arrival) (ceiling : Option ℕ) (c : ℕ) (b : Bool) → ceiling ≡ Some c
    → nat_lt a.pn c ≡ b
    → (verdict : Verdict) (given : List ℕ) (numbers : List ℕ → ℕ → Option Numbers)
    → verdict ≡ cond b (Delivered (delivery_kind a.numbers a.pn)) HeldBack → given ≡ cond b a.plain []
    → numbers ≡ put_numbers side.numbers a.sci a.an
    (Some (cond b (numbers_after_delivery side.replay.window a.numbers a.pn) (numbers_after_hold a.numbers a.pn)))
    → (ceilings : List ℕ → ℕ → Option ℕ) → ceilings a.sci a.an ≡ ceiling
    → ◌≡◌ {A = Outcome} (record { verdict = verdict; given = given; numbers = numbers })
    (arrival_outcome side ceilings a)
arrival_by side a ceiling c true is lt verdict given numbers v g n ceilings at =
    rw (at, is, lt) (λ i. record { verdict = v i; given = g i; numbers = n i })
arrival_by side a ceiling c false is lt verdict given numbers v g n ceilings at =
    rw (at, is, lt) (λ i. record { verdict = v i; given = g i; numbers = n i })

-- an arrival is delivered below its ceiling, and else held back
pub arrives_as : (side : RxSide) (ceilings : List ℕ → ℕ → Option ℕ) (frame : List ℕ) (a : Arrival) (c : ℕ) (b : Bool)
    → Arrives side frame a
    → ceilings a.sci a.an ≡ Some c → nat_lt a.pn c ≡ b
    → (verdict : Verdict) (given : List ℕ) (numbers : List ℕ → ℕ → Option Numbers)
    → verdict ≡ cond b (Delivered (delivery_kind a.numbers a.pn)) HeldBack → given ≡ cond b a.plain []
    → numbers ≡ put_numbers side.numbers a.sci a.an
    (Some (cond b (numbers_after_delivery side.replay.window a.numbers a.pn) (numbers_after_hold a.numbers a.pn)))
    → IsOutcome side ceilings frame (record { verdict = verdict; given = given; numbers = numbers })
arrives_as side ceilings frame a c b arrives at lt verdict given numbers v g n =
    inr (a, arrives, arrival_by side a (Some c) c b refl lt verdict given numbers v g n ceilings at)

-- the kind of an arrival says whether it was below the ceiling
pub is_delivered : (b : Bool) (k kind : Kind) → ◌≡◌ {A = Option Kind} (Some kind) (cond b (Some k) None)
    → (b ≡ true) × (kind ≡ k)
is_delivered true k kind is = (refl, cc)
is_delivered false k kind is = absurd (cc)

pub is_held : (b : Bool) (k : Kind) → ◌≡◌ {A = Option Kind} None (cond b (Some k) None) → b ≡ false
is_held true k is = absurd (cc)
is_held false k is = refl

-- what is not verified is discarded, or delivered without SecTAG and ICV
pub settles_bare : (side : RxSide) (ceilings : List ℕ → ℕ → Option ℕ) (frame : List ℕ) (step : RxStep) (reason : Reason)
    (kind : Kind) (validate : Validate)
    → IsFirst (RxStepHolds side frame) rx_steps step → verdict_at side frame step
    ≡ verdict_unless_checked side frame reason kind → given_at frame (Delivered kind) ≡ bare_frame frame
    → side.validate ≡ validate → (verdict : Verdict) (given : List ℕ) (numbers : List ℕ → ℕ → Option Numbers)
    → verdict ≡ cond (is_strict validate || changed (control frame)) (Discarded reason) (Delivered kind)
    → given ≡ cond (is_strict validate || changed (control frame)) [] (bare_frame frame) → numbers ≡ side.numbers
    → IsOutcome side ceilings frame (record { verdict = verdict; given = given; numbers = numbers })
settles_bare side ceilings frame step reason kind validate first is_step is_bare is_validate verdict given
    numbers v g n =
    let as_side : cond (is_strict validate || changed (control frame)) (Discarded reason) (Delivered kind)
    ≡ verdict_at side frame step =
    ap (λ (x : Validate). cond (is_strict x || changed (control frame)) (Discarded reason) (Delivered kind))
    (sym is_validate) ∙ sym is_step in
    settles side ceilings frame step first verdict given numbers (v ∙ as_side)
    (g ∙ bare_given (is_strict validate || changed (control frame)) frame reason kind is_bare
    ∙ ap (given_at frame) as_side) n

-- numbers that stay
pub put_numbers-same : (f : List ℕ → ℕ → Option Numbers) (sci : List ℕ) (an : ℕ) (x : Option Numbers) → f sci an ≡ x
    → put_numbers f sci an x ≡ f
put_numbers-same f sci an x is = ap (put_at f sci) (put-same (f sci) an x is) ∙ put_at-same f sci (f sci) refl

pub in_time_by : (on : Bool) (pn lowest : ℕ) → (on && nat_lt pn lowest) ≡ false → on ≡ true → ¬ (pn < lowest)
in_time_by true pn lowest fails is late = let below : nat_lt pn lowest ≡ true = grind (arith, nat_tests) in absurd (cc)
in_time_by false pn lowest fails is late = absurd (cc)

-- ---- laws

abbrev Settled : RxSide → List ℕ → Type 0
Settled side frame = ((step : RxStep) × IsFirst (RxStepHolds side frame) rx_steps step)
    ⊎ ((a : Arrival) × Arrives side frame a)

module _ (side : RxSide) (frame : List ℕ) (numbered : AreNumbered side) (parts : Parts)
    (read : Tag frame parts × (¬ IsForKay frame)) where
  at_end : (sci : List ℕ) (is : channel_of side frame ≡ Some sci) (sa : RxSa) (numbers : Numbers)
      → side.rx sci (tag_of frame).an ≡ Some sa → side.numbers sci (tag_of frame).an ≡ Some numbers
      → (side.replay.on ≡ true → ¬ ((tag_of frame).pn < numbers.lowest)) → Settled side frame
  at_end sci is sa numbers rx are in_time = elim (verified_or_not frame sa.key sci (octets_of sa.offset)) [
    | inl verified ↦ inr (_, arrives side frame parts read sci is sa numbers rx are in_time verified.0 verified.1)
    | inr closed ↦ inl (NotVerified, first_not_verified side frame parts read sci is sa numbers rx are in_time closed)
  ]

  at_numbers : (sci : List ℕ) (is : channel_of side frame ≡ Some sci) (sa : RxSa) (numbers : Option Numbers)
      → side.rx sci (tag_of frame).an ≡ Some sa → side.numbers sci (tag_of frame).an ≡ numbers
      → (on : Bool) → side.replay.on ≡ on → Settled side frame
  at_numbers sci is sa None rx are on is_on =
      let some : IsSome (side.numbers sci (tag_of frame).an) =
      numbered sci (tag_of frame).an (subst IsSome (sym rx) refl) in
      let gone : IsSome {T = Numbers} None = subst IsSome are some in
      absurd (cc)
  at_numbers sci is sa (Some numbers) rx are false is_on = at_end sci is sa numbers rx are (λ yes. absurd (cc))
  at_numbers sci is sa (Some numbers) rx are true is_on = elim (cases_lt (tag_of frame).pn numbers.lowest) [
    | inl late ↦ inl (BelowLowest, first_late side frame parts read sci is sa numbers rx are is_on late)
    | inr not ↦ at_end sci is sa numbers rx are (λ yes late. omega arith)
  ]

  at_association : (sci : List ℕ) (is : channel_of side frame ≡ Some sci) (sa : Option RxSa)
      → side.rx sci (tag_of frame).an ≡ sa → Settled side frame
  at_association sci is None rx = inl (NoAssociation, first_no_association side frame parts read sci is rx)
  at_association sci is (Some sa) rx = at_numbers sci is sa _ rx refl _ refl

  at_channel : (sci : Option (List ℕ)) → channel_of side frame ≡ sci → Settled side frame
  at_channel None is = inl (NoChannel, first_no_channel side frame parts read is)
  at_channel (Some sci) is = at_association sci is _ refl

-- a frame is settled or arrives
pub settled_or_arrives : (side : RxSide) (frame : List ℕ) → AreNumbered side
    → ((step : RxStep) × IsFirst (RxStepHolds side frame) rx_steps step) ⊎ ((a : Arrival) × Arrives side frame a)
settled_or_arrives side frame numbered = elim (read_or_refused frame) [
  | inl read ↦ at_channel side frame numbered read.0 (read.1, read.2) _ refl
  | inr refused ↦ inl (TagStep refused.0, first_fault side frame refused.0 refused.1)
]

-- a frame is one arrival
pub arrives_once : (side : RxSide) (frame : List ℕ) (a b : Arrival) → Arrives side frame a
    → Arrives side frame b → a ≡ b
arrives_once side frame a b x y =
    let p = x.is_channel in
    let q = y.is_channel in
    let sci : a.sci ≡ b.sci = cc in
    let an : a.an ≡ b.an = x.is_an ∙ sym y.is_an in
    let pn : a.pn ≡ b.pn = x.is_pn ∙ sym y.is_pn in
    let rx = x.is_association in
    let rx' = y.is_association in
    let sa : a.sa ≡ b.sa = cc in
    let nu = x.are_numbers in
    let nu' = y.are_numbers in
    let numbers : a.numbers ≡ b.numbers = cc in
    let under_sci =
    subst (λ (s : List ℕ). Verified frame b.sa.key s (octets_of b.sa.offset) b.plain) (sym sci) y.verified in
    let under = subst (λ (s : RxSa). Verified frame s.key a.sci (octets_of s.offset) b.plain) (sym sa) under_sci in
    let plain : a.plain ≡ b.plain =
    verified_once frame a.sa.key a.sci (octets_of a.sa.offset) a.plain b.plain x.verified under in
    λ i. record { sci = sci i; an = an i; pn = pn i; sa = sa i; numbers = numbers i; plain = plain i }

-- a frame has one outcome
pub receives_once : (side : RxSide) (ceilings : List ℕ → ℕ → Option ℕ) (frame : List ℕ) (a b : Outcome)
    → IsOutcome side ceilings frame a → IsOutcome side ceilings frame b → a ≡ b
receives_once side ceilings frame a b (inl x) (inl y) =
    x.2 ∙ ap (settled_outcome side frame) (first-once (RxStepHolds side frame) rx_steps x.0 y.0 x.1 y.1) ∙ sym y.2
receives_once side ceilings frame a b (inl x) (inr y) =
    absurd (none-first (RxStepHolds side frame) rx_steps x.0 y.1.unsettled x.1)
receives_once side ceilings frame a b (inr x) (inl y) =
    absurd (none-first (RxStepHolds side frame) rx_steps y.0 x.1.unsettled y.1)
receives_once side ceilings frame a b (inr x) (inr y) = x.2
    ∙ ap (arrival_outcome side ceilings) (arrives_once side frame x.0 y.0 x.1 y.1) ∙ sym y.2
