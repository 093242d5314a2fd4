-- What is answered of frames is expected, and what an observer then knows is so.
use Rattle.std.proofs.Common.{◌≡◌, ◌≢◌, ◌⊎◌, ◌≤◌, ◌+◌, ◌||◌, bytes_eq, nat_lt, inl, inr, ℕ, Bool, true, false, cond}
use Rattle.std.proofs.Common.{List, [], ◌∷◌, Option, Some, None, Result, Ok, Err, refl, sym, ◌∙◌, ap, subst}
use Rattle.std.specs.Prelude.{Contains, length, slice_index}
use Rattle.std.specs.Option.{option_and_then, option_map}
use Rattle.std.proofs.lemmas.Bool.{cases_eq}
use Rattle.macs_fields.specs.First.{IsFirst as IsFirstOf}
use Rattle.macs_fields.specs.Fields.{octets_of}
use Rattle.macs_frame.specs.Opening.{OpensTo, Verified, named_sci}
use Rattle.macs_frame.specs.Protection.{protected_frame}
use Rattle.macs_frame.specs.Tag.{IsTagged, TagFaultHolds, changed, control, encrypted, end_of, name_of, pn_of, start_of}
use Rattle.macs_frame.specs.Tag.{tag_faults, tag_of}
use Rattle.macs_frame.specs.declared.tag.TagFault.{TagFault}
use Rattle.macs_frame.specs.declared.tag.Parts.{Parts}
use Rattle.macs_frame.specs.declared.tag.ScName.{ScName}
use Rattle.macs_frame.specs.declared.tag.ScName.TheVariants.{EndStation, Explicit, Implicit}
use Rattle.macs_frame.specs.declared.tag.TagFault.TheVariants.{BadTag as HasBadTag, ForKay as IsForKay}
use Rattle.macs_frame.specs.declared.tag.TagFault.TheVariants.{NoTag as HasNoTag, Oversize as IsOversize}
use Rattle.macs_frame.specs.declared.tag.TagFault.TheVariants.{Runt as IsRunt}
use Rattle.macs_frame.proofs.Decisions.{read_or_refused}
use Rattle.macs_config.specs.Association.{is_confidential, offset_of}
use Rattle.macs_config.specs.Config.{Config, is_among}
use Rattle.macs_config.specs.Tables.{put}
use Rattle.macs_config.specs.declared.command.Validate.{Validate}
use Rattle.macs_config.specs.declared.command.Validate.TheVariants.{Check, Strict}
use Rattle.macs_config.proofs.Channels.{same_octets}
use Rattle.macs_txsc.specs.Transmit.{name_in}
use Rattle.macs_rxsc.specs.Receive.{association_of, Arrival, Arrives, BelowLowest, NoAssociation, NoChannel}
use Rattle.macs_rxsc.specs.Receive.{NotVerified, Numbers, RxSide, RxStep, RxStepHolds, Tag, channel_of, delivery_kind}
use Rattle.macs_rxsc.specs.Receive.{given_at, is_strict, numbers_after_delivery, numbers_after_hold, only_one}
use Rattle.macs_rxsc.specs.Receive.{put_numbers, rx_steps, sci_named, standing_channel, verdict_at}
use Rattle.macs_rxsc.specs.declared.verdict.Reason.{Reason}
use Rattle.macs_rxsc.specs.declared.verdict.Reason.TheVariants.{NoSci, NoTag, NotUsingSa, NotValid}
use Rattle.macs_rxsc.specs.declared.verdict.Kind.{Kind}
use Rattle.macs_rxsc.specs.declared.verdict.Kind.TheVariants.{Delayed, Invalid, Ok as AsOk, UnknownSci, Untagged}
use Rattle.macs_rxsc.specs.declared.verdict.Kind.TheVariants.{UnusedSa}
use Rattle.macs_rxsc.specs.declared.verdict.Verdict.{Verdict}
use Rattle.macs_rxsc.specs.declared.verdict.Verdict.TheVariants.{Delivered, Discarded, HeldBack}
use Rattle.macs_endpoint.specs.State.{Delivery, Protected, Protects, Received, Receives, State, Use, rx_side, tx_side}
use Rattle.macs_endpoint.specs.Step.{ProtectStep, ReceiveStep, Step, state_after_delivery, state_after_hold}
use Rattle.macs_endpoint.specs.declared.fault.ProtectFault.{ProtectFault}
use Rattle.macs_endpoint.specs.declared.fault.ProtectFault.TheVariants as protect
use Rattle.macs_endpoint.specs.declared.fault.Stopped.{Stopped}
use Rattle.macs_headline.specs.Deliveries.{IsVerifiedKind}
use Rattle.macs_headline.specs.Frames.{IsStandardFrame}
use Rattle.macs_headline.specs.History.{logs_of}
use Rattle.macs_headline.specs.Moments.{Moment}
use Rattle.macs_headline.specs.Numbers.{HasNoneTwice}
use Rattle.macs_headline.proofs.Deliveries.{settled, verified-kind}
use Rattle.macs_headline.proofs.Effects.{arrives-in-time, core, effect-of, outgoing_is}
use Rattle.macs_headline.proofs.Histories.{sound-moment}
use Rattle.macs_headline.proofs.Ledger.{some_one}
use Rattle.macs_headline.proofs.Lists.{not-twice}
use Rattle.macs_headline.proofs.Numbers.{given-apart, ok-apart}
use Rattle.macs_headline.proofs.Ranges.{frames-are-standard}
use Rattle.macs_headline.proofs.Sound.{sound-effect}
use Rattle.macs_theorem.specs.Shown.{Settings, rx_association, settings_of, tx_association}
use Rattle.macs_theorem.specs.Observer.{IsDelivered, IsGenuine, IsHeldBack, IsNamed, IsSent, IsUnverified, IsVerified}
use Rattle.macs_theorem.specs.Observer.{Observer, WasDelivered}
use Rattle.macs_theorem.proofs.Commands.{Goes, IsFirst, stays}
use Rattle.macs_theorem.proofs.Matches.{AreSpent, Follows, Matches, same-state}

-- ---- frames that go out

-- what such a frame leaves as it was
record LeavesRest (old new : State) : Type 0 where
  identity : new.identity ≡ old.identity
  config : new.config ≡ old.config
  numbers : new.numbers ≡ old.numbers
  waiting : new.waiting ≡ old.waiting
  tickets : new.tickets ≡ old.tickets
  stopped : new.stopped ≡ old.stopped
  under_way : new.under_way ≡ old.under_way
  given : new.logs.given ≡ old.logs.given

sent_rest : (old : State) (plain : List ℕ) (pn : ℕ) (out : List ℕ) (new : State)
    → ProtectStep old plain (Ok pn) out new → LeavesRest old new
sent_rest old plain pn out new (none, (o, is_o, is_pn, is_out, is)) = record {
  identity = ap (λ (s : State). s.identity) is;
  config = ap (λ (s : State). s.config) is;
  numbers = ap (λ (s : State). s.numbers) is;
  waiting = ap (λ (s : State). s.waiting) is;
  tickets = ap (λ (s : State). s.tickets) is;
  stopped = ap (λ (s : State). s.stopped) is;
  under_way = ap (λ (s : State). s.under_way) is;
  given = ap (λ (s : State). s.logs.given) is;
}

sent_next : (old : State) (plain : List ℕ) (pn : ℕ) (out : List ℕ) (new : State)
    → ProtectStep old plain (Ok pn) out new → (an : ℕ) → old.config.encoding ≡ Some an
    → new.next ≡ put old.next an (Some (pn + 1))
sent_next old plain pn out new (none, (o, is_o, is_pn, is_out, is)) an encoding =
    let there = outgoing_is (tx_side old) old.config.encoding o is_o in
    let same = some_one old.config.encoding o.an an there.encoding_is encoding in
    ap (λ (s : State). s.next) is ∙ (λ i. put old.next (same i) (Some (sym is_pn i + 1)))

module _ (sectors : ℕ) (earlier : List Delivery) (old : State) (moment : Moment sectors old) (o : Observer)
    (m : Matches earlier old o) (first : IsFirst o) (eight : length old.identity.sci ≡ 8) where
  -- no frame before it has its key and number
  fresh : (plain : List ℕ) (pn : ℕ) (out : List ℕ) (new : State)
      → Step old (Protects plain) (Protected (Ok pn) out) new → (f : IsStandardFrame old plain pn out new)
      → ¬ Contains o.sent (record { key = f.sa.key; pn = pn })
  fresh plain pn out new step f =
      let here : Use = record { key = f.sa.key; pn = pn } in
      let apart : HasNoneTwice new.logs.used =
      (sound-effect old.edition (core old) (core new) (effect-of old (Protects plain) (Protected (Ok pn) out) new step)
      (sound-moment sectors old moment)).tx.apart in
      subst (λ (used : List Use). ¬ Contains used here) (sym m.sent)
      (not-twice here old.logs.used (subst HasNoneTwice f.logged apart))

  by_sent : (plain : List ℕ) (pn : ℕ) (out : List ℕ) (new : State)
      → Step old (Protects plain) (Protected (Ok pn) out) new → ProtectStep old plain (Ok pn) out new
      → Goes earlier o (Protects plain) (Protected (Ok pn) out) new
  by_sent plain pn out new step h =
      let f = frames-are-standard sectors old moment plain pn out new step in
      let rest = sent_rest old plain pn out new h in
      let later : Observer = record o {
        next = put o.next f.an (Some (pn + 1));
        sent = record { key = f.sa.key; pn = pn } ∷ o.sent;
      } in
      let expected : IsSent o plain pn out later = record {
        identity = old.identity;
        an = f.an;
        sa = tx_association f.sa;
        formatted = m.formatted;
        sci = eight;
        encoding = ap (λ (s : Settings). s.encoding) m.settings ∙ f.encoding;
        association = ap (λ (s : Settings). s.tx f.an) m.settings ∙ ap (option_map tx_association) f.association;
        number = ap (λ (next : ℕ → Option ℕ). next f.an) m.next ∙ f.number;
        range = (f.least, f.most);
        frame = f.frame ∙ sym (ap (λ (s : Settings). protected_frame f.sa.key old.identity.sci
            (record {
              an = f.an;
              pn = pn;
              name = name_in s.mode old.identity.sci;
              encrypted = is_confidential f.sa.protection;
              changed = is_confidential f.sa.protection;
            })
            (octets_of (offset_of f.sa.protection)) plain) m.settings);
        fresh = fresh plain pn out new step f;
        counted = refl;
      } in
      let matches : Matches earlier new later = record {
        formatted = m.formatted ∙ sym (ap (λ i. Some i) rest.identity);
        settings = m.settings ∙ sym (ap settings_of rest.config);
        installed = subst (λ (c : Config). AreSpent c o.installed) (sym rest.config) m.installed;
        next = (λ i. put (m.next i) f.an (Some (pn + 1))) ∙ sym (sent_next old plain pn out new h f.an f.encoding);
        numbers = m.numbers ∙ sym rest.numbers;
        waiting = m.waiting ∙ sym rest.waiting;
        tickets = m.tickets ∙ sym rest.tickets;
        stopped = m.stopped ∙ sym rest.stopped;
        sent = ap (λ (used : List Use). record { key = f.sa.key; pn = pn } ∷ used) m.sent ∙ sym f.logged;
        delivered = m.delivered ∙ sym rest.given;
        before = m.before;
        hand = λ c hand. m.hand c (sym rest.under_way ∙ hand);
      } in
      (later, expected, record { matches = matches; begins = λ d begun running. first d begun })

  pub by-protect : (plain : List ℕ) (result : Result ℕ ProtectFault) (out : List ℕ) (new : State)
      → Step old (Protects plain) (Protected result out) new → ProtectStep old plain result out new
      → Goes earlier o (Protects plain) (Protected result out) new
  by-protect plain (Ok pn) out new step h = by_sent plain pn out new step h
  by-protect plain (Err (protect.Tx fault)) out new step h = (o, (h.1, refl), stays earlier old o m first new h.2)
  by-protect plain (Err protect.Stopped) out new step h = absurd h

-- ---- genuine frames

-- the first that holds does hold
first_holds : {R : Type 0} (Holds : R → Type 0) (rs : List R) (r : R) → IsFirstOf Holds rs r → Holds r
first_holds Holds [] r is = absurd is
first_holds Holds (one ∷ rs) r (inl (is, same)) = subst Holds (sym same) is
first_holds Holds (one ∷ rs) r (inr (none, later)) = first_holds Holds rs r later

-- a frame that verifies is genuine
genuine : (frame key sci : List ℕ) (offset : ℕ) (plain : List ℕ) → Verified frame key sci offset plain
    → IsGenuine frame key sci offset plain
genuine frame key sci offset plain v =
    let are : Parts = record { tag = tag_of frame; start = start_of frame; end = end_of frame } in
    let same : v.parts ≡ are =
    λ i. record { tag = v.tag.reading.tag i; start = v.tag.reading.start i; end = v.tag.reading.end i } in
    let opens = subst (λ (p : Parts). OpensTo frame key sci offset p plain) same v.opens in
    (opens.plaintext, opens.sealed, opens.plain_is)

-- one that is genuine verifies, where its SecTAG has no fault
verifies : (frame key sci : List ℕ) (offset : ℕ) (plain : List ℕ)
    → ((fault : TagFault) → ¬ TagFaultHolds frame fault) → IsGenuine frame key sci offset plain
    → Verified frame key sci offset plain
verifies frame key sci offset plain none (plaintext, sealed, plain_is) = elim (read_or_refused frame) [
  | inl read ↦
      let are : Parts = record { tag = tag_of frame; start = start_of frame; end = end_of frame } in
      let reading = read.1.reading in
      let same : read.0 ≡ are =
      λ i. record { tag = reading.tag i; start = reading.start i; end = reading.end i } in
      let opens : OpensTo frame key sci offset are plain =
      record { plaintext = plaintext; sealed = sealed; plain_is = plain_is } in
      record {
        parts = read.0;
        tag = read.1;
        not_for_kay = read.2;
        opens = subst (λ (p : Parts). OpensTo frame key sci offset p plain) (sym same) opens;
      }
  | inr refused ↦
      absurd (none refused.0 (first_holds (TagFaultHolds frame) tag_faults refused.0 refused.1))
]

-- and its SecTAG is right
both_set : (e c : Bool) → ¬ ((e ≡ true) × (c ≡ false)) → e ≡ true → c ≡ true
both_set e true is set = refl
both_set e false is set = absurd (is (set, refl))

tag_right : (frame key sci : List ℕ) (offset : ℕ) (plain : List ℕ) → Verified frame key sci offset plain
    → IsTagged frame × (pn_of frame ≢ 0) × (encrypted (control frame) ≡ true → changed (control frame) ≡ true)
tag_right frame key sci offset plain v = (
  v.tag.tagged,
  v.tag.reading.good.numbered,
  both_set (encrypted (control frame)) (changed (control frame)) v.not_for_kay,
)

-- ---- frames that one of the first steps settles

unless_by : (validate : Validate) (test : Bool) (reason : Reason) (kind given : Kind)
    → cond (is_strict validate || test) (Discarded reason) (Delivered kind) ≡ Delivered given
    → (validate ≡ Check) × (test ≡ false) × (kind ≡ given)
unless_by Strict test reason kind given is = absurd (cc)
unless_by Check true reason kind given is = absurd (cc)
unless_by Check false reason kind given is = (refl, refl, cc)

untagged_by : (validate : Validate) (given : Kind)
    → cond (is_strict validate) (Discarded NoTag) (Delivered Untagged) ≡ Delivered given
    → (validate ≡ Check) × (Untagged ≡ given)
untagged_by Strict given is = absurd (cc)
untagged_by Check given is = (refl, cc)

-- the step that settles a frame which is delivered all the same, and what it is
abbrev IsGivenAt : List ℕ → RxStep → Kind → Type 0
IsGivenAt frame at Untagged = at ≡ Tag HasNoTag
IsGivenAt frame at UnknownSci = (at ≡ NoChannel) × (changed (control frame) ≡ false)
IsGivenAt frame at UnusedSa = (at ≡ NoAssociation) × (changed (control frame) ≡ false)
IsGivenAt frame at Invalid = (at ≡ NotVerified) × (changed (control frame) ≡ false)
IsGivenAt frame at kind = ⊥

-- one that is delivered all the same is so under Check
checked : (side : RxSide) (frame : List ℕ) (at : RxStep) (given : Kind) → verdict_at side frame at ≡ Delivered given
    → (side.validate ≡ Check) × IsGivenAt frame at given
checked side frame (Tag IsRunt) given is = absurd (cc)
checked side frame (Tag IsOversize) given is = absurd (cc)
checked side frame (Tag HasNoTag) given is =
    let are = untagged_by side.validate given is in
    (are.0, subst (IsGivenAt frame (Tag HasNoTag)) are.1 refl)
checked side frame (Tag HasBadTag) given is = absurd (cc)
checked side frame (Tag IsForKay) given is = absurd (cc)
checked side frame NoChannel given is =
    let are = unless_by side.validate (changed (control frame)) NoSci UnknownSci given is in
    (are.0, subst (IsGivenAt frame NoChannel) are.2 (refl, are.1))
checked side frame NoAssociation given is =
    let are = unless_by side.validate (changed (control frame)) NotUsingSa UnusedSa given is in
    (are.0, subst (IsGivenAt frame NoAssociation) are.2 (refl, are.1))
checked side frame BelowLowest given is = absurd (cc)
checked side frame NotVerified given is =
    let are = unless_by side.validate (changed (control frame)) NotValid Invalid given is in
    (are.0, subst (IsGivenAt frame NotVerified) are.2 (refl, are.1))

-- a step that is after those of the SecTAG
abbrev IsLater : RxStep → Type 0
IsLater at = (fault : TagFault) → at ≡ Tag fault → ⊥

-- no fault of the SecTAG holds before it
no_fault : (side : RxSide) (frame : List ℕ) (at : RxStep) → IsLater at → IsFirstOf (RxStepHolds side frame) rx_steps at
    → (fault : TagFault) → ¬ TagFaultHolds frame fault
no_fault side frame at later (inl (is, same)) fault = absurd (later IsRunt same)
no_fault side frame at later (inr (a, inl (is, same))) fault = absurd (later IsOversize same)
no_fault side frame at later (inr (a, inr (b, inl (is, same)))) fault = absurd (later HasNoTag same)
no_fault side frame at later (inr (a, inr (b, inr (c, inl (is, same))))) fault = absurd (later HasBadTag same)
no_fault side frame at later (inr (a, inr (b, inr (c, inr (d, inl (is, same)))))) fault = absurd (later IsForKay same)
no_fault side frame at later (inr (a, inr (b, inr (c, inr (d, inr (e, rest)))))) IsRunt = a
no_fault side frame at later (inr (a, inr (b, inr (c, inr (d, inr (e, rest)))))) IsOversize = b
no_fault side frame at later (inr (a, inr (b, inr (c, inr (d, inr (e, rest)))))) HasNoTag = c
no_fault side frame at later (inr (a, inr (b, inr (c, inr (d, inr (e, rest)))))) HasBadTag = d
no_fault side frame at later (inr (a, inr (b, inr (c, inr (d, inr (e, rest)))))) IsForKay = e

tagged : (frame : List ℕ) → ¬ ¬ IsTagged frame → IsTagged frame
tagged frame is = elim (cases_eq (slice_index frame 12) 0x88) [
  | inl one ↦ elim (cases_eq (slice_index frame 13) 0xE5) [
    | inl two ↦ (one, two)
    | inr other ↦ absurd (is (λ both. other both.1))
  ]
  | inr other ↦ absurd (is (λ both. other both.0))
]

-- its channel exists
has_channel_before : (side : RxSide) (frame : List ℕ) (at : RxStep) → IsLater at → (at ≡ NoChannel → ⊥)
    → IsFirstOf (RxStepHolds side frame) rx_steps at → ¬ (channel_of side frame ≡ None)
has_channel_before side frame at later other (inl (is, same)) = absurd (later IsRunt same)
has_channel_before side frame at later other (inr (a, inl (is, same))) = absurd (later IsOversize same)
has_channel_before side frame at later other (inr (a, inr (b, inl (is, same)))) = absurd (later HasNoTag same)
has_channel_before side frame at later other (inr (a, inr (b, inr (c, inl (is, same))))) =
    absurd (later HasBadTag same)
has_channel_before side frame at later other (inr (a, inr (b, inr (c, inr (d, inl (is, same)))))) =
    absurd (later IsForKay same)
has_channel_before side frame at later other (inr (a, inr (b, inr (c, inr (d, inr (e, inl (is, same))))))) =
    absurd (other same)
has_channel_before side frame at later other (inr (a, inr (b, inr (c, inr (d, inr (e, inr (f, rest))))))) = f

-- and its association
has_association_before : (side : RxSide) (frame : List ℕ)
    → IsFirstOf (RxStepHolds side frame) rx_steps NotVerified → ¬ (association_of side frame ≡ None)
has_association_before side frame (inl (is, same)) = absurd (cc)
has_association_before side frame (inr (a, inl (is, same))) = absurd (cc)
has_association_before side frame (inr (a, inr (b, inl (is, same)))) = absurd (cc)
has_association_before side frame (inr (a, inr (b, inr (c, inl (is, same))))) = absurd (cc)
has_association_before side frame (inr (a, inr (b, inr (c, inr (d, inl (is, same)))))) = absurd (cc)
has_association_before side frame (inr (a, inr (b, inr (c, inr (d, inr (e, inl (is, same))))))) = absurd (cc)
has_association_before side frame (inr (a, inr (b, inr (c, inr (d, inr (e, inr (f, inl (is, same)))))))) = absurd (cc)
has_association_before side frame (inr (a, inr (b, inr (c, inr (d, inr (e, inr (f, inr (g, rest)))))))) = g

some_of : {X : Type 0} (x : Option X) → ¬ (x ≡ None) → (y : X) × (x ≡ Some y)
some_of None none = absurd (none refl)
some_of (Some y) none = (y, refl)

not_held : (test : Bool) (reason : Reason) (kind : Kind)
    → HeldBack ≡ cond test (Discarded reason) (Delivered kind) → ⊥
not_held true reason kind is = absurd (cc)
not_held false reason kind is = absurd (cc)

-- and none is held back
none_held : (side : RxSide) (frame : List ℕ) (step : RxStep) → HeldBack ≡ verdict_at side frame step → ⊥
none_held side frame (Tag IsRunt) is = absurd (cc)
none_held side frame (Tag IsOversize) is = absurd (cc)
none_held side frame (Tag HasNoTag) is = not_held (is_strict side.validate) NoTag Untagged is
none_held side frame (Tag HasBadTag) is = absurd (cc)
none_held side frame (Tag IsForKay) is = absurd (cc)
none_held side frame NoChannel is = not_held (is_strict side.validate || changed (control frame)) NoSci UnknownSci is
none_held side frame NoAssociation is =
    not_held (is_strict side.validate || changed (control frame)) NotUsingSa UnusedSa is
none_held side frame BelowLowest is = absurd (cc)
none_held side frame NotVerified is = not_held (is_strict side.validate || changed (control frame)) NotValid Invalid is

-- ---- channels

none_sci : (sci : List ℕ) → ◌≡◌ {A = Option (List ℕ)} None (Some sci) → ⊥
none_sci sci is = cc

existing_by : (channels : List (List ℕ)) (named sci : List ℕ) (test : Bool) → is_among channels named ≡ test
    → cond test (Some named) None ≡ Some sci → (named ≡ sci) × (is_among channels sci ≡ true)
existing_by channels named sci true is same =
    let one : named ≡ sci = cc in (one, subst (λ (s : List ℕ). is_among channels s ≡ true) one is)
existing_by channels named sci false is same = absurd (none_sci sci same)

-- the channel that is named exists
existing : (channels : List (List ℕ)) (named : Option (List ℕ)) (sci : List ℕ)
    → option_and_then (standing_channel channels) named ≡ Some sci
    → (named ≡ Some sci) × (is_among channels sci ≡ true)
existing channels None sci is = absurd (none_sci sci is)
existing channels (Some named) sci is =
    let one = existing_by channels named sci (is_among channels named) refl is in
    (ap (λ (s : List ℕ). Some s) one.0, one.1)

or_false : (test : Bool) → (test || false) ≡ true → test ≡ true
or_false true is = refl
or_false false is = absurd (cc)

-- the only one
alone : (channels : List (List ℕ)) (sci : List ℕ) → only_one channels ≡ Some sci
    → (other : List ℕ) → is_among channels other ≡ true → other ≡ sci
alone [] sci is other among = absurd (none_sci sci is)
alone (one ∷ []) sci is other among =
    let same : one ≡ sci = cc in
    sym (same_octets one other (or_false (bytes_eq one other) among)) ∙ same
alone (one ∷ two ∷ more) sci is other among = absurd (none_sci sci is)

named_by : (channels : List (List ℕ)) (frame : List ℕ) (name : ScName) (sci : List ℕ)
    → sci_named channels frame name ≡ Some sci
    → (named_sci frame name ≡ Some sci)
    ⊎ ((named_sci frame name ≡ None) × ((other : List ℕ) → is_among channels other ≡ true → other ≡ sci))
named_by channels frame (Explicit spelled) sci is = inl is
named_by channels frame EndStation sci is = inl is
named_by channels frame Implicit sci is = inr (refl, alone channels sci is)

named : (s : State) (frame sci : List ℕ) → channel_of (rx_side s) frame ≡ Some sci
    → IsNamed (settings_of s.config) frame sci
named s frame sci is =
    let there = existing s.config.channels (sci_named s.config.channels frame (name_of frame)) sci is in
    (there.1, named_by s.config.channels frame (name_of frame) sci there.0)

-- ---- frames that do not

missing_by : (sci : List ℕ) (test : Bool) → ◌≡◌ {A = Option (List ℕ)} (cond test (Some sci) None) None → test ≡ false
missing_by sci true is = absurd (none_sci sci (sym is))
missing_by sci false is = refl

-- no channel has the SCI that a SecTAG names
missing : (channels : List (List ℕ)) (frame : List ℕ) (name : ScName)
    → option_and_then (standing_channel channels) (sci_named channels frame name) ≡ None
    → (sci : List ℕ) → named_sci frame name ≡ Some sci → is_among channels sci ≡ false
missing channels frame (Explicit spelled) is sci names =
    missing_by sci (is_among channels sci) (ap (option_and_then (standing_channel channels)) (sym names) ∙ is)
missing channels frame EndStation is sci names =
    missing_by sci (is_among channels sci) (ap (option_and_then (standing_channel channels)) (sym names) ∙ is)
missing channels frame Implicit is sci names = absurd (none_sci sci names)

module _ (s : State) (frame : List ℕ) where
  abbrev side : RxSide
  side = rx_side s

  -- what a frame that is delivered all the same is expected to be
  abbrev IsGivenAs : Settings → Kind → Type 0
  IsGivenAs settings Untagged = ¬ IsTagged frame
  IsGivenAs settings kind = IsTagged frame × (changed (control frame) ≡ false) × IsUnverified settings frame kind

  has_tag : (at : RxStep) → IsLater at → IsFirstOf (RxStepHolds side frame) rx_steps at → IsTagged frame
  has_tag at later first = tagged frame (no_fault side frame at later first HasNoTag)

  -- the association of a channel
  association_in : (sci : List ℕ) → channel_of side frame ≡ Some sci
      → association_of side frame ≡ s.config.rx sci (tag_of frame).an
  association_in sci is = ap (option_and_then (λ (sci : List ℕ). s.config.rx sci (tag_of frame).an)) is

  none_given : IsFirstOf (RxStepHolds side frame) rx_steps NoAssociation
      → IsUnverified (settings_of s.config) frame UnusedSa
  none_given first =
      let channel = some_of (channel_of side frame)
      (has_channel_before side frame NoAssociation (λ fault same. cc) (λ same. cc) first) in
      let none = first_holds (RxStepHolds side frame) rx_steps NoAssociation first in (
        channel.0,
        named s frame channel.0 channel.1,
        ap (option_map rx_association) (sym (association_in channel.0 channel.1) ∙ none),
      )

  not_genuine : IsFirstOf (RxStepHolds side frame) rx_steps NotVerified
      → IsUnverified (settings_of s.config) frame Invalid
  not_genuine first =
      let channel = some_of (channel_of side frame)
      (has_channel_before side frame NotVerified (λ fault same. cc) (λ same. cc) first) in
      let sa = some_of (association_of side frame) (has_association_before side frame first) in
      let none = first_holds (RxStepHolds side frame) rx_steps NotVerified first in (
        channel.0,
        rx_association sa.0,
        named s frame channel.0 channel.1,
        ap (option_map rx_association) (sym (association_in channel.0 channel.1) ∙ sa.1),
        λ plain is. none plain (record {
          sci = channel.0;
          sa = sa.0;
          is_channel = channel.1;
          is_association = sa.1;
          verified = verifies frame sa.0.key channel.0 (octets_of sa.0.offset) plain
              (no_fault side frame NotVerified (λ fault same. cc) first) is;
        }),
      )

  given_as : (at : RxStep) (kind : Kind) → IsFirstOf (RxStepHolds side frame) rx_steps at → IsGivenAt frame at kind
      → IsGivenAs (settings_of s.config) kind
  given_as at Untagged first is =
      subst (RxStepHolds side frame) is (first_holds (RxStepHolds side frame) rx_steps at first)
  given_as at UnknownSci first is =
      let here = subst (IsFirstOf (RxStepHolds side frame) rx_steps) is.0 first in
      let none = first_holds (RxStepHolds side frame) rx_steps NoChannel here in (
        has_tag NoChannel (λ fault same. cc) here,
        is.1,
        missing s.config.channels frame (name_of frame) none,
      )
  given_as at UnusedSa first is =
      let here = subst (IsFirstOf (RxStepHolds side frame) rx_steps) is.0 first in
      (has_tag NoAssociation (λ fault same. cc) here, is.1, none_given here)
  given_as at Invalid first is =
      let here = subst (IsFirstOf (RxStepHolds side frame) rx_steps) is.0 first in
      (has_tag NotVerified (λ fault same. cc) here, is.1, not_genuine here)
  given_as at kind first is = absurd is

-- ---- frames that verify

module _ (sectors : ℕ) (earlier : List Delivery) (old : State) (moment : Moment sectors old)
    (same_earlier : (logs_of moment.past).given ≡ earlier) (o : Observer) (m : Matches earlier old o)
    (first : IsFirst o) (frame : List ℕ) where
  abbrev verified : (a : Arrival) → Arrives (rx_side old) frame a → (out : List ℕ) → out ≡ a.plain
      → IsVerified o frame out
  verified a there out is_out = record {
    sci = a.sci;
    sa = rx_association a.sa;
    numbers = a.numbers;
    named = subst (λ (s : Settings). IsNamed s frame a.sci) (sym m.settings) (named old frame a.sci there.is_channel);
    association = ap (λ (s : Settings). s.rx a.sci (tag_of frame).an) m.settings
        ∙ ap (option_map rx_association) (ap (old.config.rx a.sci) (sym there.is_an) ∙ there.is_association);
    numbered = ap (λ (n : List ℕ → ℕ → Option Numbers). n a.sci (tag_of frame).an) m.numbers
        ∙ ap (old.numbers a.sci) (sym there.is_an) ∙ there.are_numbers;
    tag = tag_right frame a.sa.key a.sci (octets_of a.sa.offset) a.plain there.verified;
    genuine = genuine frame a.sa.key a.sci (octets_of a.sa.offset) out
        (subst (Verified frame a.sa.key a.sci (octets_of a.sa.offset)) (sym is_out) there.verified);
    in_time = λ on. subst (λ (pn : ℕ). a.numbers.lowest ≤ pn) there.is_pn
        (arrives-in-time (rx_side old) frame a there (ap (λ (s : Settings). s.replay.on) (sym m.settings) ∙ on));
  }

  -- one that is delivered
  abbrev Delivers : Kind → (out : List ℕ) → State → Type 0
  Delivers kind out new =
      (later : Observer) × IsDelivered o frame kind out later × Follows earlier new later

  by_delivery : (kind : Kind) (out : List ℕ) (new : State)
      → Step old (Receives frame) (Received (Ok (Delivered kind)) out) new
      → (a : Arrival) → Arrives (rx_side old) frame a → Delivered kind ≡ Delivered (delivery_kind a.numbers a.pn)
      → out ≡ a.plain → new ≡ state_after_delivery old a
      → Delivers kind out new
  by_delivery kind out new step a there is_verdict is_out is =
      let one : delivery_kind a.numbers a.pn ≡ kind = cc in
      let it = verified a there out is_out in
      let given : Delivery = record { sci = a.sci; key = a.sa.key; pn = pn_of frame; kind = kind } in
      let window = o.settings.replay.window in
      let later : Observer = record o {
        numbers = put_numbers o.numbers a.sci (tag_of frame).an
            (Some (numbers_after_delivery window a.numbers (pn_of frame)));
        delivered = given ∷ o.delivered;
      } in
      let logged : new.logs.given ≡ given ∷ old.logs.given = ap (λ (s : State). s.logs.given) is
      ∙ (λ i. record { sci = a.sci; key = a.sa.key; pn = there.is_pn i; kind = one i } ∷ old.logs.given) in
      let expected : IsDelivered o frame kind out later = record {
        is = it;
        kind_is = sym one ∙ ap (delivery_kind a.numbers) there.is_pn;
        once = λ on window had. given-apart sectors old moment
            (ap (λ (s : Settings). s.replay.on) (sym m.settings) ∙ on)
            (ap (λ (s : Settings). s.replay.window) (sym m.settings) ∙ window)
            (Receives frame) (Received (Ok (Delivered kind)) out) new given step logged
            (subst (λ (l : List Delivery). WasDelivered l a.sci a.sa.key (pn_of frame)) m.delivered had);
        never_again = λ ok had. ok-apart sectors old moment
            (Receives frame) (Received (Ok (Delivered kind)) out) new given step logged ok
            (subst (λ (l : List Delivery). WasDelivered l a.sci a.sa.key (pn_of frame)) (m.before ∙ sym same_earlier)
            had);
        counted = refl;
      } in
      let matches : Matches earlier (state_after_delivery old a) later = record {
        formatted = m.formatted;
        settings = m.settings;
        installed = m.installed;
        next = m.next;
        numbers = λ i. put_numbers (m.numbers i) a.sci (sym there.is_an i)
            (Some (numbers_after_delivery (m.settings i).replay.window a.numbers (sym there.is_pn i)));
        waiting = m.waiting;
        tickets = m.tickets;
        stopped = m.stopped;
        sent = m.sent;
        delivered =
            λ i. record { sci = a.sci; key = a.sa.key; pn = sym there.is_pn i; kind = sym one i } ∷ m.delivered i;
        before = m.before;
        hand = m.hand;
      } in (
        later,
        expected,
        record {
          matches = same-state earlier (state_after_delivery old a) new later is matches;
          begins = λ d begun running. first d begun;
        },
      )

  -- one that is held back
  by_hold : (out : List ℕ) (new : State) (a : Arrival) → Arrives (rx_side old) frame a → a.numbers.next ≤ a.pn
      → new ≡ state_after_hold old a
      → out ≡ [] → Goes earlier o (Receives frame) (Received (Ok HeldBack) out) new
  by_hold out new a there beyond is is_out =
      let later : Observer = record o {
        numbers = put_numbers o.numbers a.sci (tag_of frame).an
            (Some (numbers_after_hold a.numbers (pn_of frame)));
      } in
      let expected : IsHeldBack o frame later = record {
        plain = a.plain;
        is = verified a there a.plain refl;
        beyond = subst (λ (pn : ℕ). a.numbers.next ≤ pn) there.is_pn beyond;
        counted = refl;
      } in
      let matches : Matches earlier (state_after_hold old a) later = record {
        formatted = m.formatted;
        settings = m.settings;
        installed = m.installed;
        next = m.next;
        numbers = λ i. put_numbers (m.numbers i) a.sci (sym there.is_an i)
            (Some (numbers_after_hold a.numbers (sym there.is_pn i)));
        waiting = m.waiting;
        tickets = m.tickets;
        stopped = m.stopped;
        sent = m.sent;
        delivered = m.delivered;
        before = m.before;
        hand = m.hand;
      } in (
        later,
        (is_out, expected),
        record {
          matches = same-state earlier (state_after_hold old a) new later is matches;
          begins = λ d begun running. first d begun;
        },
      )

  -- ---- verdicts

  by_verified : (kind : Kind) (out : List ℕ) (new : State) → IsVerifiedKind kind
      → Step old (Receives frame) (Received (Ok (Delivered kind)) out) new
      → ReceiveStep old frame (Ok (Delivered kind)) out new
      → Delivers kind out new
  by_verified kind out new is_kind step (inl (at, is_first, is_verdict, is_out, is)) =
      absurd (settled (rx_side old) frame at kind is_kind is_verdict)
  by_verified kind out new is_kind step (inr (a, there, inl (is_verdict, beyond, is_out, is))) = absurd (cc)
  by_verified kind out new is_kind step (inr (a, there, inr (is_verdict, is_out, is))) =
      by_delivery kind out new step a there is_verdict is_out is

  by_unverified : (kind : Kind) (out : List ℕ) (new : State) → ¬ IsVerifiedKind kind
      → ReceiveStep old frame (Ok (Delivered kind)) out new
      → (o.settings.validate ≡ Check) × IsGivenAs old frame o.settings kind × (out ≡ given_at frame (Delivered kind))
      × (new ≡ old)
  by_unverified kind out new other (inl (at, is_first, is_verdict, is_out, is)) =
      let are = checked (rx_side old) frame at kind (sym is_verdict) in (
        ap (λ (s : Settings). s.validate) m.settings ∙ are.0,
        subst (λ (settings : Settings). IsGivenAs old frame settings kind) (sym m.settings)
            (given_as old frame at kind is_first are.1),
        is_out,
        is,
      )
  by_unverified kind out new other (inr (a, there, inl (is_verdict, beyond, is_out, is))) = absurd (cc)
  by_unverified kind out new other (inr (a, there, inr (is_verdict, is_out, is))) =
      let one : delivery_kind a.numbers a.pn ≡ kind = cc in
      absurd (other (subst IsVerifiedKind one (verified-kind (nat_lt a.pn a.numbers.lowest))))

  by_discarded : (reason : Reason) (out : List ℕ) (new : State) → ReceiveStep old frame (Ok (Discarded reason)) out new
      → (out ≡ []) × (new ≡ old)
  by_discarded reason out new (inl (at, is_first, is_verdict, is_out, is)) = (is_out, is)
  by_discarded reason out new (inr (a, there, inl (is_verdict, beyond, is_out, is))) = absurd (cc)
  by_discarded reason out new (inr (a, there, inr (is_verdict, is_out, is))) = absurd (cc)

  by_held : (out : List ℕ) (new : State) → ReceiveStep old frame (Ok HeldBack) out new
      → Goes earlier o (Receives frame) (Received (Ok HeldBack) out) new
  by_held out new (inl (at, is_first, is_verdict, is_out, is)) = absurd (none_held (rx_side old) frame at is_verdict)
  by_held out new (inr (a, there, inl (is_verdict, beyond, is_out, is))) =
      by_hold out new a there beyond is is_out
  by_held out new (inr (a, there, inr (is_verdict, is_out, is))) = absurd (cc)

  pub by-receive : (result : Result Verdict Stopped) (out : List ℕ) (new : State)
      → Step old (Receives frame) (Received result out) new → ReceiveStep old frame result out new
      → Goes earlier o (Receives frame) (Received result out) new
  by-receive (Ok (Delivered AsOk)) out new step h = by_verified AsOk out new tt step h
  by-receive (Ok (Delivered Delayed)) out new step h = by_verified Delayed out new tt step h
  by-receive (Ok (Delivered Untagged)) out new step h =
      let same = by_unverified Untagged out new (λ none. none) h in
      (o, (same.0, same.1, same.2, refl), stays earlier old o m first new same.3)
  by-receive (Ok (Delivered UnknownSci)) out new step h =
      let same = by_unverified UnknownSci out new (λ none. none) h in
      (o, (same.0, same.1.0, same.1.1, same.1.2, same.2, refl), stays earlier old o m first new same.3)
  by-receive (Ok (Delivered UnusedSa)) out new step h =
      let same = by_unverified UnusedSa out new (λ none. none) h in
      (o, (same.0, same.1.0, same.1.1, same.1.2, same.2, refl), stays earlier old o m first new same.3)
  by-receive (Ok (Delivered Invalid)) out new step h =
      let same = by_unverified Invalid out new (λ none. none) h in
      (o, (same.0, same.1.0, same.1.1, same.1.2, same.2, refl), stays earlier old o m first new same.3)
  by-receive (Ok (Discarded reason)) out new step h =
      let same = by_discarded reason out new h in
      (o, (same.0, refl), stays earlier old o m first new same.1)
  by-receive (Ok HeldBack) out new step h = by_held out new h
  by-receive (Err stopped) out new step h = absurd h
