use Rattle.std.proofs.Common.{◌≡◌, ◌∙◌, ◌<◌, ℕ, List, true, false, cond, Some, None, refl, ap, sym}
use Rattle.std.specs.Prelude.{◌&&◌, nat_lt}
use Rattle.std.proofs.lemmas.Bool.{and_parts}
use borrow.Author.Tests.{ltb-true}
use Rattle.macs_config.specs.declared.command.Replay.{Replay}
use Rattle.macs_frame.proofs.Readings.{verified_by_its_parts}
use Rattle.macs_fields.specs.Fields.{octets_of}
use Rattle.macs_frame.specs.Opening.{Verified}
use Rattle.macs_frame.specs.Tag.{tag_of}
use Rattle.macs_frame.specs.declared.tag.SecTag.{SecTag}
use Rattle.macs_rxsc.proofs.Steps.{arrives, arrives_as, first_late, first_not_verified, in_time_by, is_delivered}
use Rattle.macs_rxsc.proofs.Steps.{is_held, put_numbers-same, settles, settles_bare}
use Rattle.macs_rxsc.specs.Receive.{BelowLowest, Numbers, NotVerified, RxSide, numbers_after_delivery}
use Rattle.macs_rxsc.specs.Receive.{numbers_after_hold, delivery_kind, put_numbers}
use Rattle.macs_rxsc.specs.Value.{packet_numbers, sa_of}
use Rattle.macs_rxsc.specs.declared.verdict.Kind.TheVariants.{Invalid}
use Rattle.macs_rxsc.specs.declared.verdict.Reason.TheVariants.{NotValid}
use Rattle.macs_rxsc.specs.declared.verdict.Verdict.TheVariants.{Delivered}
use Rattle.macs_rxsc.proofs.association.Association.receive.Goals as goal
use Rattle.macs_rxsc.proofs.association.Association.receive.Goals.{After-is_late, After-arrive}

-- the test, over the frame's tag
tested : (c : After-is_late)
    → c.is_late.result ≡ (c.args.policy.replay.on && nat_lt (tag_of c.args.frame.now).pn c.args.self.now.lowest)
tested c = c.is_late.ensures
    ∙ ap (λ (t : SecTag). c.args.policy.replay.on && nat_lt t.pn c.args.self.now.lowest) c.requires.read.0.reading.tag

in_time : (c : After-is_late) → c.is_late.result ≡ false → (side : RxSide) → side.replay ≡ c.args.policy.replay
    → side.replay.on ≡ true → ¬ ((tag_of c.args.frame.now).pn < c.args.self.now.lowest)
in_time c fails side r on = in_time_by c.args.policy.replay.on (tag_of c.args.frame.now).pn c.args.self.now.lowest
    (sym (tested c) ∙ fails) (sym (ap (λ (p : Replay). p.on) r) ∙ on)

pub returns-then-is_late-clause-verdict : goal.returns-then-is_late-clause-verdict
returns-then-is_late-clause-verdict c = λ side ceilings v r ch rx nu ce.
    let path = (goal.at.returns-then-is_late-clause-verdict c).After-is_late in
    let parts = and_parts _ _ (sym (tested path) ∙ c.if-is_late.true) in
    settles side ceilings c.args.frame.now BelowLowest
    (first_late side c.args.frame.now c.args.parts.now c.requires.read c.args.sci ch (sa_of c.args.self.now)
    (packet_numbers c.args.self.now) rx nu
    (ap (λ (p : Replay). p.on) r ∙ parts.0) (ltb-true _ _ parts.1))
    _ _ _ refl c.requires.empty (put_numbers-same side.numbers c.args.sci _ _ nu)

pub returns-then-not-open_parts-clause-verdict : goal.returns-then-not-open_parts-clause-verdict
returns-then-not-open_parts-clause-verdict c = λ side ceilings v r ch rx nu ce.
    let path = (goal.at.returns-then-not-open_parts-clause-verdict c).After-is_late in
    let closed : (plain : List ℕ) → ¬ Verified c.args.frame.now c.args.self.now.key c.args.sci
    (octets_of c.args.self.now.offset) plain = λ plain found.
    let opens = (verified_by_its_parts c.args.frame.now c.args.self.now.key c.args.sci
    (octets_of c.args.self.now.offset) c.args.parts.now plain c.requires.read.0 c.requires.read.1).0 found in
    let yes = c.open_parts.ensures.exactly.1 (plain, opens) in
    cc in
    settles_bare side ceilings c.args.frame.now NotVerified NotValid Invalid c.args.policy.validate
    (first_not_verified side c.args.frame.now c.args.parts.now c.requires.read c.args.sci ch (sa_of c.args.self.now)
    (packet_numbers c.args.self.now) rx nu
    (in_time path c.if-is_late.false side r) closed)
    refl refl v _ _ _ c.discard_or_deliver.ensures.verdict c.discard_or_deliver.ensures.given
    (put_numbers-same side.numbers c.args.sci _ _ nu)

opened : (c : After-arrive) → Verified c.args.frame.now c.args.self.now.key c.args.sci
    (octets_of c.args.self.now.offset) c.open_parts.new.out.items
opened c =
    (verified_by_its_parts c.args.frame.now c.args.self.now.key c.args.sci (octets_of c.args.self.now.offset)
    c.args.parts.now c.open_parts.new.out.items c.requires.read.0 c.requires.read.1).1
    c.if-not-open_parts.ensures.opened

kinds : (c : After-arrive) → c.arrive.result ≡ cond (nat_lt (tag_of c.args.frame.now).pn c.args.self.now.ceiling)
    (Some (delivery_kind (packet_numbers c.args.self.now) (tag_of c.args.frame.now).pn)) None
kinds c =
    c.arrive.ensures.kind
    ∙ ap (λ (t : SecTag). cond (nat_lt t.pn c.args.self.now.ceiling)
    (Some (delivery_kind (packet_numbers c.args.self.now) t.pn)) None) c.requires.read.0.reading.tag

moved : (c : After-arrive) (side : RxSide) → side.replay ≡ c.args.policy.replay
    → packet_numbers c.arrive.new.self ≡ cond (nat_lt (tag_of c.args.frame.now).pn c.args.self.now.ceiling)
    (numbers_after_delivery side.replay.window (packet_numbers c.args.self.now) (tag_of c.args.frame.now).pn)
    (numbers_after_hold (packet_numbers c.args.self.now) (tag_of c.args.frame.now).pn)
moved c side r =
    c.arrive.ensures.numbers
    ∙ ap (λ (t : SecTag). cond (nat_lt t.pn c.args.self.now.ceiling)
    (numbers_after_delivery c.args.policy.replay.window (packet_numbers c.args.self.now) t.pn)
    (numbers_after_hold (packet_numbers c.args.self.now) t.pn)) c.requires.read.0.reading.tag
    ∙ ap (λ (p : Replay). cond (nat_lt (tag_of c.args.frame.now).pn c.args.self.now.ceiling)
    (numbers_after_delivery p.window (packet_numbers c.args.self.now) (tag_of c.args.frame.now).pn)
    (numbers_after_hold (packet_numbers c.args.self.now) (tag_of c.args.frame.now).pn)) (sym r)

pub returns-in-Some-clause-verdict : goal.returns-in-Some-clause-verdict
returns-in-Some-clause-verdict c = λ side ceilings v r ch rx nu ce.
    let path = (goal.at.returns-in-Some-clause-verdict c).After-arrive in
    let start = (goal.at.returns-in-Some-clause-verdict c).After-is_late in
    let below = nat_lt (tag_of c.args.frame.now).pn c.args.self.now.ceiling in
    let is = is_delivered below (delivery_kind (packet_numbers c.args.self.now) (tag_of c.args.frame.now).pn)
    c.in-Some.kind (sym c.in-Some.is ∙ kinds path) in
    arrives_as side ceilings c.args.frame.now _ c.args.self.now.ceiling below
    (arrives side c.args.frame.now c.args.parts.now c.requires.read c.args.sci ch (sa_of c.args.self.now)
    (packet_numbers c.args.self.now) rx nu
    (in_time start c.if-is_late.false side r) c.open_parts.new.out.items (opened path))
    ce refl _ _ _ (rw is.0 (ap Delivered is.1)) (rw is.0 refl)
    (ap (λ (n : Numbers). put_numbers side.numbers c.args.sci (tag_of c.args.frame.now).an (Some n))
    (moved path side r))

pub returns-in-None-clause-verdict : goal.returns-in-None-clause-verdict
returns-in-None-clause-verdict c = λ side ceilings v r ch rx nu ce.
    let path = (goal.at.returns-in-None-clause-verdict c).After-arrive in
    let start = (goal.at.returns-in-None-clause-verdict c).After-is_late in
    let below = nat_lt (tag_of c.args.frame.now).pn c.args.self.now.ceiling in
    let is = is_held below (delivery_kind (packet_numbers c.args.self.now) (tag_of c.args.frame.now).pn)
    (sym c.in-None.is ∙ kinds path) in
    arrives_as side ceilings c.args.frame.now _ c.args.self.now.ceiling below
    (arrives side c.args.frame.now c.args.parts.now c.requires.read c.args.sci ch (sa_of c.args.self.now)
    (packet_numbers c.args.self.now) rx nu
    (in_time start c.if-is_late.false side r) c.open_parts.new.out.items (opened path))
    ce refl _ _ _ (rw is refl) (rw is c.clear.ensures)
    (ap (λ (n : Numbers). put_numbers side.numbers c.args.sci (tag_of c.args.frame.now).an (Some n))
    (moved path side r))
