use Rattle.std.proofs.Common.{◌≡◌, ◌∙◌, ℕ, List, Option, Some, None, get_or, refl, ap, sym, subst}
use Rattle.std.specs.Option.{option_and_then}
use Rattle.macs_frame.specs.Tag.{name_of, tag_of}
use Rattle.macs_config.specs.Places.{IsPlace}
use Rattle.macs_config.proofs.Lent.{lent, lent_old}
use Rattle.macs_rxsc.proofs.Shown.{at_old, ceilings-kept, counters-counted, named_at, named_none, named_some}
use Rattle.macs_rxsc.proofs.Shown.{numbers-changed, shown-numbers, there}
use Rattle.macs_rxsc.proofs.Steps.{first_no_channel, settles_bare}
use Rattle.macs_rxsc.specs.Receive.{NoChannel, Numbers, IsOutcome, channel_of, sci_named, standing_channel}
use Rattle.macs_rxsc.specs.Receiving.{TableReceives}
use Rattle.macs_rxsc.specs.Counting.{counters_after_verdict_at}
use Rattle.macs_rxsc.specs.Value.{ceilings_among, ceilings_in, channel_at, counters_among, numbers_in, sas_in, scis_of}
use Rattle.macs_rxsc.specs.Value.{rx_side_in}
use Rattle.macs_rxsc.specs.declared.channel.Channel.{Channel}
use Rattle.macs_rxsc.specs.declared.verdict.Kind.TheVariants.{UnknownSci}
use Rattle.macs_rxsc.specs.declared.verdict.Reason.TheVariants.{NoSci}
use Rattle.macs_rxsc.proofs.table.Table.receive_tagged.Goals as goal
use Rattle.macs_rxsc.proofs.table.Table.receive_tagged.Goals.{After-receive, After-place_named}

-- the channel that was lent
abbrev old : After-receive → Channel
old c = get_or c.deref_mut.result.now c.in-Some.place c.index-deref_mut-place.result

found : (c : After-receive) → (sci : List ℕ)
    × (sci_named (scis_of c.args.self.now.channels.items) c.args.frame.now (name_of c.args.frame.now) ≡ Some sci)
    × IsPlace (scis_of c.args.self.now.channels.items) sci c.in-Some.place
    × (option_and_then (standing_channel (scis_of c.args.self.now.channels.items))
    (sci_named (scis_of c.args.self.now.channels.items) c.args.frame.now (name_of c.args.frame.now)) ≡ Some sci)
found c = named_some c.args.self.now.channels.items c.in-Some.place _ (sym c.in-Some.is
    ∙ named_at c.args.self.now.channels.items c.as_slice.result.now c.args.frame.now c.args.parts.now.tag
    c.place_named.result c.as_slice.ensures.value c.requires.read.0.reading.tag c.place_named.ensures)

sci : After-receive → List ℕ
sci c = (found c).0

stands : (c : After-receive) → IsPlace (scis_of c.args.self.now.channels.items) (sci c) c.in-Some.place
unfolding sci
stands c = (found c).2

was : (c : After-receive) → old c ≡ get_or c.args.self.now.channels.items c.in-Some.place (old c)
was c = lent_old c.args.self.now.channels.items c.deref_mut.result.now c.in-Some.place c.index-deref_mut-place.result
    c.deref_mut.ensures.value c.index-deref_mut-place.is

channel_is : (c : After-receive) → channel_of (rx_side_in c.args.policy.validate c.args.policy.replay
    c.args.self.now.channels.items) c.args.frame.now ≡ Some (sci c)
unfolding sci
channel_is c = (found c).3

pub returns-in-Some : goal.returns-in-Some
returns-in-Some c =
    let p = (goal.at.returns-in-Some c).After-receive in
    let items = c.args.self.now.channels.items in
    let new = c.receive.new.self in
    let received = c.receive.ensures in
    let side = rx_side_in c.args.policy.validate c.args.policy.replay items in
    let same = there items c.in-Some.place (old p) new (sci p) (stands p) (was p) received.sci in
    let here = ap (channel_at items) same
    ∙ at_old items c.in-Some.place (old p) new (sci p) (stands p) (was p) received.sci in
    let outcome = received.verdict side (ceilings_among items) refl refl (channel_is p ∙ ap Some (sym same))
    (ap sas_in here) (ap numbers_in here) (ap ceilings_in here) in
    subst (λ (xs : List Channel). TableReceives c.args.policy.validate c.args.policy.replay items xs c.args.frame.now
    c.receive.result c.receive.new.out.items)
    (sym (lent items c.deref_mut.result.now c.in-Some.place new c.deref_mut.ensures.value)) (record {
      outcome = subst (λ (n : List ℕ → ℕ → Option Numbers). IsOutcome side (ceilings_among items) c.args.frame.now
          (record { verdict = c.receive.result; given = c.receive.new.out.items; numbers = n }))
          (numbers-changed items c.in-Some.place (old p) new (sci p) (stands p) (was p) received.sci) outcome;
      side = shown-numbers items c.in-Some.place (old p) new (sci p) (stands p) (was p) received.sci
          c.args.policy.validate c.args.policy.replay received.sas;
      ceilings =
          ceilings-kept items c.in-Some.place (old p) new (sci p) (stands p) (was p) received.sci received.ceilings;
      counters = counters-counted items c.in-Some.place (old p) new (sci p) (stands p) (was p) received.sci
          (tag_of c.args.frame.now) c.receive.result c.receive.new.out.items c.receive.ensures.counters
          ∙ ap (λ (o : Option (List ℕ)). counters_after_verdict_at o (tag_of c.args.frame.now) c.receive.result
          c.receive.new.out.items (counters_among items))
          (sym (channel_is p));
    })

absent : (c : After-place_named) → c.place_named.result ≡ None → channel_of
    (rx_side_in c.args.policy.validate c.args.policy.replay c.args.self.now.channels.items) c.args.frame.now ≡ None
absent c none = named_none c.args.self.now.channels.items _ (sym none
    ∙ named_at c.args.self.now.channels.items c.as_slice.result.now c.args.frame.now c.args.parts.now.tag
    c.place_named.result c.as_slice.ensures.value c.requires.read.0.reading.tag c.place_named.ensures)

pub returns-in-None : goal.returns-in-None
returns-in-None c =
    let p = (goal.at.returns-in-None c).After-place_named in
    let side = rx_side_in c.args.policy.validate c.args.policy.replay c.args.self.now.channels.items in
    record {
      outcome = settles_bare side (ceilings_among c.args.self.now.channels.items) c.args.frame.now NoChannel NoSci
          UnknownSci c.args.policy.validate
          (first_no_channel side c.args.frame.now c.args.parts.now c.requires.read (absent p c.in-None.is))
          refl refl refl _ _ _ c.discard_or_deliver.ensures.verdict c.discard_or_deliver.ensures.given refl;
      side = refl;
      ceilings = refl;
      counters = sym (ap (λ (o : Option (List ℕ)). counters_after_verdict_at o (tag_of c.args.frame.now)
          c.discard_or_deliver.result c.discard_or_deliver.new.out.items
          (counters_among c.args.self.now.channels.items)) (absent p c.in-None.is));
    }
