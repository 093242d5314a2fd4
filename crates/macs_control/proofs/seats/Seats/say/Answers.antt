use Rattle.std.proofs.Common.{◌∙◌, ◌++◌, ◌∷◌, [], Bool, ap, inl, refl, sym}
use Rattle.std.specs.Prelude.{if◌then◌else◌, position}
use Rattle.macs_control.proofs.Found.{found, is-none, not-found, written, written-removed}
use Rattle.macs_control.proofs.HearingTurns.{said-to}
use Rattle.macs_control.specs.Places.{is_of}
use Rattle.macs_control.proofs.seats.Seats.say.Goals as goal

pub returns-in_default-clause-said : goal.returns-in_default-clause-said
returns-in_default-clause-said g c =
    let sought = c.at_client.ensures ∙ ap (position (is_of c.args.client)) c.as_slice.ensures.value in
    inl (
      not-found (is_of c.args.client) c.args.self.now.places.items
          (is-none c.at_client.result c.in_default.not-Some ∙ sought),
      refl,
    )

pub returns-then-not-say-clause-said : goal.returns-then-not-say-clause-said
returns-then-not-say-clause-said g c =
    let old = c.args.self.now.places.items in
    let said = c.say.new.self in
    let sought = c.at_client.ensures ∙ ap (position (is_of c.args.client)) c.as_slice.ensures.value in
    let p = found (is_of c.args.client) old c.in-Some.at (sym c.in-Some.is ∙ sought) in
    said-to g.S.Connection.link c.args.self.now.second c.args.client c.args.text.now old _ c.in-Some.at p
    c.index_mut.result.now said c.say.result c.index_mut.ensures.value c.say.ensures
    (c.remove.ensures.items ∙ written-removed old p.front p.x p.rest c.in-Some.at said p.whole p.place
    ∙ ap (λ (b : Bool). p.front ++ (if b then said ∷ [] else []) ++ p.rest) (sym c.if-not-say.true))

pub returns-else-not-say-clause-said : goal.returns-else-not-say-clause-said
returns-else-not-say-clause-said g c =
    let old = c.args.self.now.places.items in
    let said = c.say.new.self in
    let sought = c.at_client.ensures ∙ ap (position (is_of c.args.client)) c.as_slice.ensures.value in
    let p = found (is_of c.args.client) old c.in-Some.at (sym c.in-Some.is ∙ sought) in
    said-to g.S.Connection.link c.args.self.now.second c.args.client c.args.text.now old _ c.in-Some.at p
    c.index_mut.result.now said c.say.result c.index_mut.ensures.value c.say.ensures
    (written old p.front p.x p.rest c.in-Some.at said p.whole p.place
    ∙ ap (λ (b : Bool). p.front ++ (if b then said ∷ [] else []) ++ p.rest) (sym c.if-not-say.false))
