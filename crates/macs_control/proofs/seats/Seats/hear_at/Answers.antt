use Rattle.std.proofs.Common.{◌≡◌, ◌∙◌, ◌+◌, ◌++◌, List, ap, drop, rules, subst, sym, take}
use Rattle.std.proofs.lemmas.List.{get_or-set_same}
use Rattle.macs_control.proofs.Found.{left-there, moved-last, read-at, taken-out}
use Rattle.macs_control.proofs.HearingTurns.{goes-from, no-line, stays-at}
use Rattle.macs_control.specs.Hearings.{LooksAt}
use Rattle.macs_control.specs.Places.{last_of, places_of, seat_in, second_of, standing_in}
use Rattle.macs_control.specs.Seats.{client_of}
use Rattle.macs_control.specs.Standings.{is_let_go}
use Rattle.macs_control.specs.declared.place.Place.{Place}
use Rattle.macs_control.specs.declared.seat.Hearing.{Hearing}
use Rattle.macs_control.specs.declared.standing.Standing.{Standing}
use Rattle.macs_control.proofs.seats.Seats.hear_at.Goals as goal
use Rattle.macs_control.proofs.seats.Seats.hear_at.Goals.{then-is_let_go, else-is_let_go}

pub returns-in-Line-clause-heard : goal.returns-in-Line-clause-heard
returns-in-Line-clause-heard g c =
    let old = c.args.self.now.places.items in
    let at = c.args.at in
    let place = c.index_mut.result.now in
    let looked = c.hear-heard.new.self in
    let there = read-at old at place c.requires c.index_mut.ensures.value in
    let same : c.index-place.result.now ≡ looked =
    c.index-place.ensures ∙ get_or-set_same old at looked c.index-place.result.now c.requires in
    let P : Hearing → Type 0 = λ h. LooksAt g.S.Connection.link c.args.self.now.second place h looked in
    let moved = c.move_last.ensures.moved in (
      place,
      there,
      (
        looked,
        subst P c.in-Line.is c.hear-heard.ensures,
        c.client-client.ensures ∙ ap (λ (p : Place g.row.S.Denot). client_of (seat_in p)) same
            ∙ c.hear-heard.ensures.client,
        moved-last old at place looked c.requires c.index_mut.ensures.value moved.0 moved.1 _ moved.2,
      ),
    )

pub returns-after-is_let_go : goal.returns-after-is_let_go
returns-after-is_let_go g c =
    let old = c.args.self.now.places.items in
    let at = c.args.at in
    let place = c.index_mut.result.now in
    let looked = c.hear-heard.new.self in
    let heard = c.hear-heard.result in
    let there = read-at old at place c.requires c.index_mut.ensures.value in
    let quiet = no-line heard c.in-Silence.is in
    let same : c.index-place.result.now ≡ looked =
    c.index-place.ensures ∙ get_or-set_same old at looked c.index-place.result.now c.requires in
    let tested : c.is_let_go-is_let_go.result ≡ is_let_go heard (standing_in looked) = c.is_let_go-is_let_go.ensures
    ∙ ap (λ (s : Standing). is_let_go heard s)
    (c.standing.ensures ∙ ap (λ (p : Place g.row.S.Denot). standing_in p) same) in
    elim c.if-is_let_go.branch [
      | then-is_let_go w ↦
          let goes = goes-from heard looked (sym tested ∙ search (rules, w.if-is_let_go.true)) in record {
            heard = (
              place,
              there,
              (
                heard,
                looked,
                c.hear-heard.ensures,
                quiet,
                ap places_of w.self-is
                    ∙ w.remove.ensures.items ∙ taken-out old at place looked c.requires c.index_mut.ensures.value
                    ∙ ap (λ (l : List (Place g.row.S.Denot)). take at old ++ l ++ drop (at + 1) old) (sym goes),
              ),
            );
            counts = (ap second_of w.self-is, ap last_of w.self-is);
          }
      | else-is_let_go w ↦
          let stays = stays-at heard looked (sym tested ∙ search (rules, w.if-is_let_go.false)) in record {
            heard = (
              place,
              there,
              (
                heard,
                looked,
                c.hear-heard.ensures,
                quiet,
                ap places_of w.self-is
                    ∙ left-there old at place looked c.requires c.index_mut.ensures.value
                    ∙ ap (λ (l : List (Place g.row.S.Denot)). take at old ++ l ++ drop (at + 1) old) (sym stays),
              ),
            );
            counts = (ap second_of w.self-is, ap last_of w.self-is);
          }
    ]
