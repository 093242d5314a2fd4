use Rattle.std.proofs.Common.{◌≡◌, ◌∙◌, ◌++◌, ◌∷◌, [], List, ap, rules}
use Rattle.macs_control.proofs.Found.{read-at}
use Rattle.macs_control.specs.declared.place.Place.{Place}
use Rattle.macs_control.proofs.seats.Seats.move_last.Goals as goal

pub returns-clause-moved : goal.returns-clause-moved
returns-clause-moved g c =
    let place = c.remove-place.result in
    let put : c.push.new.self.items ≡ c.remove-place.new.self.items ++ place ∷ [] = search rules in (
      place,
      read-at c.args.self.now.places.items c.args.at place c.requires c.remove-place.ensures.value,
      put ∙ ap (λ (l : List (Place g.row.S.Denot)). l ++ place ∷ []) c.remove-place.ensures.items,
    )
