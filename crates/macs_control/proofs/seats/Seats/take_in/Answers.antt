use Rattle.std.proofs.Common.{◌≡◌, ◌∙◌, ◌++◌, ◌∷◌, ◌+◌, [], List, ℕ, ap, rules}
use Rattle.macs_control.specs.Places.{last_of}
use Rattle.macs_control.specs.Standings.{new_standing}
use Rattle.macs_control.specs.declared.place.Place.{Place}
use Rattle.macs_commands.specs.declared.requests.clients.Client.{Client}
use Rattle.macs_control.proofs.seats.Seats.take_in.Goals as goal

pub returns-clause-taken : goal.returns-clause-taken
returns-clause-taken g c = λ is_open.
    let place = c.new-place.result in
    let made = c.if-not-make_room.ensures in
    let numbered : c.in-Some.number ≡ last_of c.args.self.now + 1 = search rules in
    let put : c.push.new.self.items ≡ c.make_room.new.self.places.items ++ place ∷ [] = search rules in record {
      place = place;
      is_new = record {
        client = c.new-place.ensures.new.client ∙ ap (λ (n : ℕ). let it : Client = record { 0 = n } in it) numbered;
        held = c.new-place.ensures.new.held;
        standing = c.new-place.ensures.new.standing ∙ ap new_standing made.counts.0;
      };
      is_its = c.new-place.ensures.connection;
      places = put ∙ ap (λ (l : List (Place g.row.S.Denot)). l ++ place ∷ []) made.left;
      last = numbered;
      second = made.counts.0;
    }
