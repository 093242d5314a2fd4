use Rattle.std.proofs.Common.{◌∙◌, Bool, refl, subst, sym}
use Rattle.macs_control.specs.ControlSockets.{DisplacesIf}
use Rattle.macs_control.proofs.control_socket.hear.Goals as goal

pub returns-then-gives_place-clause-hears : goal.returns-then-gives_place-clause-hears
returns-then-gives_place-clause-hears g c =
    let waiting = g.L.Door.waiting in
    let P : Bool → Type 0 = λ b. DisplacesIf b (waiting c.greet.new.door) c.hear-heard.new.self
    (waiting c.greet_one.new.door) c.greet_one.new.seats in
    record {
      between = waiting c.greet.new.door;
      greeted = c.greet.new.seats;
      asked = c.hear-heard.new.self;
      greets = c.greet.ensures.greets;
      all = c.greet.ensures.all;
      hears = c.hear-heard.ensures.heard;
      counts = c.hear-heard.ensures.counts;
      displaces = subst P (sym c.if-gives_place.true ∙ c.gives_place.ensures)
          (c.greet_one.result, c.greet_one.ensures.greets);
    }

pub returns-then-gives_place-clause-same : goal.returns-then-gives_place-clause-same
returns-then-gives_place-clause-same g c = c.greet_one.ensures.same ∙ c.greet.ensures.same

pub returns-else-gives_place-clause-hears : goal.returns-else-gives_place-clause-hears
returns-else-gives_place-clause-hears g c =
    let waiting = g.L.Door.waiting in
    let P : Bool → Type 0 = λ b. DisplacesIf b (waiting c.greet.new.door) c.hear-heard.new.self
    (waiting c.greet.new.door) c.hear-heard.new.self in
    record {
      between = waiting c.greet.new.door;
      greeted = c.greet.new.seats;
      asked = c.hear-heard.new.self;
      greets = c.greet.ensures.greets;
      all = c.greet.ensures.all;
      hears = c.hear-heard.ensures.heard;
      counts = c.hear-heard.ensures.counts;
      displaces = subst P (sym c.if-gives_place.false ∙ c.gives_place.ensures) (refl, refl);
    }
