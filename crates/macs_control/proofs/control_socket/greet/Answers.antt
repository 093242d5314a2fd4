use Rattle.std.proofs.Common.{◌∙◌, ◌<◌, Bool, arith, length, refl, subst}
use Rattle.macs_control.proofs.Greeted.{greets-more, greets-none, greets-over, leaves-nobody}
use Rattle.macs_control.specs.Newcomers.{GreetsOne}
use Rattle.macs_control.specs.Places.{places_of}
use Rattle.macs_control.proofs.control_socket.greet.Goals as goal

pub loop-place-init : goal.loop-place-init
loop-place-init g c = record {
  greets = greets-none (g.L.Door.waiting c.args.door.now) c.args.seats.now;
  same = refl;
  few = omega (arith, c.len-place.ensures);
  many = λ more. omega (arith, c.len-place.ensures);
}

pub returns-then-not-greet_one-clause-greets : goal.returns-then-not-greet_one-clause-greets
returns-then-not-greet_one-clause-greets g c =
    let waiting = g.L.Door.waiting in
    let P : Bool → Type 0 = λ b. GreetsOne (waiting c.loop-place.door) c.loop-place.seats b
    (waiting c.greet_one.new.door) c.greet_one.new.seats in
    greets-over (waiting c.args.door.now) c.args.seats.now (waiting c.loop-place.door) c.loop-place.seats
    (waiting c.greet_one.new.door) c.greet_one.new.seats c.loop-place.invariant.greets
    (subst P c.if-not-greet_one.true c.greet_one.ensures.greets)

pub returns-then-not-greet_one-clause-all : goal.returns-then-not-greet_one-clause-all
returns-then-not-greet_one-clause-all g c =
    let waiting = g.L.Door.waiting in
    let P : Bool → Type 0 = λ b. GreetsOne (waiting c.loop-place.door) c.loop-place.seats b
    (waiting c.greet_one.new.door) c.greet_one.new.seats in
    leaves-nobody (waiting c.loop-place.door) c.loop-place.seats (waiting c.greet_one.new.door)
    c.greet_one.new.seats (subst P c.if-not-greet_one.true c.greet_one.ensures.greets)

pub returns-then-not-greet_one-clause-same : goal.returns-then-not-greet_one-clause-same
returns-then-not-greet_one-clause-same g c = c.greet_one.ensures.same ∙ c.loop-place.invariant.same

pub returns-clause-all : goal.returns-clause-all
returns-clause-all g c =
    λ few more. let many = c.loop-place.invariant.many more in
    absurd (omega (arith, few, many, c.loop-place-test.false))

pub loop-place-preserved : goal.loop-place-preserved
loop-place-preserved g c =
    let waiting = g.L.Door.waiting in
    let mid = c.loop-place.seats in
    let new = c.greet_one.new.seats in
    let P : Bool → Type 0 = λ b. GreetsOne (waiting c.loop-place.door) mid b (waiting c.greet_one.new.door) new in
    let few : length (places_of mid) < 4 = omega (arith, c.loop-place.invariant.few, c.loop-place-test.true) in
    let more = greets-more (waiting c.args.door.now) c.args.seats.now (waiting c.loop-place.door) mid
    (waiting c.greet_one.new.door) new c.loop-place.invariant.greets
    (subst P c.if-not-greet_one.false c.greet_one.ensures.greets) few in
    record {
      greets = more.greets;
      same = c.greet_one.ensures.same ∙ c.loop-place.invariant.same;
      few = omega (arith, more.few, c.loop-place.invariant.few);
      many = λ later. let sooner = more.later in
          let many = c.loop-place.invariant.many (omega (arith, later, sooner)) in
          omega (arith, many, more.many later);
    }
