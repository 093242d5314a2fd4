use Rattle.std.proofs.Common.{◌≡◌, ◌∙◌, ◌+◌, ℕ, true, false, arith, drop, length, rules, subst, sym, take}
use Rattle.std.specs.Prelude.{is_some}
use Rattle.macs_control.proofs.HearingTurns.{SoFar, goes-next, no-line-of, some-next, stays-next}
use Rattle.macs_control.specs.Hearings.{HearsOne}
use Rattle.macs_control.specs.Places.{places_of, second_of}
use Rattle.macs_control.proofs.seats.Seats.hear.Goals as goal
use Rattle.macs_control.proofs.seats.Seats.hear.Goals.{then-len-before, else-len-before}

pub returns-then-is_some-clause-heard : goal.returns-then-is_some-clause-heard
returns-then-is_some-clause-heard g c =
    let link = g.S.Connection.link in
    let old = c.args.self.now in
    let loop = c.loop-place in
    let heard = c.hear_at-heard.result in
    let new = places_of c.hear_at-heard.new.self in
    let h = c.hear_at-heard.ensures.heard in
    let P : ℕ → Type 0 = λ n. HearsOne link n (take loop.at (places_of loop.self)) h.0
    (drop (loop.at + 1) (places_of loop.self)) heard new in
    let some : is_some heard ≡ true = search (rules, c.if-is_some.true, c.is_some.ensures) in
    some-next link (second_of old) (places_of old) (places_of loop.self) loop._place loop.at
    loop.invariant.so_far h.0 h.1
    heard new some (subst P loop.invariant.counts.0 h.2)

pub loop-place-preserved : goal.loop-place-preserved
loop-place-preserved g c =
    let link = g.S.Connection.link in
    let old = c.args.self.now in
    let loop = c.loop-place in
    let heard = c.hear_at-heard.result in
    let now = c.hear_at-heard.new.self in
    let new = places_of now in
    let h = c.hear_at-heard.ensures.heard in
    let counts = c.hear_at-heard.ensures.counts in
    let front = take loop.at (places_of loop.self) in
    let rest = drop (loop.at + 1) (places_of loop.self) in
    let P : ℕ → Type 0 = λ n. HearsOne link n front h.0 rest heard new in
    let none : is_some heard ≡ false = search (rules, c.if-is_some.false, c.is_some.ensures) in
    let quiet = no-line-of link (second_of old) front h.0 rest heard new none (subst P loop.invariant.counts.0 h.2) in
    let Q : ℕ → Type 0 = λ n. SoFar link (second_of old) (places_of old) new (loop._place + 1) n in record {
      so_far = elim c.if-len-before.branch [
        | then-len-before w ↦
            let same : length new ≡ length (places_of loop.self) = omega (
              arith,
              w.if-len-before.true,
              c.len.ensures,
              c.len-before.ensures,
              now.places.ok.0,
              loop.self.places.ok.0,
            ) in
            subst Q (sym w.at-is)
            (stays-next link (second_of old) (places_of old) (places_of loop.self) loop._place loop.at
            loop.invariant.so_far h.0 h.1 new quiet same)
        | else-len-before w ↦
            let other : length new ≡ length (places_of loop.self) → ⊥ = λ same. absurd (omega (
              arith,
              w.if-len-before.false,
              c.len.ensures,
              c.len-before.ensures,
              now.places.ok.0,
              loop.self.places.ok.0,
            )) in
            subst Q (sym w.at-is)
            (goes-next link (second_of old) (places_of old) (places_of loop.self) loop._place loop.at
            loop.invariant.so_far h.0 h.1 new quiet other)
      ];
      counts = (counts.0 ∙ loop.invariant.counts.0, counts.1 ∙ loop.invariant.counts.1);
    }
