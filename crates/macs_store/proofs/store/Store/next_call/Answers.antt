use Rattle.std.proofs.Common.{inl, inr}
use Rattle.macs_store.specs.Table.{standing_of}
use Rattle.macs_store.specs.UnderWay.{under_way_of}
use Rattle.macs_store.proofs.MadeSteps.{both-idle, idle-both, lent}
use Rattle.macs_store.proofs.store.Store.next_call.Goals as goal

pub next_call-requires : goal.next_call-requires
next_call-requires g c =
    record {
      lent = lent c.self.inside.journal (standing_of c.self.inside.standing) (under_way_of c.self.inside.under_way)
          c.self.invariant;
    }

pub returns-clause-none : goal.returns-clause-none
returns-clause-none g c =
    let none = c.next_call.ensures.none in
    let standing = standing_of c.self.inside.standing in
    let under_way = under_way_of c.self.inside.under_way in
    rw (← c.self.view_is) (
      (λ is. elim (none.0 is) [
        | inl stopped ↦ inl stopped
        | inr idle ↦ inr (both-idle c.self.inside.journal standing under_way c.self.invariant idle)
      ]),
      (λ which. elim which [
        | inl stopped ↦ none.1 (inl stopped)
        | inr idle ↦ none.1 (inr (idle-both c.self.inside.journal standing under_way c.self.invariant idle))
      ]),
    )
