use Rattle.std.proofs.Common.{Some, None, [], ◌∷◌, inl, inr, refl}
use Rattle.macs_commands.specs.Talks.{Heard}
use Rattle.macs_control.proofs.desk.listening.listen.Goals as goal

pub returns-in-Some-clause-listens : goal.returns-in-Some-clause-listens
returns-in-Some-clause-listens g c =
    let heard = c.in-Some.heard in
    let read = c.read.ensures.reads in (
      Heard (Some heard) ∷ read.0,
      inr (heard, read.0, refl, refl, read.1),
      (c.hear.new.self, c.in-Some.ensures, read.2),
    )

pub returns-in-None-clause-listens : goal.returns-in-None-clause-listens
returns-in-None-clause-listens g c =
    (Heard None ∷ [], inl (refl, refl, refl), (c.hear.new.self, c.in-None.ensures, refl))
