use Rattle.std.proofs.Common.{true, false, [], ◌∷◌, inl, inr, refl}
use Rattle.macs_commands.specs.Talks.{Looked}
use Rattle.macs_control.proofs.desk.listening.look.Goals as goal

pub returns-then-is_ended-clause-looks : goal.returns-then-is_ended-clause-looks
returns-then-is_ended-clause-looks g c =
    (Looked true ∷ [], inl (refl, refl, refl), (c.is_ended.new.self, c.if-is_ended.ensures, refl))

pub returns-then-is_full-clause-looks : goal.returns-then-is_full-clause-looks
returns-then-is_full-clause-looks g c = (
  Looked false ∷ [],
  inr ([], refl, rw c.if-is_full.true (refl, refl, refl)),
  (c.is_ended.new.self, c.if-is_ended.ensures, refl),
)

pub returns-clause-looks : goal.returns-clause-looks
returns-clause-looks g c =
    let listened = c.listen.ensures.listens in (
      Looked false ∷ listened.0,
      inr (listened.0, refl, rw c.if-is_full.false listened.1),
      (c.is_ended.new.self, c.if-is_ended.ensures, listened.2),
    )
