use Rattle.std.proofs.Common.{inl, refl, subst}
use Rattle.macs_theorem.specs.Events.{Answers}
use Rattle.macs_theorem.specs.Programs.{IsMade, answer_of, holds}
use Rattle.macs_theorem.proofs.running.call.Goals as goal

pub returns-in-Some : goal.returns-in-Some
returns-in-Some g c =
    let made = subst
    (λ heard. IsMade g.D.SectorDisk.disk (holds c.args.held) c.args.request heard (holds c.make_call-next.result))
    c.in-Some.is c.make_call-next.ensures in
    inl (
      Answers (answer_of c.in-Some.heard),
      (c.in-Some.heard, made.0, refl),
      c.hear.ensures,
      made.1,
    )
