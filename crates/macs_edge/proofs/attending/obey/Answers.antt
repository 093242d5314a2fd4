use Rattle.std.proofs.Common.{[], ◌∷◌, refl}
use Rattle.macs_edge.specs.declared.attending.DeskEvent.TheVariants.{Took, Wanted}
use Rattle.macs_edge.specs.declared.attending.Order.TheVariants.{Go, End, Submit}
use Rattle.macs_edge.proofs.attending.obey.Goals as goal

pub returns-in-Go : goal.returns-in-Go
returns-in-Go g c = (
  Wanted c.args.was_quiet Go ∷ [],
  (Go, [], refl, (refl, refl), refl),
  (c.next.new.self, c.in-Go.ensures, refl),
)

pub returns-in-Submit : goal.returns-in-Submit
returns-in-Submit g c =
    let order = Submit c.in-Submit.command in (
      Wanted c.args.was_quiet order ∷ Took c.submit.result ∷ [],
      (order, Took c.submit.result ∷ [], refl, (c.submit.result, refl, c.facts.ensures, c.submit.ensures.call), refl),
      (c.next.new.self, c.in-Submit.ensures, (c.took.new.self, c.took.ensures, refl)),
    )

pub returns-in-End : goal.returns-in-End
returns-in-End g c = (
  Wanted c.args.was_quiet End ∷ [],
  (End, [], refl, (refl, refl), refl),
  (c.next.new.self, c.in-End.ensures, refl),
)
