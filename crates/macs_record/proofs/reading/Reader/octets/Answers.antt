use Rattle.std.proofs.Common.{rules, ◌<◌, ◌^◌, List, ℕ, arith, subst}
use Rattle.std.specs.List.{All}
use Rattle.std.proofs.lemmas.Grind.{common_steps}
use Rattle.macs_record.proofs.Numbers.{taken}
use Rattle.macs_record.proofs.reading.Reader.octets.Goals as goal

pub returns-clause-some : goal.returns-clause-some
returns-clause-some g c =
    taken _ c.args.self.now _ _ (subst (λ (xs : List ℕ). All (λ octet. octet < 2 ^ 8) xs) c.self.view_is
    c.octets_in_range.ensures) (search rules) (grind (arith, common_steps))
