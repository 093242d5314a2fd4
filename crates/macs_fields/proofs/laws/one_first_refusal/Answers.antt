use Rattle.std.specs.Prelude.{IsTrue}
use Rattle.macs_fields.proofs.FirstRefusal.{first-once, first-some, first-none, none-first}
use Rattle.macs_fields.proofs.laws.one_first_refusal.Goals as goal

pub returns-clause-once : goal.returns-clause-once
returns-clause-once g c = λ holds refusals a b. first-once (λ r. IsTrue (holds r)) refusals a b

pub returns-clause-some : goal.returns-clause-some
returns-clause-some g c = first-some

pub returns-clause-none : goal.returns-clause-none
returns-clause-none g c = λ holds refusals no.
    let none = first-none holds refusals no in
    (none, λ r. none-first (λ q. IsTrue (holds q)) refusals r none)
