use Rattle.macs_commands.proofs.Keyed.{refuses}
use Rattle.macs_commands.proofs.Stages.{begins, meets, rekeys}
use Rattle.macs_commands.proofs.links.laws.plans.Goals as goal

pub returns-clause-refuses : goal.returns-clause-refuses
returns-clause-refuses c = refuses

pub returns-clause-meets : goal.returns-clause-meets
returns-clause-meets c = meets

pub returns-clause-begins : goal.returns-clause-begins
returns-clause-begins c = begins

pub returns-clause-rekeys : goal.returns-clause-rekeys
returns-clause-rekeys c = rekeys
