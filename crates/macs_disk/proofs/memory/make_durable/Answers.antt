use Rattle.std.proofs.Common.{sym, arith}
use Rattle.std.proofs.lemmas.List.{ext_get_or}
use Rattle.macs_disk.specs.States.{zero_sector}
use Rattle.macs_disk.proofs.memory.make_durable.Goals as goal

pub returns-clause-durable : goal.returns-clause-durable
returns-clause-durable g c =
    let kept = c.loop-i.invariant in
    ext_get_or zero_sector _ _ kept.as_durable
    (λ k within. sym (kept.clean k (kept.done k (omega (arith, within, kept.as_durable)))))
