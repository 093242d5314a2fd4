use Rattle.std.proofs.Common.{ℕ, rules, subst}
use Rattle.macs_disk.specs.Disk.{Writes, now}
use Rattle.macs_journal.proofs.bodies.write_head.Goals as goal

pub returns-clause-call : goal.returns-clause-call
returns-clause-call g c = c.write.ensures.call

pub returns-clause-does : goal.returns-clause-does
returns-clause-does g c honest =
    let d = g.D.SectorDisk.disk in (
      c.encode_head.result,
      search rules,
      subst (λ (at : ℕ). Writes (now (d c.args.disk.now)) (now (d c.write.new.self)) at c.encode_head.result
          c.write.result) c.head_body.ensures.at (c.write.ensures.effect honest),
    )
