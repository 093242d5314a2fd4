use Rattle.std.proofs.Common.{ℕ, false, subst, true}
use Rattle.macs_disk.specs.DeviceCalls.{IsWithin}
use Rattle.macs_control.proofs.KeeperWork.{makes}
use Rattle.macs_control.proofs.keeping.keeper.serve_one.Goals as goal

pub returns-then-make-clause-served : goal.returns-then-make-clause-served
returns-then-make-clause-served g c =
    makes _ _ _ c.in-Ok.call true _ _ c.in-Ok.ensures.call.1
    (subst (λ (n : ℕ). IsWithin n c.in-Ok.call) c.sectors.ensures c.in-Ok.ensures.call.0)
    (rw c.if-make.true at c.make.ensures.made)

pub returns-else-make-clause-end : goal.returns-else-make-clause-end
returns-else-make-clause-end g c =
    makes _ _ _ c.in-Ok.call false _ _ c.in-Ok.ensures.call.1
    (subst (λ (n : ℕ). IsWithin n c.in-Ok.call) c.sectors.ensures c.in-Ok.ensures.call.0)
    (rw c.if-make.false at c.make.ensures.made)
