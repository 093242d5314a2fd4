use Rattle.std.proofs.Common.{◌≡◌, ◌∙◌, sym, subst, ℕ, List}
use Rattle.macs_disk.specs.Fuses.{BlowsWrite}
use Rattle.macs_disk.proofs.BlownWrites.{same-fill}
use Rattle.macs_disk.proofs.MissedCalls.{missed-by-fuse, missed-write}
use Rattle.macs_disk.proofs.fuse.FuseSectorDisk.write.Goals as goal

pub returns-in-Some-clause-blown : goal.returns-in-Some-clause-blown
returns-in-Some-clause-blown g c fill none is =
    let same : c.in-Some.fill ≡ fill = same-fill _ _ (sym c.in-Some.is ∙ c.fill.ensures.found fill none is) in (
      c.blow_write.ensures.err,
      subst (λ (xs : List ℕ). BlowsWrite g.D.SectorDisk.disk c.args.self.now
          c.blow_write.new.self c.args.at xs) same c.blow_write.ensures.blown,
    )

pub returns-in_err-pass-clause-call : goal.returns-in_err-pass-clause-call
returns-in_err-pass-clause-call g c =
    let passes = c.pass.ensures in
    let err = c.in_err-pass.ensures.err in
    missed-by-fuse g.D.SectorDisk.disk c.args.self.now c.pass.new.self err.0 err.1
    (λ each. (passes.stopped err.0 each).1) (λ fill once. (passes.blown fill err.0 once).1)
    c.from_residual.result c.from_residual.ensures.0 passes.counted

pub returns-in_err-pass-clause-effect : goal.returns-in_err-pass-clause-effect
returns-in_err-pass-clause-effect g c _ =
    let passes = c.pass.ensures in
    let err = c.in_err-pass.ensures.err in
    missed-write g.D.SectorDisk.disk c.args.self.now c.pass.new.self err.0 err.1 (λ each. (passes.stopped err.0 each).1)
    (λ fill once. (passes.blown fill err.0 once).1)
    c.from_residual.result c.args.at c.args.from.now c.from_residual.ensures.0
