use Rattle.std.proofs.Common.{◌∙◌, ◌+◌, arith, inl, inr, refl, subst, sym}
use Rattle.std.proofs.lemmas.Result.{err_from_is_err_and}
use Rattle.std.specs.declared.io.ErrorKind.TheVariants.{TimedOut}
use Rattle.macs_disk.specs.FileDisks.{HasFront}
use Rattle.macs_disk.specs.FileFailures.{Reads}
use Rattle.macs_disk.specs.Files.{FileState}
use Rattle.macs_disk.proofs.InterruptedCalls.{interrupted-then, later-copy-fails, moved-late}
use Rattle.macs_disk.proofs.claimed_file.copy_octets.Goals as goal

pub loop-preserved : goal.loop-preserved
loop-preserved g c =
    let inv = c.loop.invariant in
    let file = g.F.DiskFile.file in
    let failures = g.F.DiskFile.failures in
    let some = c.in_ok-done.ensures in
    let few = some.few in (
      omega (arith, few),
      c.copy_some.ensures.steady ∙ inv.1,
      c.copy_some.ensures.steady_from ∙ inv.2,
      λ behaves. c.copy_some.ensures.same (inv.2 ∙ behaves) ∙ inv.3 behaves,
      λ behaves made.
          subst (λ (f : FileState). HasFront f (c.loop.done + c.in_ok-done.field-0) (file c.copy_some.new.into))
          (inv.3 behaves)
          (some.front (inv.2 ∙ behaves)
          (subst (λ (f : FileState). HasFront f c.loop.done (file c.loop.into)) (sym (inv.3 behaves))
          (inv.4 behaves made))),
      interrupted-then _ (failures c.loop.from) _ inv.5 some.quiet.0,
      interrupted-then _ (failures c.loop.into) _ inv.6 some.quiet.1,
    )

pub returns-in_err-done-clause-cause : goal.returns-in_err-done-clause-cause
returns-in_err-done-clause-cause g c =
    let inv = c.loop.invariant in
    let p = err_from_is_err_and c.from_residual.result c.from_residual.ensures.1 in
    rw (p.1, p.2) (later-copy-fails _ (g.F.DiskFile.failures c.loop.from) _ _ (g.F.DiskFile.failures c.loop.into) _
    c.in_err-done.field-0.0 inv.5 inv.6 c.in_err-done.ensures.cause)

pub returns-clause-cause : goal.returns-clause-cause
returns-clause-cause g c =
    let inv = c.loop.invariant in
    inl (refl, TimedOut, moved-late _ _ Reads TimedOut inv.5 (inr (inr refl)))
