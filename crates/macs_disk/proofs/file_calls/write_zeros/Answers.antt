use Rattle.std.proofs.Common.{rules, ◌≡◌, ◌≤◌, ℕ, inl, inr, refl, arith, ap, ◌∙◌, length, replicate, take}
use Rattle.std.proofs.lemmas.List.{length-replicate, take-replicate}
use Rattle.std.specs.IoError.{error_kind}
use Rattle.std.proofs.lemmas.Result.{err_from_is_err_and}
use Rattle.macs_disk.specs.FileFailures.{Writes}
use Rattle.macs_disk.specs.Files.{FileState, IsSure}
use Rattle.macs_disk.proofs.FileWrites.{failed-writes, write-sure, zeros-failed, zeros-more}
use Rattle.macs_disk.proofs.InterruptedCalls.{interrupted-then, later-not-moved, moved-late, none-yet}
use Rattle.macs_disk.proofs.file_calls.write_zeros.Goals as goal

pub loop-init : goal.loop-init
loop-init g c = (omega arith, inr refl, refl, search rules, search rules, none-yet _)

pub loop-preserved : goal.loop-preserved
loop-preserved g c =
    let inv = c.loop.invariant in
    let file = g.F.DiskFile.file in
    let count = c.min-count.result in
    let least = c.min-count.ensures in
    let more = c.if-at-to.false in
    let short : count ≤ 4096 = omega (arith, least) in (
      omega (arith, inv.0),
      inl (omega (arith, least, more)),
      c.in_ok-write_all.ensures.steady ∙ inv.2,
      λ behaves is.
          let sure : IsSure (file c.loop.file) = ap (λ (f : FileState). f.is_sure) (inv.3 behaves is)
          ∙ write-sure (file c.args.file.now) c.args.from _ ∙ is in
          zeros-more (file c.args.file.now) (file c.loop.file) (file c.write_all.new.file) c.args.from c.loop.at count _
          (g.met.F.DiskFile.sound c.args.file.now behaves).wide
          (inv.3 behaves is) inv.0 (take-replicate count 4096 0 short)
          ((c.in_ok-write_all.ensures.effect (inv.2 ∙ behaves)).ok sure),
      λ behaves doubt. (c.in_ok-write_all.ensures.effect (inv.2 ∙ behaves)).doubt (inv.4 behaves doubt),
      interrupted-then _ (g.F.DiskFile.failures c.loop.file) _ inv.5 c.in_ok-write_all.ensures.quiet,
    )

pub returns-in_err-write_all-clause-effect : goal.returns-in_err-write_all-clause-effect
returns-in_err-write_all-clause-effect g c behaves =
    let inv = c.loop.invariant in
    let file = g.F.DiskFile.file in
    let count = c.min-count.result in
    let least = c.min-count.ensures in
    let more = c.if-at-to.false in
    let short : count ≤ 4096 = omega (arith, least) in
    let long : length (take count (replicate {A = ℕ} 4096 0)) ≡ count = ap length (take-replicate count 4096 0 short)
    ∙ length-replicate {A = ℕ} count 0 in
    failed-writes (file c.args.file.now) (file c.write_all.new.file) c.args.from _ c.from_residual.result
    c.from_residual.ensures.0
    (λ is.
    let sure : IsSure (file c.loop.file) = ap (λ (f : FileState). f.is_sure) (inv.3 behaves is)
    ∙ write-sure (file c.args.file.now) c.args.from _ ∙ is in
    zeros-failed (file c.args.file.now) (file c.loop.file) (file c.write_all.new.file) c.args.from c.loop.at c.args.to
    (length (take count (replicate {A = ℕ} 4096 0)))
    (g.met.F.DiskFile.sound c.args.file.now behaves).wide (inv.3 behaves is) inv.0
    ((c.in_err-write_all.ensures.effect (inv.2 ∙ behaves)).err sure)
    (omega (arith, long, least, more)))
    (λ is. (c.in_err-write_all.ensures.effect (inv.2 ∙ behaves)).doubt (inv.4 behaves is))

pub returns-in_err-write_all-clause-cause : goal.returns-in_err-write_all-clause-cause
returns-in_err-write_all-clause-cause g c =
    let p = err_from_is_err_and c.from_residual.result c.from_residual.ensures.1 in
    rw (p.1, p.2) (later-not-moved _ (g.F.DiskFile.failures c.loop.file) _ Writes
    (error_kind c.in_err-write_all.field-0.0) c.loop.invariant.5 c.in_err-write_all.ensures.cause)

pub returns-clause-cause : goal.returns-clause-cause
returns-clause-cause g c = moved-late _ _ Writes _ c.loop.invariant.5 (search rules)
