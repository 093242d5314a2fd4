use Rattle.std.proofs.Common.{rules, ◌≡◌, ◌<◌, ◌+◌, ◌-◌, ◌≤◌, ◌^◌, ℕ, arith, ap, length, ◌∙◌, refl, get_or}
use Rattle.std.specs.IoError.{error_kind}
use Rattle.std.specs.declared.io.ErrorKind.TheVariants.{Interrupted}
use Rattle.macs_disk.specs.FileFailures.{Writes}
use Rattle.macs_disk.specs.Files.{Behaves, FileState, IsSure}
use Rattle.macs_disk.proofs.FileWrites.{write-more, write-sure, part-fits, failed-behind, some-none}
use Rattle.macs_disk.proofs.FailedCalls.{none-failed, one-failed}
use Rattle.macs_disk.proofs.InterruptedCalls.{interrupted-then, moved-late, moved-nothing, none-interrupted, none-yet}
use Rattle.macs_disk.proofs.InterruptedCalls.{not-moved, one-interrupted}
use Rattle.macs_disk.proofs.file_calls.write_all.Goals as goal
use Rattle.macs_disk.proofs.file_calls.write_all.Goals.{in-Ok, in-Err+else-ne}

pub loop-init : goal.loop-init
loop-init g c = (omega arith, refl, search rules, search rules, none-yet _)

pub loop-preserved : goal.loop-preserved
loop-preserved g c =
    let inv = c.loop.invariant in
    let file = g.F.DiskFile.file in
    let done = c.loop.done in
    let from = c.args.from.now in
    let sure = λ (behaves : Behaves (file c.args.file.now)) (is : IsSure (file c.args.file.now)).
    ap (λ (f : FileState). f.is_sure) (inv.2 behaves is) ∙ write-sure (file c.args.file.now) c.args.at _ ∙ is in
    elim c.match-write_at.branch [
      | in-Ok w ↦
          let fits : w.in-Ok.count ≤ length from - done =
          part-fits w.in-Ok.count (length from - done) done from w.in-Ok.ensures.bound in
          rw w.done-is (
            omega (arith, inv.0, fits),
            c.write_at.ensures.steady ∙ inv.1,
            λ behaves is. write-more (file c.args.file.now) (file c.loop.file) (file c.write_at.new.self) c.args.at
                (c.args.at + done) done w.in-Ok.count (length from - done) from
                (g.met.F.DiskFile.sound c.args.file.now behaves).wide (inv.2 behaves is) refl inv.0 fits
                ((w.in-Ok.ensures.effect (inv.1 ∙ behaves)).ok (sure behaves is)),
            λ behaves doubt. (w.in-Ok.ensures.effect (inv.1 ∙ behaves)).doubt (inv.3 behaves doubt),
            interrupted-then _ (g.F.DiskFile.failures c.loop.file) _ inv.4
                (none-interrupted _ _ (none-failed _ _ Writes error_kind _ w.in-Ok.ensures.failure)),
          )
      | in-Err+else-ne w ↦
          let is : error_kind w.in-Err.error ≡ Interrupted = search rules in
          let same = λ (behaves : Behaves (file c.args.file.now)). w.in-Err.ensures.interrupted (inv.1 ∙ behaves) is in
          rw w.done-is (
            inv.0,
            c.write_at.ensures.steady ∙ inv.1,
            λ behaves sure. same behaves ∙ inv.2 behaves sure,
            λ behaves doubt. (w.in-Err.ensures.effect (inv.1 ∙ behaves)).doubt (inv.3 behaves doubt),
            interrupted-then _ (g.F.DiskFile.failures c.loop.file) _ inv.4 (one-interrupted _ _ Writes (error_kind
                w.in-Err.error) (one-failed ℕ _ _ Writes error_kind w.in-Err.error w.in-Err.ensures.failure) is),
          )
    ]

pub returns-then-ne-clause-effect : goal.returns-then-ne-clause-effect
returns-then-ne-clause-effect g c behaves =
    let inv = c.loop.invariant in
    let file = g.F.DiskFile.file in
    let done = c.loop.done in
    let from = c.args.from.now in
    let small : (i : ℕ) → get_or from i 0 < 2 ^ 8 = λ i. (let fits = c.type_inv.from i in omega (arith, fits)) in
    let effect = c.in-Err.ensures.effect (inv.1 ∙ behaves) in
    record {
      ok = λ _. tt;
      err = λ is.
          let sure : IsSure (file c.loop.file) = ap (λ (f : FileState). f.is_sure) (inv.2 behaves is)
          ∙ write-sure (file c.args.file.now) c.args.at _ ∙ is in
          failed-behind (file c.args.file.now) (file c.loop.file) (file c.write_at.new.self) c.args.at
          (c.args.at + done) done (length from - done) from
          (g.met.F.DiskFile.sound c.args.file.now behaves).wide small (inv.2 behaves is) refl (omega (arith, inv.0))
          (effect.err sure);
      doubt = λ is. effect.doubt (inv.3 behaves is);
    }

pub returns-in-Ok-eq0-clause-effect : goal.returns-in-Ok-eq0-clause-effect
returns-in-Ok-eq0-clause-effect g c behaves =
    let inv = c.loop.invariant in
    let file = g.F.DiskFile.file in
    let done = c.loop.done in
    let from = c.args.from.now in
    let small : (i : ℕ) → get_or from i 0 < 2 ^ 8 = λ i. (let fits = c.type_inv.from i in omega (arith, fits)) in
    let effect = c.in-Ok-eq0.ensures.effect (inv.1 ∙ behaves) in
    let zero : c.in-Ok-eq0.field-0 ≡ 0 = search rules in
    record {
      ok = λ _. tt;
      err = λ is.
          let sure : IsSure (file c.loop.file) = ap (λ (f : FileState). f.is_sure) (inv.2 behaves is)
          ∙ write-sure (file c.args.file.now) c.args.at _ ∙ is in
          let none = rw zero at (effect.ok sure) in
          failed-behind (file c.args.file.now) (file c.loop.file) (file c.write_at.new.self) c.args.at
          (c.args.at + done) done (length from - done) from
          (g.met.F.DiskFile.sound c.args.file.now behaves).wide small (inv.2 behaves is) refl (omega (arith, inv.0))
          (some-none _ _ _ _ none);
      doubt = λ is. effect.doubt (inv.3 behaves is);
    }

pub returns-then-ne-clause-cause : goal.returns-then-ne-clause-cause
returns-then-ne-clause-cause g c =
    not-moved _ (g.F.DiskFile.failures c.loop.file) _ Writes (error_kind c.in-Err.error) c.loop.invariant.4
    (one-failed ℕ _ _ Writes error_kind c.in-Err.error c.in-Err.ensures.failure) (search rules)

pub returns-in-Ok-eq0-clause-cause : goal.returns-in-Ok-eq0-clause-cause
returns-in-Ok-eq0-clause-cause g c =
    moved-nothing _ (g.F.DiskFile.failures c.loop.file) _ Writes _ c.loop.invariant.4
    (none-failed _ _ Writes error_kind _ c.in-Ok-eq0.ensures.failure) (search rules)

pub returns-clause-cause : goal.returns-clause-cause
returns-clause-cause g c = moved-late _ _ Writes _ c.loop.invariant.4 (search rules)
