use Rattle.std.proofs.Common.{rules, ◌≡◌, ℕ, ◌+◌, ◌-◌, arith, ap, sym, ◌∙◌, refl}
use Rattle.std.specs.IoError.{error_kind}
use Rattle.std.specs.declared.io.ErrorKind.TheVariants.{Interrupted}
use Rattle.macs_disk.specs.FileFailures.{Reads}
use Rattle.macs_disk.specs.Files.{Behaves, FileState, values_from}
use Rattle.macs_disk.proofs.FileReads.{values-none, read-more, read-none, length-filled, room-fits}
use Rattle.macs_disk.proofs.FailedCalls.{none-failed, one-failed}
use Rattle.macs_disk.proofs.InterruptedCalls.{interrupted-then, moved-late, moved-nothing, none-interrupted, none-yet}
use Rattle.macs_disk.proofs.InterruptedCalls.{not-moved, one-interrupted}
use Rattle.macs_disk.proofs.file_calls.read_whole.Goals as goal
use Rattle.macs_disk.proofs.file_calls.read_whole.Goals.{in-Ok, in-Err+else-ne}

pub loop-init : goal.loop-init
loop-init g c = (c.told-into, omega arith, refl, λ _. refl, λ _. sym (values-none _ _), none-yet _)

pub loop-preserved : goal.loop-preserved
loop-preserved g c =
    let inv = c.loop.invariant in
    let file = g.F.DiskFile.file in
    elim c.match-read_at.branch [
      | in-Ok w ↦
          let effect = λ (behaves : Behaves (file c.args.file.now)). w.in-Ok.ensures.effect (inv.2 ∙ behaves) in
          rw w.done-is (
            length-filled c.loop.done (512 - c.loop.done) c.loop.into c.read_at.new.into inv.0 c.read_at.auto.into,
            room-fits w.in-Ok.count c.loop.done c.loop.into c.read_at.new.into inv.1 w.in-Ok.ensures.bound
                c.read_at.auto.into,
            c.read_at.ensures.steady ∙ inv.2,
            λ behaves. (effect behaves).same ∙ inv.3 behaves,
            λ behaves. read-more _ c.args.from (c.args.from + c.loop.done) _ _ _ _ _ refl
                (omega (arith, inv.0, inv.1)) w.in-Ok.ensures.bound (inv.4 behaves)
                ((effect behaves).octets ∙ ap (λ (f : FileState).
                values_from f.seen (c.args.from + c.loop.done) w.in-Ok.count) (inv.3 behaves)),
            interrupted-then _ (g.F.DiskFile.failures c.loop.file) _ inv.5
                (none-interrupted _ _ (none-failed _ _ Reads error_kind _ w.in-Ok.ensures.failure)),
          )
      | in-Err+else-ne w ↦
          let is : error_kind w.in-Err.error ≡ Interrupted = search rules in
          rw w.done-is (
            length-filled c.loop.done (512 - c.loop.done) c.loop.into c.read_at.new.into inv.0 c.read_at.auto.into,
            inv.1,
            c.read_at.ensures.steady ∙ inv.2,
            λ behaves. (w.in-Err.ensures.effect (inv.2 ∙ behaves)).same ∙ inv.3 behaves,
            λ behaves. read-none _ _ _ _ _ _ (omega (arith, inv.0, inv.1)) (inv.4 behaves),
            interrupted-then _ (g.F.DiskFile.failures c.loop.file) _ inv.5 (one-interrupted _ _ Reads (error_kind
                w.in-Err.error) (one-failed ℕ _ _ Reads error_kind w.in-Err.error w.in-Err.ensures.failure) is),
          )
    ]

pub returns-then-ne-clause-cause : goal.returns-then-ne-clause-cause
returns-then-ne-clause-cause g c =
    not-moved _ (g.F.DiskFile.failures c.loop.file) _ Reads (error_kind c.in-Err.error) c.loop.invariant.5
    (one-failed ℕ _ _ Reads error_kind c.in-Err.error c.in-Err.ensures.failure) (search rules)

pub returns-in-Ok-eq0-clause-cause : goal.returns-in-Ok-eq0-clause-cause
returns-in-Ok-eq0-clause-cause g c =
    moved-nothing _ (g.F.DiskFile.failures c.loop.file) _ Reads _ c.loop.invariant.5
    (none-failed _ _ Reads error_kind _ c.in-Ok-eq0.ensures.failure) (search rules)

pub returns-clause-cause : goal.returns-clause-cause
returns-clause-cause g c = moved-late _ _ Reads _ c.loop.invariant.5 (search rules)
