use Rattle.std.proofs.Common.{◌≡◌, ◌<◌, ◌+◌, ◌-◌, ◌∙◌, Result, inl, refl, rules, subst, ℕ, inr, List, length, ap, arith}
use Rattle.std.proofs.Common.{sym}
use Rattle.std.specs.IoError.{error_kind}
use Rattle.std.specs.declared.io.ErrorKind.TheVariants.{UnexpectedEof}
use Rattle.std.specs.declared.io.Error.{Error}
use Rattle.std.proofs.lemmas.Bool.{cases_lt}
use Rattle.macs_disk.specs.FileFailures.{NotesFailure, Reads}
use Rattle.macs_disk.specs.FileDisks.{HasFront}
use Rattle.macs_disk.specs.FileEvidence.{length-values, value-at}
use Rattle.macs_disk.specs.Files.{FileState, file_after_write, put_from, values_from}
use Rattle.macs_disk.proofs.FailedCalls.{none-failed}
use Rattle.macs_disk.proofs.InterruptedCalls.{moved-nothing, none-yet, not-read}
use Rattle.macs_disk.proofs.FileWrites.{put-at, put-before, write-behaves, write-block, write-seen, write-size}
use Rattle.macs_disk.proofs.FileWrites.{write-sure}
use Rattle.macs_disk.proofs.claimed_file.copy_some.Goals as goal

-- ---- a file is copied into an empty one, part by part

-- one part more
front-more : (from into new : FileState) (done count : ℕ) (octets : List ℕ) → 0 < count → HasFront from done into
    → octets ≡ values_from from.seen done count → new ≡ file_after_write into done octets
    → HasFront from (done + count) new
front-more from into new done count octets some front are is =
    subst (HasFront from (done + count)) (sym (is ∙ ap (file_after_write into done) are))
    (record {
      behaves = write-behaves into done part ∙ front.behaves;
      block = write-block into done part ∙ front.block;
      size = let size = write-size into done part (omega (arith, long, some)) in let was = front.size in
          omega (arith, size, was, long);
      is_sure = write-sure into done part ∙ front.is_sure;
      shown = λ p lt. write-seen into done part p ∙ shown p lt;
    })
  where
    part : List ℕ
    part = values_from from.seen done count

    long : length part ≡ count
    long = length-values from.seen done count

    shown : (p : ℕ) → p < done + count → put_from into.seen done part p ≡ from.seen p
    shown p lt = elim (cases_lt p done) [
      | inl before ↦ put-before into.seen done p part before ∙ front.shown p before
      | inr from_done ↦
          let place : done + (p - done) ≡ p = omega (arith, from_done) in
          put-at into.seen done p part from_done
          ∙ value-at from.seen done count (p - done) (into.seen p) (omega (arith, from_done, lt))
          ∙ ap from.seen place
    ]

pub returns-in_ok-write_all-in-Ok-clause-front : goal.returns-in_ok-write_all-in-Ok-clause-front
returns-in_ok-write_all-in-Ok-clause-front g c behaves front =
    let file = g.F.DiskFile.file in
    front-more (file c.args.from.now) (file c.args.into.now) (file c.write_all.new.file) c.args.at c.in-Ok.count _
    (search rules) front ((c.in-Ok.ensures.effect behaves).octets)
    ((c.in_ok-write_all-in-Ok.ensures.effect front.behaves).ok front.is_sure)

pub returns-in-Ok-eq0-clause-cause : goal.returns-in-Ok-eq0-clause-cause
returns-in-Ok-eq0-clause-cause g c = inl (
  refl,
  UnexpectedEof,
  moved-nothing _ (g.F.DiskFile.failures c.args.from.now) _ Reads UnexpectedEof (none-yet _)
      (none-failed _ _ Reads error_kind c.in-Ok-eq0.field-0
      (subst (λ (r : Result ℕ Error). NotesFailure (g.F.DiskFile.failures c.args.from.now)
      (g.F.DiskFile.failures c.read_at.new.self) Reads error_kind r) c.in-Ok-eq0.is c.read_at.ensures.failure))
      (inl refl),
)

pub returns-else-eq-clause-cause : goal.returns-else-eq-clause-cause
returns-else-eq-clause-cause g c =
    let (kind, fails) = not-read _ _ error_kind c.read_at.result (search rules) (search rules)
    c.read_at.ensures.failure in
    inl (refl, kind, fails)
