use Rattle.std.proofs.Common.{◌≡◌, ◌∙◌, ◌/◌, ap, inl, inr, subst, Err, None, ℕ}
use Rattle.std.proofs.lemmas.Result.{err_from_is_err_and}
use Rattle.macs_disk.specs.Files.{Behaves, FileState}
use Rattle.macs_program.specs.NewDisks.{Permits}
use Rattle.macs_program.proofs.Made.{taken}
use Rattle.macs_program.proofs.new_disk.claim_free.Goals as goal

pub returns-clause-free : goal.returns-clause-free
returns-clause-free g c behaves =
    let file = g.F.DiskFile.file in
    let given = file c.args.file in
    let now = file c.in_ok-claimed.claimed.file in
    let is = c.in_ok-claimed.ensures.claimed behaves in
    let measured = c.in_ok-claimed.ensures.measured behaves in
    let count : c.sectors-sectors.result ≡ given.size / 512 =
    c.sectors-sectors.ensures.count
    ∙ ap (λ (n : ℕ). n / 512) (measured.size ∙ ap (λ (f : FileState). f.size) is) in
    subst (λ (n : ℕ). Permits c.args.is_over given n None) count
    (subst (λ (f : FileState). Permits c.args.is_over f c.sectors-sectors.result None) is
    (c.in_ok-admit.ensures.free (c.in_ok-claimed.ensures.steady ∙ behaves)))

pub returns-in_err-claimed-clause-refused : goal.returns-in_err-claimed-clause-refused
returns-in_err-claimed-clause-refused g c =
    let p = err_from_is_err_and c.from_residual.result c.from_residual.ensures.1 in
    rw p.1 (inl (c.in_err-claimed.field-0.0, p.2))

pub returns-in_err-admit-clause-refused : goal.returns-in_err-admit-clause-refused
returns-in_err-admit-clause-refused g c =
    let file = g.F.DiskFile.file in
    let given = file c.args.file in
    let now = file c.in_ok-claimed.claimed.file in
    let p = err_from_is_err_and c.from_residual-in_err-admit.result c.from_residual-in_err-admit.ensures.1 in
    let (fault, told) = c.in_err-admit.ensures.failed in
    rw p.1 (inr (
      fault,
      p.2 ∙ told,
      λ behaves.
          let is = c.in_ok-claimed.ensures.claimed behaves in
          let measured = c.in_ok-claimed.ensures.measured behaves in
          let count : c.sectors-sectors.result ≡ given.size / 512 =
          c.sectors-sectors.ensures.count
          ∙ ap (λ (n : ℕ). n / 512) (measured.size ∙ ap (λ (f : FileState). f.size) is) in
          let still : Behaves now = c.in_ok-claimed.ensures.steady ∙ behaves in
          taken c.args.is_over given now c.sectors-sectors.result fault is count
          (c.in_err-admit.ensures.refused still fault (ap Err told)),
    ))
