use Rattle.std.proofs.Common.{inl, inr, subst}
use Rattle.std.proofs.lemmas.Result.{err_from_is_err_and}
use Rattle.macs_disk.specs.FileDisks.{disk_in_file}
use Rattle.macs_endpoint.specs.Formatting.{IsFormat}
use Rattle.macs_program.proofs.new_disk.format_new.Goals as goal

pub returns-clause-made : goal.returns-clause-made
returns-clause-made g c =
    let file = g.F.DiskFile.file in
    let disk = c.in_ok-disk.disk in
    record {
      blank = disk;
      given = c.in_ok-disk.ensures.given;
      is_blank = c.in_ok-disk.ensures.known;
      new = c.format.new.disk;
      formats = subst (λ result. IsFormat (disk_in_file file) disk c.args.identity.now result c.format.new.disk)
          c.in_ok-format.was c.format.ensures;
    }

pub returns-in_err-disk-clause-refused : goal.returns-in_err-disk-clause-refused
returns-in_err-disk-clause-refused g c =
    let p = err_from_is_err_and c.from_residual.result c.from_residual.ensures.1 in
    rw p.1 (inl (c.in_err-disk.field-0.0, p.2))

pub returns-in_err-format-clause-refused : goal.returns-in_err-format-clause-refused
returns-in_err-format-clause-refused g c =
    let file = g.F.DiskFile.file in
    let disk = c.in_ok-disk.disk in
    let p = err_from_is_err_and c.from_residual-in_err-format.result c.from_residual-in_err-format.ensures.1 in
    rw p.1 (inr (
      disk,
      c.format.new.disk,
      c.in_err-format.field-0.0,
      p.2,
      subst (λ result. IsFormat (disk_in_file file) disk c.args.identity.now result c.format.new.disk)
          c.in_err-format.was c.format.ensures,
    ))
