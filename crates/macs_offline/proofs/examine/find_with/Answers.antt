use Rattle.std.proofs.Common.{◌∙◌, ap, refl, sym, take}
use Rattle.std.proofs.lemmas.Result.{err_from_is_err_and}
use Rattle.std.specs.declared.alloc.Global.{Global}
use Rattle.macs_disk.specs.Disk.{now}
use Rattle.macs_disk.specs.MemDisks.{disk_of}
use Rattle.macs_disk.specs.States.{DiskState}
use Rattle.macs_disk.specs.declared.memory.MemDisk.{MemDisk}
use Rattle.macs_journal.specs.Value.{content_of}
use Rattle.macs_offline.proofs.Examined.{figures-read, left-bad}
use Rattle.macs_offline.proofs.examine.find_with.Goals as goal

pub returns-in_err-found-clause-refused : goal.returns-in_err-found-clause-refused
returns-in_err-found-clause-refused c =
    let risen = err_from_is_err_and c.from_residual.result c.from_residual.ensures.1 in
    rw (risen.1, risen.2) (λ other. c.in_err-found.ensures.opening.found other refl)

pub returns-in_err-found-clause-left : goal.returns-in_err-found-clause-left
returns-in_err-found-clause-left c =
    let left = c.in_err-found.field-0.0 in
    let risen = err_from_is_err_and c.from_residual.result c.from_residual.ensures.1 in
    let opening = c.in_err-found.ensures.opening in
    rw (risen.1, risen.2)
    (λ bad. left-bad (disk_of c.args.copy) (disk_of left.disk) left.fault bad (λ other. opening.found other refl)
    opening.works.sectors (opening.unwritten refl))

pub returns-clause-found : goal.returns-clause-found
returns-clause-found c =
    let found = c.in_ok-found.found in
    let is = c.in_ok-found.ensures.opening in
    let content = content_of found.journal (take found.used c.recover_into.new.room) in (
      content,
      (is.found refl).1,
      figures-read found.format c.area.result c.generation.result c.used.result content is.form c.area.ensures
          c.generation.ensures
          (c.used.ensures ∙ sym is.used),
      c.records_text-lines.ensures,
    )

pub returns-clause-seen : goal.returns-clause-seen
returns-clause-seen c =
    ap (λ (m : MemDisk Global). (now (disk_of m)).seen) c.into_disk.ensures
    ∙ ap (λ (s : DiskState). s.seen) (c.in_ok-found.ensures.opening.device.settled refl)

pub returns-clause-sectors : goal.returns-clause-sectors
returns-clause-sectors c =
    ap (λ (m : MemDisk Global). (disk_of m).sectors) c.into_disk.ensures
    ∙ c.in_ok-found.ensures.opening.device.works.sectors
