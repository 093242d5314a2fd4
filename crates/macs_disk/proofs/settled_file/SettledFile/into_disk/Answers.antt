use Rattle.std.proofs.Common.{◌%◌, ap, ◌∙◌, inl, refl, sym, subst, false}
use Rattle.macs_disk.specs.FileDisks.{IsOpened}
use Rattle.macs_disk.specs.declared.layout.Layout.{Layout}
use Rattle.macs_disk.proofs.FileCalls.{disk_by}
use Rattle.macs_disk.proofs.FileOpenings.{opened, still}
use Rattle.macs_disk.proofs.FoundAgain.{extent-sure, found-extent, found-still}
use Rattle.std.proofs.lemmas.Result.{err_from_is_err_and}
use Rattle.macs_disk.proofs.InterruptedCalls.{extend-refused}
use Rattle.macs_disk.proofs.settled_file.SettledFile.into_disk.Goals as goal

pub returns-clause-known : goal.returns-clause-known
returns-clause-known g c behaves settled =
    let file = g.F.DiskFile.file in
    let given = c.args.self.given.value in
    let new = c.new.result in
    let whole = ap (λ n. n % 512) (sym settled.1) ∙ settled.2 in
    subst (λ (l : Layout). IsOpened (file given) c.args.least l
    (disk_by file l new.past.items new.shown new.sectors new.clock new.failures)) (sym c.new.ensures.layout)
    (opened file given c.prepare.new.file (file c.args.self.file) c.in_ok-extent.extent.layout new.past.items new.shown
    c.args.least c.in_ok-extent.extent.sectors new.sectors
    new.clock new.failures (c.in_ok-extent.ensures.known behaves (still (file given) (file c.args.self.file) settled.0)
    settled.1) settled.0 whole c.new.ensures.shown c.new.ensures.past c.new.ensures.sectors)

pub returns-clause-left : goal.returns-clause-left
returns-clause-left g c _ = inl (ap g.F.DiskFile.file (c.new.ensures.file ∙ sym c.new.ensures.shown))

pub returns-clause-again : goal.returns-clause-again
returns-clause-again g c behaves settled =
    let file = g.F.DiskFile.file in
    let given = c.args.self.given.value in
    let before = file c.args.self.file in
    let ready = c.prepare.new.file in
    let extent = c.in_ok-extent.extent in
    let new = c.new.result in
    let whole = ap (λ n. n % 512) (sym settled.1) ∙ settled.2 in
    let is_still = still (file given) before settled.0 in
    let is = c.in_ok-extent.ensures.known behaves is_still settled.1 in
    found-still file extent.layout new.layout extent.sectors new.sectors ready new.file false new.is_failed
    c.new.ensures.layout c.new.ensures.sectors c.new.ensures.file (λ _. refl)
    (λ _. (
      found-extent before (file ready) c.args.least extent.sectors extent.layout is c.in_ok-extent.ensures.spaced whole,
      λ _. extent-sure before (file ready) c.args.least extent.sectors extent.layout is is_still.0,
    ))

pub returns-in_err-extent-clause-refused : goal.returns-in_err-extent-clause-refused
returns-in_err-extent-clause-refused g c =
    let p = err_from_is_err_and c.from_residual.result c.from_residual.ensures.1 in
    extend-refused g.F.DiskFile.failures c.args.self.file c.prepare.new.file c.in_err-extent.field-0.0 p.0
    c.from_residual.result p.1 p.2 c.in_err-extent.ensures.cause
