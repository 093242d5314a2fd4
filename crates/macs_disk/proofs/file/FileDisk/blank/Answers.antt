use Rattle.std.proofs.Common.{◌∙◌, refl, subst, sym, false}
use Rattle.macs_disk.specs.FileDisks.{IsBlank}
use Rattle.macs_disk.specs.declared.layout.Layout.{Layout}
use Rattle.macs_disk.proofs.FileCalls.{disk_by}
use Rattle.macs_disk.proofs.FileOpenings.{blank}
use Rattle.macs_disk.proofs.FoundAgain.{found-cleared, found-still}
use Rattle.macs_disk.proofs.file.FileDisk.blank.Goals as goal

pub returns-clause-known : goal.returns-clause-known
returns-clause-known g c empty =
    let file = g.F.DiskFile.file in
    let layout = c.args.layout in
    let old = file c.args.file in
    let ready = c.clear.new.file in
    let new = c.new.result in
    subst (λ f. IsBlank old (file f) layout
    (disk_by file new.layout new.past.items new.shown new.sectors new.clock new.failures)) (sym c.new.ensures.file)
    (subst (λ (l : Layout). IsBlank old (file ready) layout
    (disk_by file l new.past.items new.shown new.sectors new.clock new.failures)) (sym c.new.ensures.layout)
    (blank file old ready layout new.past.items new.shown new.sectors new.clock new.failures
    (c.in_ok-clear.ensures.cleared empty) (c.in_ok-clear.ensures.steady ∙ empty.behaves)
    c.new.ensures.sectors c.new.ensures.shown c.new.ensures.past))

pub returns-clause-again : goal.returns-clause-again
returns-clause-again g c empty =
    let file = g.F.DiskFile.file in
    let layout = c.args.layout in
    let ready = c.clear.new.file in
    let new = c.new.result in
    let cleared = c.in_ok-clear.ensures.cleared empty in
    found-still file layout new.layout 1028 new.sectors ready new.file false new.is_failed c.new.ensures.layout
    c.new.ensures.sectors c.new.ensures.file (λ _. refl)
    (λ _. (found-cleared (file c.args.file) (file ready) layout cleared, λ _. cleared.is_sure))
