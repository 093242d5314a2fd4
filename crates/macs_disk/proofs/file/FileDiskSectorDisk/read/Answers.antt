use Rattle.std.proofs.Common.{◌≡◌, ◌∙◌, ap, sym, subst, OnOk}
use Rattle.std.specs.declared.snapshot.Snapshot.{Snapshot}
use Rattle.macs_disk.specs.Disk.{Reads}
use Rattle.macs_disk.specs.Layouts.{place}
use Rattle.macs_disk.specs.declared.layout.Layout.{Layout}
use Rattle.macs_disk.specs.FileDisks.{IsFoundAs}
use Rattle.macs_disk.specs.Files.{FileState, values_from}
use Rattle.macs_disk.proofs.FileSectors.{keeps-same, reads-sector}
use Rattle.macs_disk.proofs.FileCalls.{effect, fit-before, fit-through, on-ok, through, two-step-call}
use Rattle.macs_disk.proofs.FoundAgain.{found-next}
use Rattle.macs_disk.proofs.file.FileDiskSectorDisk.read.Goals as goal

pub returns-clause-call : goal.returns-clause-call
returns-clause-call g c =
    let file = g.F.DiskFile.file in
    let old = c.args.self.now in
    let new = c.count.new.self in
    let lent = c.begin.new.self.file in
    let back = c.read_sector-answer.new.file in
    let went : lent ≡ old.shown.value = c.begin.ensures.file ∙ sym (old.current c.in_ok-begin.ensures.live.0) in
    let came : new.shown.value ≡ back = ap (λ (s : Snapshot _). s.value) c.count.ensures.shown ∙ c.of.ensures in
    let fit = keeps-same old.layout (file lent) (file back) c.read_sector-answer.ensures.steady
    c.read_sector-answer.ensures.same in
    let begun = c.in_ok-begin.ensures in
    let counted = c.count.ensures in
    two-step-call file old c.begin.new.self new c.count.result c.begin.ensures.layout c.begin.ensures.sectors begun.past
    begun.ok.0 begun.ok.1 begun.steady counted.layout counted.sectors counted.past counted.clock counted.ok counted.err
    (fit-through file old.layout lent back old.shown new.shown went came fit)

pub returns-clause-effect : goal.returns-clause-effect
returns-clause-effect g c honest =
    let file = g.F.DiskFile.file in
    let old = c.args.self.now in
    let new = c.count.new.self in
    let lent = c.begin.new.self.file in
    let back = c.read_sector-answer.new.file in
    let went : lent ≡ old.shown.value = c.begin.ensures.file ∙ sym (old.current c.in_ok-begin.ensures.live.0) in
    let came : new.shown.value ≡ back = ap (λ (s : Snapshot _). s.value) c.count.ensures.shown ∙ c.of.ensures in
    let fit = keeps-same old.layout (file lent) (file back) c.read_sector-answer.ensures.steady
    c.read_sector-answer.ensures.same in
    let lay = c.count.ensures.layout ∙ c.begin.ensures.layout in
    let into = c.read_sector-answer.new.into in
    let before = fit-before file old.layout new.layout lent back new.shown _ lay came fit honest in
    let octets = subst (λ (l : Layout). OnOk c.read_sector-answer.result
    (into ≡ values_from (file lent).seen (place l c.args.at) 512)) c.begin.ensures.layout
    (c.read_sector-answer.ensures.octets before.behaves) in
    effect file (λ s t. Reads s t c.args.at into c.count.result) old.layout new.layout old.past.items new.past.items
    old.shown new.shown old.clock new.clock old.kept new.kept lay
    (through file (λ s t. Reads s t c.args.at into c.count.result) old.layout lent back old.shown new.shown went came
    (reads-sector old.layout (file lent) (file back) c.args.at into c.count.result
    (c.read_sector-answer.ensures.same before.behaves)
    (on-ok c.read_sector-answer.result c.count.result _ c.count.ensures.alike octets)))

pub returns-clause-again : goal.returns-clause-again
returns-clause-again g c found =
    let file = g.F.DiskFile.file in
    let old = c.args.self.now in
    let new = c.count.new.self in
    let lent = c.begin.new.self.file in
    let back = c.read_sector-answer.new.file in
    let same = c.read_sector-answer.ensures.same in
    found-next file old.layout new.layout old.sectors new.sectors old.file lent back new.file old.is_failed
    new.is_failed (c.count.ensures.layout ∙ c.begin.ensures.layout)
    (c.count.ensures.sectors ∙ c.begin.ensures.sectors) c.begin.ensures.file c.count.ensures.file
    c.in_ok-begin.ensures.live.0 c.read_sector-answer.ensures.steady
    (λ behaves sure is. (
      subst (IsFoundAs old.layout old.sectors) (sym (same behaves)) is,
      λ _. ap (λ (f : FileState). f.is_sure) (same behaves) ∙ sure,
    ))
    found
