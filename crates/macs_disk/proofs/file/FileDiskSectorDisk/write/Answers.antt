use Rattle.std.proofs.Common.{◌≡◌, ◌∙◌, ap, sym, subst}
use Rattle.std.specs.declared.snapshot.Snapshot.{Snapshot}
use Rattle.macs_disk.specs.Disk.{Writes}
use Rattle.macs_disk.specs.Files.{Behaves, WritesAll}
use Rattle.macs_disk.specs.Layouts.{place}
use Rattle.macs_disk.specs.declared.layout.Layout.{Layout}
use Rattle.macs_disk.proofs.FileSectors.{keeps-after-write, writes-sector}
use Rattle.macs_disk.proofs.FileCalls.{answered-write, effect, fit-before, fit-through, through, two-step-call}
use Rattle.macs_disk.proofs.FoundAgain.{found-next, found-written, written-sure}
use Rattle.macs_disk.proofs.file.FileDiskSectorDisk.write.Goals as goal

pub returns-clause-call : goal.returns-clause-call
returns-clause-call g c =
    let file = g.F.DiskFile.file in
    let old = c.args.self.now in
    let new = c.count.new.self in
    let lent = c.begin.new.self.file in
    let back = c.write_all-answer.new.file in
    let went : lent ≡ old.shown.value = c.begin.ensures.file ∙ sym (old.current c.in_ok-begin.ensures.live.0) in
    let came : new.shown.value ≡ back = ap (λ (s : Snapshot _). s.value) c.count.ensures.shown ∙ c.of.ensures in
    let fit = keeps-after-write old.layout (file lent) (file back) c.write_all-answer.ensures.steady _ c.args.from.now _
    c.write_all-answer.ensures.effect in
    let begun = c.in_ok-begin.ensures in
    let counted = c.count.ensures in
    two-step-call file old c.begin.new.self new c.count.result c.begin.ensures.layout c.begin.ensures.sectors begun.past
    begun.ok.0 begun.ok.1 begun.steady counted.layout counted.sectors counted.past counted.clock counted.ok counted.err
    (fit-through file old.layout lent back old.shown new.shown went came fit)

pub returns-clause-effect : goal.returns-clause-effect
returns-clause-effect g c honest =
    let file = g.F.DiskFile.file in
    let old = c.args.self.now in
    let new = c.count.new.self in
    let lent = c.begin.new.self.file in
    let back = c.write_all-answer.new.file in
    let went : lent ≡ old.shown.value = c.begin.ensures.file ∙ sym (old.current c.in_ok-begin.ensures.live.0) in
    let came : new.shown.value ≡ back = ap (λ (s : Snapshot _). s.value) c.count.ensures.shown ∙ c.of.ensures in
    let fit = keeps-after-write old.layout (file lent) (file back) c.write_all-answer.ensures.steady _ c.args.from.now _
    c.write_all-answer.ensures.effect in
    let lay = c.count.ensures.layout ∙ c.begin.ensures.layout in
    let before = fit-before file old.layout new.layout lent back new.shown _ lay came fit honest in
    let there = c.place.ensures ∙ ap (λ (l : Layout). place l c.args.at) c.begin.ensures.layout in
    let writes = answered-write (file lent) (file back) _ c.args.from.now _ c.count.result c.count.ensures.alike
    (c.write_all-answer.ensures.effect before.behaves) in
    effect file (λ s t. Writes s t c.args.at c.args.from.now c.count.result) old.layout new.layout old.past.items
    new.past.items old.shown new.shown old.clock new.clock old.kept new.kept lay
    (through file (λ s t. Writes s t c.args.at c.args.from.now c.count.result) old.layout lent back old.shown
    new.shown went came
    (writes-sector old.layout (file lent) (file back) c.args.at c.args.from.now c.count.result before.suited before.sure
    (g.met.F.DiskFile.sound lent before.behaves) c.told-from
    (subst (λ p. WritesAll (file lent) (file back) p c.args.from.now c.count.result) there writes)))

pub returns-clause-again : goal.returns-clause-again
returns-clause-again g c other found =
    let file = g.F.DiskFile.file in
    let old = c.args.self.now in
    let new = c.count.new.self in
    let lent = c.begin.new.self.file in
    let back = c.write_all-answer.new.file in
    let from = c.args.from.now in
    let answer = c.write_all-answer.result in
    let there = c.place.ensures ∙ ap (λ (l : Layout). place l c.args.at) c.begin.ensures.layout in
    let writes = λ (behaves : Behaves (file lent)).
    subst (λ p. WritesAll (file lent) (file back) p from answer) there (c.write_all-answer.ensures.effect behaves) in
    found-next file old.layout new.layout old.sectors new.sectors old.file lent back new.file old.is_failed
    new.is_failed (c.count.ensures.layout ∙ c.begin.ensures.layout)
    (c.count.ensures.sectors ∙ c.begin.ensures.sectors) c.begin.ensures.file c.count.ensures.file
    c.in_ok-begin.ensures.live.0 c.write_all-answer.ensures.steady
    (λ behaves sure is. (
      found-written old.layout old.sectors (file lent) (file back) c.args.at from answer is sure c.requires other
          c.told-from (writes behaves),
      λ _. written-sure (file lent) (file back) (place old.layout c.args.at) from answer sure (writes behaves),
    ))
    found
