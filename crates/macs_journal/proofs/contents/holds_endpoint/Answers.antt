use Rattle.std.proofs.Common.{◌↔◌, ◌∙◌, ◌/◌, IsTrue, ℕ, inl, subst}
use Rattle.macs_disk.specs.Files.{FileState}
use Rattle.macs_journal.specs.Contents.{HasHeadMark, HasOpenGate}
use Rattle.macs_disk.proofs.DiskCopies.{carried}
use Rattle.macs_journal.proofs.Looks.{either_holds}
use Rattle.macs_journal.proofs.contents.holds_endpoint.Goals as goal

pub returns-then-has_mark-clause-holds : goal.returns-then-has_mark-clause-holds
returns-then-has_mark-clause-holds g c = λ behaves.
    let file = g.F.DiskFile.file c.args.file.now in
    let same = c.in_ok-sectors.ensures.effect behaves in
    let size = c.in_ok-sectors.ensures.size behaves in
    let marked = carried (λ (f : FileState). IsTrue c.in_ok-has_mark.has_mark
    ↔ HasHeadMark f (c.in_ok-sectors.field-0 / 512)) _ _ same behaves
    c.in_ok-has_mark.ensures.found in
    let known = subst (λ (n : ℕ). IsTrue c.in_ok-has_mark.has_mark ↔ HasHeadMark file (n / 512)) size marked in
    (λ is. inl (known.0 is), λ holds. c.if-has_mark.true)

pub returns-else-has_mark-clause-holds : goal.returns-else-has_mark-clause-holds
returns-else-has_mark-clause-holds g c = λ behaves.
    let file = g.F.DiskFile.file c.args.file.now in
    let same = c.in_ok-sectors.ensures.effect behaves in
    let size = c.in_ok-sectors.ensures.size behaves in
    let marked = carried (λ (f : FileState). IsTrue c.in_ok-has_mark.has_mark
    ↔ HasHeadMark f (c.in_ok-sectors.field-0 / 512)) _ _ same behaves
    c.in_ok-has_mark.ensures.found in
    let also = c.in_ok-has_mark.ensures.same (c.in_ok-sectors.ensures.steady ∙ behaves) ∙ same in
    let opened = carried (λ (f : FileState). IsTrue c.in_ok-has_gate.has_gate
    ↔ HasOpenGate f (c.in_ok-sectors.field-0 / 512)) _ _ also behaves
    c.in_ok-has_gate.ensures.found in
    let known = subst (λ (n : ℕ). IsTrue c.in_ok-has_mark.has_mark ↔ HasHeadMark file (n / 512)) size marked in
    let open_known = subst (λ (n : ℕ). IsTrue c.in_ok-has_gate.has_gate ↔ HasOpenGate file (n / 512)) size opened in
    either_holds c.in_ok-has_mark.has_mark c.in_ok-has_gate.has_gate known open_known c.if-has_mark.false
