use Rattle.std.proofs.Common.{◌↔◌, IsTrue}
use Rattle.macs_disk.specs.Files.{FileState}
use Rattle.macs_journal.specs.Contents.{IsBlankFile}
use Rattle.macs_disk.proofs.DiskCopies.{carried}
use Rattle.macs_journal.proofs.contents.contents_of.Goals as goal

pub returns-then-branch-2-clause-are : goal.returns-then-branch-2-clause-are
returns-then-branch-2-clause-are g c = λ behaves.
    let gate = c.in_ok-has_open_gate.ensures.found behaves in
    let blank = carried (λ (f : FileState). IsTrue c.in_ok-is_blank.field-0 ↔ IsBlankFile f c.args.sectors) _ _
    (c.in_ok-has_open_gate.ensures.same behaves) behaves c.in_ok-is_blank.ensures.found in
    (λ opened. let is = gate.1 opened in let closed = c.if-branch.false in cc, blank.0 c.if-branch-2.true)

pub returns-clause-are : goal.returns-clause-are
returns-clause-are g c = λ behaves.
    let gate = c.in_ok-has_open_gate.ensures.found behaves in
    let blank = carried (λ (f : FileState). IsTrue c.in_ok-is_blank.field-0 ↔ IsBlankFile f c.args.sectors) _ _
    (c.in_ok-has_open_gate.ensures.same behaves) behaves c.in_ok-is_blank.ensures.found in (
      λ opened. let is = gate.1 opened in let closed = c.if-branch.false in cc,
      λ all. let is = blank.1 all in
          let other = c.if-branch-2.false in cc,
    )
