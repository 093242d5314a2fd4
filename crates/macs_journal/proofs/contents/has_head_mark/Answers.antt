use Rattle.std.proofs.Common.{◌↔◌, ◌∙◌, IsTrue, ℕ, ap, subst}
use Rattle.macs_disk.specs.Files.{FileState}
use Rattle.macs_journal.specs.Areas.{head_body}
use Rattle.macs_record.specs.Heads.{head_mark}
use Rattle.macs_journal.specs.Contents.{HasFrontInEither}
use Rattle.macs_disk.proofs.DiskCopies.{carried}
use Rattle.macs_journal.proofs.Looks.{second_area}
use Rattle.macs_journal.proofs.contents.has_head_mark.Goals as goal

pub returns-else-is_first-clause-found : goal.returns-else-is_first-clause-found
returns-else-is_first-clause-found g c = λ behaves.
    let file = g.F.DiskFile.file c.args.file.now in
    let at_first = c.head_body.ensures.at ∙ ap head_body c.first.ensures in
    let at_second = c.head_body-2.ensures.at ∙ ap head_body c.second.ensures in
    let first = subst (λ (at : ℕ). IsTrue c.in_ok-is_first.is_first ↔ HasFrontInEither file c.args.sectors at head_mark)
    at_first (c.in_ok-is_first.ensures.found behaves) in
    let second = carried (λ (f : FileState). IsTrue c.in_ok-is_second.is_second
    ↔ HasFrontInEither f c.args.sectors (head_body 1) head_mark) _ _
    (c.in_ok-is_first.ensures.same behaves) behaves (λ unchanged. subst (λ (at : ℕ). IsTrue c.in_ok-is_second.is_second
    ↔ HasFrontInEither (g.F.DiskFile.file c.begins_in_either.new.file) c.args.sectors at head_mark)
    at_second (c.in_ok-is_second.ensures.found unchanged)) in
    second_area (λ (area : ℕ). HasFrontInEither file c.args.sectors (head_body area) head_mark)
    c.in_ok-is_first.is_first c.in_ok-is_second.is_second first second c.if-is_first.false
