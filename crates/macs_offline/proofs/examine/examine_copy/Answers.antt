use Rattle.std.proofs.Common.{◌∙◌, inl, inr, ap, string_bytes, subst, sym}
use Rattle.std.proofs.lemmas.Result.{IfErr-weaker, IfOk-weaker}
use Rattle.macs_disk.specs.MemDisks.{disk_of}
use Rattle.macs_disk.specs.States.{Image}
use Rattle.macs_journal.specs.Found.{IsBadJournal}
use Rattle.macs_offline.specs.Examining.{SaysFault, examined_text}
use Rattle.macs_offline.specs.declared.examined_text.Figures.{Figures}
use Rattle.macs_offline.proofs.Examined.{bad-found, found-stands, not-found, not-told}
use Rattle.macs_offline.proofs.examine.examine_copy.Goals as goal

pub returns-in-Ok-clause-reported : goal.returns-in-Ok-clause-reported
returns-in-Ok-clause-reported c =
    let (content, has, figures, lines) = c.in-Ok.ensures.found in
    IfOk-weaker c.report_journal.result _ _ (λ said all.
    let (standing, stands, is, done) = all in inl (
      content,
      standing,
      found-stands _ _ _ content standing c.in-Ok.ensures.seen has stands,
      is ∙ ap (λ (f : Figures). examined_text c.args.layout f content.records standing) figures,
      done,
    )) (c.report_journal.ensures.reported c.in-Ok.found.disk c.open.ensures content.records lines)

pub returns-in-Ok-clause-ended : goal.returns-in-Ok-clause-ended
returns-in-Ok-clause-ended c =
    let (content, has, figures, lines) = c.in-Ok.ensures.found in
    IfErr-weaker c.report_journal.result _ _
    (λ failure. not-told (disk_of c.args.copy) (disk_of c.in-Ok.found.disk) failure content has c.in-Ok.ensures.seen
    c.in-Ok.ensures.sectors)
    (c.report_journal.ensures.ended c.in-Ok.found.disk c.open.ensures)

pub report_refused-requires-clause-room : goal.report_refused-requires-clause-room
report_refused-requires-clause-room c = λ bad. (c.in-Err.ensures.left bad).0

pub report_refused-requires-clause-bad : goal.report_refused-requires-clause-bad
report_refused-requires-clause-bad c = λ bad.
    subst (λ (i : Image). IsBadJournal i) (sym (c.in-Err.ensures.left bad).1)
    (bad-found (disk_of c.args.copy) c.in-Err.refused.fault bad c.in-Err.ensures.refused).1

pub returns-in-Err-clause-reported : goal.returns-in-Err-clause-reported
returns-in-Err-clause-reported c =
    IfOk-weaker c.report_refused.result _ _ (λ said all.
    let (bad, says) = all in
    inr (subst (λ (i : Image). SaysFault i (string_bytes said.text) said.status) (c.in-Err.ensures.left bad).1 says))
    c.report_refused.ensures.reported

pub returns-in-Err-clause-ended : goal.returns-in-Err-clause-ended
returns-in-Err-clause-ended c =
    IfErr-weaker c.report_refused.result _ _ (λ failure ends. elim ends [
      | inl memory ↦ inl memory
      | inr (other, is) ↦ not-found (disk_of c.args.copy) c.in-Err.refused.fault failure is other
          c.in-Err.ensures.refused
    ]) c.report_refused.ensures.ended
