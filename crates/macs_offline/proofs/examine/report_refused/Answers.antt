use Rattle.std.proofs.Common.{inl}
use Rattle.std.proofs.lemmas.Result.{IfErr-weaker, IfOk-weaker}
use Rattle.macs_offline.proofs.examine.report_refused.Goals as goal

pub returns-in-BadJournal-clause-reported : goal.returns-in-BadJournal-clause-reported
returns-in-BadJournal-clause-reported c =
    IfOk-weaker c.report_fault.result _ _ (λ said says. (c.in-BadJournal.is, says)) c.report_fault.ensures.reported

pub returns-in-BadJournal-clause-ended : goal.returns-in-BadJournal-clause-ended
returns-in-BadJournal-clause-ended c =
    IfErr-weaker c.report_fault.result _ _ (λ failure memory. inl memory) c.report_fault.ensures.ended

pub report_fault-requires-clause-bad : goal.report_fault-requires-clause-bad
report_fault-requires-clause-bad c = c.requires.bad c.in-BadJournal.is
