use Rattle.std.proofs.Common.{◌≡◌, ℕ, length, List, subst}
use Rattle.macs_journal.specs.Halves.{IsCompactCall, IsNextCall}
use Rattle.macs_journal.specs.Value.{AreLent}
use Rattle.macs_record.specs.declared.record.Record.{Record}
use Rattle.macs_journal.proofs.journal.Journal.step_compact.Given.{Over}
use Rattle.macs_journal.proofs.journal.Journal.step_compact.Goals.{In-Compact}
use Rattle.macs_journal.proofs.journal.Journal.step_compact.Goals as goal

-- the records of a source
abbrev listed : (g : Over) → g.row.R.Denot → List Record
listed g = g.R.RecordSource.listed

-- as many are lent as the head counts
are-lent : (g : Over) (c : In-Compact g) → length (listed g c.args.records.now) ≡ c.in-Compact.work.head.count
are-lent g c = rw c.in-Compact.is at (rw (← c.self.view_is) at c.requires.lent)

pub returns : goal.returns
returns g c =
    let records = g.R.RecordSource.listed c.args.records.now in
    let lent : AreLent c.self.inside.under_way records = rw (← c.self.view_is) at c.requires.lent in
    let call : IsNextCall c.self.inside.place c.self.inside.under_way records c.compact_call-call.result =
    rw c.in-Compact.is
    (subst (λ (area : ℕ). IsCompactCall area c.in-Compact.work.head records c.in-Compact.work.stage
    c.compact_call-call.result) c.other.ensures c.compact_call-call.ensures.call) in
    rw (← c.self.view_is)
    (c.did_compact.ensures.advances c.self.inside.disk records c.compact_call-call.result lent call
    c.make-answer.ensures)
