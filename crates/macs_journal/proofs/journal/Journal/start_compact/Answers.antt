use Rattle.std.proofs.Common.{◌≡◌, ◌∙◌, ◌≤◌, ℕ, ap, length, refl, rules}
use Rattle.macs_record.specs.Heads.{Head}
use Rattle.macs_journal.specs.Areas.{slots}
use Rattle.macs_journal.specs.Compacted.{next_head}
use Rattle.macs_journal.specs.declared.compact_stage.CompactStage.TheVariants.{ReadGate}
use Rattle.macs_journal.proofs.CompactionCalls.{compaction-under_way}
use Rattle.macs_journal.proofs.journal.Journal.start_compact.Goals as goal

pub returns : goal.returns
returns g c =
    let records = g.R.RecordSource.listed c.args.records.now in
    let head : c.in-Some.next ≡ next_head c.self.inside.place.head (length records) =
    c.in-Some.ensures.value ∙ ap (λ (n : ℕ). next_head c.self.inside.place.head n) c.count.ensures in
    let few : length records ≤ slots = c.requires.some.1 in
    record {
      stopped = search rules;
      spent = search rules;
      names = tt;
      same = tt;
      device = search rules;
      place = search rules;
      running = search rules;
      under_way = search (rules, head);
      left = (let counts = ap (λ (h : Head). h.count) head in search (rules, counts));
      holds = λ before holds.
          compaction-under_way _ c.self.inside.place c.self.inside.under_way
          (record { head = c.in-Some.next; stage = ReadGate 0 })
          before records
          head refl few (rw (← c.self.view_is) at holds);
    }
