use Rattle.std.proofs.lemmas.Result.{err_from_is_err_and}
use Rattle.macs_store.specs.UnderWay.{under_way_of, record_kept}
use Rattle.macs_store.specs.Value.{IsIdle, StoreValue}
use Rattle.macs_store.proofs.Started.{append-refused, append-started, compaction-refused, compaction-started}
use Rattle.macs_store.proofs.store.Store.start.Given.{Over}
use Rattle.macs_store.proofs.store.Store.start.Goals.{After-is_full}
use Rattle.macs_store.proofs.store.Store.start.Goals as goal

module _ (g : Over) (c : After-is_full g) where
  abbrev old : StoreValue g.row.D.Denot
  old = record {
    journal = c.self.inside.journal;
    held = c.self.inside.standing;
    under_way = under_way_of c.self.inside.under_way;
  }

  idle : IsIdle old
  idle = rw (← c.self.view_is) at c.requires.idle

pub returns-in_ok-start_compact : goal.returns-in_ok-start_compact
returns-in_ok-start_compact g c =
    let at = (goal.at.returns-in_ok-start_compact g c).After-is_full in
    rw (← c.self.view_is)
    (compaction-started g.D.SectorDisk.disk (old g at) (idle g at) (record_kept c.args.kept)
    (c.is_full.ensures.full.0 c.if-is_full.true) c.facts.ensures.stands
    c.start_compact.new.self c.in_ok-start_compact.ensures)

pub returns-in_ok-start_append : goal.returns-in_ok-start_append
returns-in_ok-start_append g c =
    let at = (goal.at.returns-in_ok-start_append g c).After-is_full in
    rw (← c.self.view_is)
    (append-started g.D.SectorDisk.disk (old g at) (idle g at) (record_kept c.args.kept)
    (c.is_full.ensures.room c.if-is_full.false)
    c.start_append.new.self (rw c.record.ensures at c.in_ok-start_append.ensures))

pub returns-in_err-start_compact : goal.returns-in_err-start_compact
returns-in_err-start_compact g c =
    let at = (goal.at.returns-in_err-start_compact g c).After-is_full in
    let risen = err_from_is_err_and c.from_residual.result c.from_residual.ensures.1 in
    rw (risen.1, risen.2)
    (rw (← c.self.view_is)
    (compaction-refused g.D.SectorDisk.disk (old g at) (idle g at) (record_kept c.args.kept)
    (c.is_full.ensures.full.0 c.if-is_full.true) c.facts.ensures.stands
    c.in_err-start_compact.field-0.0 c.start_compact.new.self c.in_err-start_compact.ensures))

pub returns-in_err-start_append : goal.returns-in_err-start_append
returns-in_err-start_append g c =
    let at = (goal.at.returns-in_err-start_append g c).After-is_full in
    let risen =
    err_from_is_err_and c.from_residual-in_err-start_append.result c.from_residual-in_err-start_append.ensures.1 in
    rw (risen.1, risen.2)
    (rw (← c.self.view_is)
    (append-refused g.D.SectorDisk.disk (old g at) (idle g at) (record_kept c.args.kept)
    (c.is_full.ensures.room c.if-is_full.false)
    c.in_err-start_append.field-0.0 c.start_append.new.self
    (rw c.record.ensures at c.in_err-start_append.ensures)))
