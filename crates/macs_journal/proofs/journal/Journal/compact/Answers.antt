use Rattle.std.proofs.lemmas.Result.{err_from_is_err_and}
use Rattle.macs_journal.proofs.Compacting.{begun-compacts, is-begun, unbegun-compacts}
use Rattle.macs_journal.proofs.journal.Journal.compact.Goals as goal

pub finish_compact-requires : goal.finish_compact-requires
finish_compact-requires g c =
    is-begun g.D.SectorDisk.disk c.args.self.now c.start_compact.new.self (g.R.RecordSource.listed c.args.records.now)
    c.requires.idle c.requires.some.1
    c.in_ok-start_compact.ensures

pub returns-in_err-start_compact : goal.returns-in_err-start_compact
returns-in_err-start_compact g c =
    let risen = err_from_is_err_and c.from_residual.result c.from_residual.ensures.1 in
    rw (risen.1, risen.2)
    (unbegun-compacts g.D.SectorDisk.disk c.args.self.now c.start_compact.new.self
    (g.R.RecordSource.listed c.args.records.now)
    c.in_err-start_compact.field-0.0 c.in_err-start_compact.ensures)

pub returns : goal.returns
returns g c =
    begun-compacts g.D.SectorDisk.disk c.args.self.now c.start_compact.new.self
    (g.R.RecordSource.listed c.args.records.now) c.requires.idle c.requires.some.1
    c.in_ok-start_compact.ensures c.finish_compact.result c.finish_compact.new.self c.finish_compact.ensures
