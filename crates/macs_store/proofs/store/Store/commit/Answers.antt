use Rattle.std.proofs.lemmas.Result.{err_from_is_err_and}
use Rattle.macs_store.proofs.ToTheEnd.{failed-commits, kept-commits, refused-commits}
use Rattle.macs_store.proofs.store.Store.commit.Goals as goal

pub returns-in_err-start_commit : goal.returns-in_err-start_commit
returns-in_err-start_commit g c =
    let risen = err_from_is_err_and c.from_residual.result c.from_residual.ensures.1 in
    rw (risen.1, risen.2) (refused-commits g.D.SectorDisk.disk c.args.self.now c.requires.idle c.args.command.now
    c.in_err-start_commit.field-0.0 c.start_commit.new.self c.in_err-start_commit.ensures)

pub returns-in-Ok : goal.returns-in-Ok
returns-in-Ok g c =
    kept-commits g.D.SectorDisk.disk c.args.self.now c.requires.idle c.args.command.now c.start_commit.new.self
    c.in_ok-start_commit.ensures
    c.finish.new.self c.in-Ok.ensures

pub returns-in-Err : goal.returns-in-Err
returns-in-Err g c =
    failed-commits g.D.SectorDisk.disk c.args.self.now c.requires.idle c.args.command.now c.start_commit.new.self
    c.in_ok-start_commit.ensures
    c.in-Err.field-0 c.finish.new.self c.in-Err.ensures
