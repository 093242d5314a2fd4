use Rattle.macs_record.specs.Commands.{record_of_accepted}
use Rattle.macs_store.specs.Value.{standing_in}
use Rattle.macs_store.proofs.Keeping.{accepted-recorded}
use Rattle.macs_store.proofs.StartedCommands.{accepted-record_follows, commit-spent, commit-started}
use Rattle.macs_store.proofs.store.Store.start_checked.Goals as goal

pub start-requires-clause-follows : goal.start-requires-clause-follows
start-requires-clause-follows g c =
    let command = c.args.checked.now in
    accepted-record_follows (standing_in c.args.self.now) command (record_of_accepted command)
    (accepted-recorded (standing_in c.args.self.now) command c.requires.fits) c.requires.fits

pub returns-in-Ok : goal.returns-in-Ok
returns-in-Ok g c =
    let command = c.args.checked.now in
    commit-started g.D.SectorDisk.disk c.args.self.now command (record_of_accepted command) c.start.new.self
    (accepted-recorded (standing_in c.args.self.now) command c.requires.fits)
    c.requires.fits c.requires.running c.in-Ok.ensures

pub returns-in-Err : goal.returns-in-Err
returns-in-Err g c =
    let command = c.args.checked.now in
    commit-spent g.D.SectorDisk.disk c.args.self.now command (record_of_accepted command) c.start.new.self
    (accepted-recorded (standing_in c.args.self.now) command c.requires.fits)
    c.requires.fits c.requires.running
    c.in-Err.field-0 c.in-Err.ensures
