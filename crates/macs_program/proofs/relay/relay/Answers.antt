use Rattle.std.proofs.Common.{Some, None}
use Rattle.macs_program.proofs.ByKeepers.{relayed-by}
use Rattle.macs_program.specs.Relaying.{course_of}
use Rattle.macs_program.proofs.relay.relay.Goals as goal

pub returns-in-None : goal.returns-in-None
returns-in-None g c =
    relayed-by g.T.File.DiskFile.file (course_of g.row.T.Denot c.args.disk.now c.args.running) c.args.running.keeper
    None c.in-None.is _ _ _ _ _ _ _ c.relay_in_file.ensures

pub returns-in-Some : goal.returns-in-Some
returns-in-Some g c =
    relayed-by g.T.File.DiskFile.file (course_of g.row.T.Denot c.args.disk.now c.args.running) c.args.running.keeper
    (Some c.in-Some.keeper) c.in-Some.is _ _ _ _ _ _ _ c.relay_kept.ensures
