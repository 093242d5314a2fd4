use Rattle.macs_program.proofs.Made.{not-named}
use Rattle.macs_program.proofs.new_disk.replace.Goals as goal

pub returns-in-Ok-clause-refused : goal.returns-in-Ok-clause-refused
returns-in-Ok-clause-refused g c =
    not-named g.T.File.DiskFile.file c.args.identity.now c.of_file-in-Ok.result c.of_file-in-Ok.ensures.refused
