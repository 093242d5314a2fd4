use Rattle.macs_program.proofs.KeptFiles.{failed-in, kept-in}
use Rattle.macs_program.proofs.keep.keep.Goals as goal

pub returns-clause-kept : goal.returns-clause-kept
returns-clause-kept g c =
    kept-in g.T.File.DiskFile.file c.in_ok-disk.disk c.keep_for_one.new.disk _ _ _ c.keep_for_one.result
    c.in_ok-disk.ensures.disk c.keep_for_one.ensures

pub returns-clause-ended : goal.returns-clause-ended
returns-clause-ended g c =
    failed-in g.T.File.DiskFile.file c.in_ok-disk.disk c.keep_for_one.new.disk _ _ _ c.keep_for_one.result
    c.in_ok-disk.ensures.disk c.keep_for_one.ensures
