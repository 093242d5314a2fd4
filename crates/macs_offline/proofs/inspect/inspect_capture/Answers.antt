use Rattle.macs_offline.proofs.Inspected.{capture-run, header-stops}
use Rattle.macs_offline.proofs.inspect.inspect_capture.Goals as goal

pub returns-in-Ok-clause-runs : goal.returns-in-Ok-clause-runs
returns-in-Ok-clause-runs g c = capture-run _ _ _ c.in-Ok.header _ _ c.inspect_frames.result c.in-Ok.ensures
    c.inspect_frames.ensures.runs

pub returns-in-Err-clause-runs : goal.returns-in-Err-clause-runs
returns-in-Err-clause-runs g c = header-stops _ _ c.in-Err.fault _ c.in-Err.ensures
