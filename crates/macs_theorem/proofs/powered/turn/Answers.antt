use Rattle.macs_theorem.specs.Programs.{holds}
use Rattle.macs_theorem.specs.declared.asking.Ask.TheVariants as asked
use Rattle.macs_theorem.proofs.Runs.{heard}
use Rattle.macs_theorem.proofs.powered.turn.Goals as goal

pub returns-in-Call : goal.returns-in-Call
returns-in-Call g c = heard g.D.SectorDisk.disk (holds c.args.held) (holds c.call.result)
    (asked.Call c.in-Call.request) _ _ c.call.ensures

pub returns-in-Show : goal.returns-in-Show
returns-in-Show g c = heard g.D.SectorDisk.disk (holds c.args.held) (holds c.show.result) asked.Show _ _ c.show.ensures
