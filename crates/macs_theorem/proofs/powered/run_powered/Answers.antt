use Rattle.std.proofs.Common.{[], refl}
use Rattle.macs_theorem.specs.Programs.{holds}
use Rattle.macs_theorem.proofs.Runs.{expected-run, hears-on}
use Rattle.macs_theorem.proofs.powered.run_powered.Goals as goal

pub loop-init : goal.loop-init
loop-init g c = ([], c.requires.fresh, refl)

pub loop-preserved : goal.loop-preserved
loop-preserved g c =
    let disk_of = g.D.SectorDisk.disk in
    let old = holds c.loop.held in
    let new = holds c.turn-held.result in
    let kept = c.loop.invariant in
    hears-on disk_of c.args.disk old new _ (g.P.Program.keeps c.turn-held.new.program)
    (kept.0, c.ask.ensures kept.0 kept.1, kept.2) c.turn-held.ensures

pub returns-in_default : goal.returns-in_default
returns-in_default g c =
    let kept = c.loop.invariant in
    expected-run g.D.SectorDisk.disk g.met.D.SectorDisk.sound c.args.disk _ (holds c.loop.held) c.requires.new
    (kept.0, c.ask.ensures kept.0 kept.1, kept.2)

pub returns : goal.returns
returns g c = expected-run g.D.SectorDisk.disk g.met.D.SectorDisk.sound c.args.disk _ (holds c.loop.held)
    c.requires.new c.loop.invariant
