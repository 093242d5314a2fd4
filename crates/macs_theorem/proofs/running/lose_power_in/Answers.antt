use Rattle.std.proofs.Common.{inl, refl, subst}
use Rattle.macs_theorem.specs.Events.{EndsIn, disk_held}
use Rattle.macs_theorem.specs.Programs.{IsMade, answer_of, holds}
use Rattle.macs_theorem.proofs.Runs.{answered-later, lost-passes, passed-since}
use Rattle.macs_theorem.proofs.running.lose_power_in.Goals as goal

pub returns-in-Some : goal.returns-in-Some
returns-in-Some g c =
    let disk_of = g.D.SectorDisk.disk in
    let old = holds c.args.held in
    let ran = holds c.make_call-next.result in
    let answer = answer_of c.in-Some._heard in
    let made = subst (λ heard. IsMade disk_of old c.args.request heard ran) c.in-Some.is c.make_call-next.ensures in
    let answered = made.1 in
    let left = disk_of c.lose_power-left.result in
    let passes = lost-passes (disk_held disk_of ran) (disk_of c.into_disk.result) left c.into_disk.ensures
    c.lose_power-left.ensures in
    inl (
      EndsIn answer,
      (c.in-Some._heard, made.0, refl),
      λ events kept. c.cut.ensures events answer kept,
      (
        ran,
        answered,
        passed-since (disk_held disk_of ran) (disk_held disk_of ran).clock (disk_held disk_of old).clock left
            (answered-later disk_of old answer ran answered) passes,
      ),
    )
