use Rattle.std.proofs.Common.{inl, ap}
use Rattle.macs_theorem.specs.Events.{Answers, Shows}
use Rattle.macs_theorem.specs.Shown.{shown_by}
use Rattle.macs_theorem.specs.Programs.{holds}
use Rattle.macs_theorem.proofs.Runs.{showing}
use Rattle.macs_theorem.proofs.running.show.Goals as goal

pub returns-in-Endpoint : goal.returns-in-Endpoint
returns-in-Endpoint g c =
    let endpoint = c.in-Endpoint.endpoint in
    inl (
      Answers (Shows (shown_by endpoint)),
      tt,
      c.see.ensures,
      showing g.D.SectorDisk.disk (holds c.args.held) endpoint (ap holds c.in-Endpoint.is),
    )
