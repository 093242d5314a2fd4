use Rattle.std.proofs.Common.{refl}
use Rattle.macs_program.proofs.relay.serve.Goals as goal

pub returns : goal.returns
returns g c =
    let (controlled, common, run) = c.relay.ensures in
    let (answer, events, relayed, ended, attended, heard, ends, reported) = run in (
      controlled,
      common,
      (
        answer,
        events,
        relayed,
        ended,
        attended,
        c.clients_are_served.ensures _ _ _ events _ _ answer refl refl c.requires.none_waits c.requires.none attended.2
            heard,
        ends,
        reported,
      ),
    )
