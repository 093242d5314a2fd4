use Rattle.std.proofs.Common.{◌∙◌}
use Rattle.macs_program.proofs.Relayed.{between-new}
use Rattle.macs_program.proofs.wires.Wires.relay.Goals as goal

pub returns : goal.returns
returns g c =
    let (left, right, run) = c.relay_spared.ensures in
    let (answer, events, relayed, ended, attended, heard, ends, reported) = run in (
      left,
      right,
      (
        answer,
        events,
        relayed,
        ended,
        between-new _ _ _ _ _ _ _ _ _ _ (c.spared-controlled.ensures.state ∙ c.requires.controlled)
            (c.spared-common.ensures.state ∙ c.requires.common) attended,
        heard,
        ends,
        reported,
      ),
    )
