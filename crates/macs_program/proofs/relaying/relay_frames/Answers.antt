use Rattle.std.proofs.Common.{◌∙◌, Err, ap, refl}
use Rattle.std.proofs.lemmas.Result.{err_from_is_err_and}
use Rattle.macs_program.proofs.relaying.relay_frames.Goals as goal

pub returns-in_err-summary : goal.returns-in_err-summary
returns-in_err-summary g c =
    let (answer, events, relayed, attended, heard, ends) = c.relay_to_end.ensures in
    let p = err_from_is_err_and c.from_residual.result c.from_residual.ensures.1 in
    (answer, events, relayed, c.relay_to_end.result, attended, heard, ends, rw c.in_err-summary.was (p.1 ∙ ap Err p.2, refl))

pub returns : goal.returns
returns g c =
    let (answer, events, relayed, attended, heard, ends) = c.relay_to_end.ensures in (
      answer,
      events,
      relayed,
      c.relay_to_end.result,
      attended,
      heard,
      ends,
      rw c.in_ok-summary.was (c.print_summary.ensures.printed, c.print_summary.ensures.failed),
    )
