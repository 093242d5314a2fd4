use Rattle.std.proofs.Common.{◌∙◌, Ok, Err, ap, refl, sym}
use Rattle.std.proofs.lemmas.Result.{err_from_is_err_and}
use Rattle.macs_edge.specs.Relaying.{empty_lane, relay_of}
use Rattle.macs_offline.proofs.NoneWaits.{attended-not-busy}
use Rattle.macs_program.proofs.Relayed.{ends-rested, ends-unrested}
use Rattle.macs_program.specs.Relaying.{summary_after}
use Rattle.macs_program.proofs.relaying.relay_to_end.Goals.{then-is_planned+in_ok-rest-in-Ok, else-is_planned}
use Rattle.macs_program.proofs.relaying.relay_to_end.Goals as goal

pub failure_of_refill-requires : goal.failure_of_refill-requires
failure_of_refill-requires g c =
    let (events, attended, heard) = c.in-Err.ensures.attended in
    attended-not-busy g.D.SectorDisk.disk c.turns_of.result
    (relay_of c.args.endpoint.now (g.P.Wire.state c.args.controlled.now) (g.C.Wire.state c.args.common.now) empty_lane
    empty_lane)
    events c.in-Err.fault c.attend.new.endpoint (g.P.Wire.state c.attend.new.controlled)
    (g.C.Wire.state c.attend.new.common) attended

pub returns-in_err-rest-in-Ok : goal.returns-in_err-rest-in-Ok
returns-in_err-rest-in-Ok g c =
    let (events, attended, heard) = c.in-Ok.ensures.attended in
    let p = err_from_is_err_and c.from_residual.result c.from_residual.ensures.1 in (
      Ok c.in-Ok.summary,
      events,
      c.attend.new.endpoint,
      rw c.turns_of.ensures at attended,
      heard,
      ends-rested _ _ _ _ _ _ c.is_planned.ensures c.rest.result c.from_residual.result c.if-is_planned.true
          c.rest.ensures
          (p.1 ∙ ap Err p.2 ∙ sym (ap (summary_after c.in-Ok.summary) c.in_err-rest-in-Ok.was)),
    )

pub returns-after-is_planned : goal.returns-after-is_planned
returns-after-is_planned g c =
    let (events, attended, heard) = c.in-Ok.ensures.attended in (
      Ok c.in-Ok.summary,
      events,
      c.attend.new.endpoint,
      rw c.turns_of.ensures at attended,
      heard,
      elim c.if-is_planned.branch [
        | then-is_planned+in_ok-rest-in-Ok w ↦ rw w.endpoint-is
            (ends-rested _ _ _ _ _ _ c.is_planned.ensures w.rest.result (Ok c.in-Ok.summary) w.if-is_planned.true
            w.rest.ensures (sym (ap (summary_after c.in-Ok.summary) w.in_ok-rest-in-Ok.was)))
        | else-is_planned w ↦ ends-unrested _ _ _ _ _ _ c.is_planned.ensures w.if-is_planned.false w.endpoint-is
      ],
    )

pub returns-in-Err : goal.returns-in-Err
returns-in-Err g c =
    let (events, attended, heard) = c.in-Err.ensures.attended in (
      Err c.in-Err.fault,
      events,
      c.attend.new.endpoint,
      rw c.turns_of.ensures at attended,
      heard,
      (ap Err c.failure_of_refill.ensures, refl),
    )
