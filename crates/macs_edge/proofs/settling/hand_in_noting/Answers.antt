use Rattle.std.proofs.Common.{None, Err, refl, subst}
use Rattle.macs_endpoint.specs.Calls.{IsCall}
use Rattle.macs_endpoint.specs.State.{Protected, Protects}
use Rattle.macs_endpoint.specs.declared.fault.ProtectFault.{ProtectFault}
use Rattle.macs_edge.specs.declared.settling.Outcome.TheVariants as outcome
use Rattle.macs_edge.proofs.Again.{common, controlled, protect_stopped, receive_stopped}
use Rattle.macs_edge.proofs.settling.hand_in_noting.Goals as goal

pub returns-in-Err-Stopped : goal.returns-in-Err-Stopped
returns-in-Err-Stopped g c =
    let call = subst (λ (f : ProtectFault). IsCall g.D.SectorDisk.disk c.args.endpoint.now (Protects c.args.frame.now)
    (Protected (Err f) c.protect.new.out.items) c.protect.new.self)
    c.in-Err-Stopped.field-0-is c.in-Err-Stopped.ensures.call in
    controlled g.D.SectorDisk.disk _ _ c.args.frame.now c.protect.new.out.items None c.args.side outcome.Stopped _
    c.in-Controlled.is call
    (protect_stopped g.D.SectorDisk.disk _ _ c.args.frame.now c.protect.new.out.items call) refl

pub returns-in-Err : goal.returns-in-Err
returns-in-Err g c =
    common g.D.SectorDisk.disk _ _ c.args.frame.now c.receive.new.out.items None c.args.side outcome.Stopped _
    c.in-Common.is c.in-Err.ensures.call
    (receive_stopped g.D.SectorDisk.disk _ _ c.args.frame.now c.receive.new.out.items _ c.in-Err.ensures.call) refl
