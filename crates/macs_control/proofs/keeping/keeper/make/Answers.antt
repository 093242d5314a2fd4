use Rattle.std.proofs.Common.{refl}
use Rattle.macs_control.proofs.KeeperWork.{made-one}
use Rattle.macs_control.proofs.keeping.keeper.make.Goals as goal

pub returns-clause-made : goal.returns-clause-made
returns-clause-made g c =
    made-one _ _ c.args.call.now c.make-end.new.read c.make-end.result c.to.result c.octets-octets.result
    c.octets-octets.result c.try_send-is_sent.result _ _ c.make-end.ensures c.to.ensures c.octets-octets.ensures refl
    c.try_send-is_sent.ensures.given
