use Rattle.std.proofs.Common.{◌∙◌, rules}
use Rattle.macs_edge.proofs.ByDatagrams.{first-received, no-stranger, nothing-received, receive-failed}
use Rattle.macs_edge.proofs.ByDatagrams.{stranger-arrived}
use Rattle.macs_edge.proofs.udp_wire.taken.Goals as goal

pub returns-in-Ok-clause-datagram : goal.returns-in-Ok-clause-datagram
returns-in-Ok-clause-datagram g c =
    first-received _ _ _ _ c.take_from.new.into c.in-Ok.arrived _ _ (c.take_from.auto.into ∙ c.requires)
    c.in-Ok.ensures.bound c.in-Ok.ensures.taken c.given.ensures.given

pub returns-then-eq-clause-datagram : goal.returns-then-eq-clause-datagram
returns-then-eq-clause-datagram g c =
    nothing-received _ _ _ _ c.take_from.new.into c.in-Err.error _ c.in-Err.ensures.taken (search rules)

pub returns-else-eq-clause-datagram : goal.returns-else-eq-clause-datagram
returns-else-eq-clause-datagram g c =
    receive-failed _ _ _ _ c.take_from.new.into c.in-Err.error _ c.in-Err.ensures.taken (search rules)

pub returns-in-Ok-clause-strangers : goal.returns-in-Ok-clause-strangers
returns-in-Ok-clause-strangers g c =
    stranger-arrived _ _ _ _ c.take_from.new.into _ c.in-Ok.arrived _ _ _ _ c.in-Ok.ensures.taken
    c.given.ensures.given c.given.ensures.stranger c.given.ensures.peers

pub returns-then-eq-clause-strangers : goal.returns-then-eq-clause-strangers
returns-then-eq-clause-strangers g c = no-stranger _ _ _ c.take_from.new.into c.in-Err.error _ c.in-Err.ensures.taken
    (search rules)
