use Rattle.macs_c.proofs.Opened.{large-there, store-from, store-refused}
use Rattle.macs_c.proofs.starting.store_of.Goals as goal

pub on-requires : goal.on-requires
on-requires g c =
    large-there g.honest c.args.sectors.now c.of.result c.of.ensures c.of-in-Ok.result c.of-in-Ok.ensures
    c.in-Ok.ensures.device.large

pub returns-in-Ok : goal.returns-in-Ok
returns-in-Ok g c =
    store-from g.honest c.args.sectors.now c.of.result c.of.ensures c.of-in-Ok.result c.of-in-Ok.ensures c.in-Ok.store
    c.in-Ok.ensures c.on.result c.on.ensures

pub returns-in-Err : goal.returns-in-Err
returns-in-Err g c =
    store-refused c.args.sectors.now c.in-Err.refused.disk c.of.result c.of.ensures g.honest c.in-Err.refused.fault
    c.in-Err.ensures
