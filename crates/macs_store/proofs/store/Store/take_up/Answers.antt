use Rattle.std.proofs.Common.{ap}
use Rattle.macs_config.specs.Config.{this_edition}
use Rattle.macs_record.specs.declared.format.Format.{Format}
use Rattle.macs_store.specs.Replay.{migrates}
use Rattle.macs_store.proofs.Migrating.{done, taken-compacted, taken-as-found, taken-unread}
use Rattle.macs_store.proofs.store.Store.take_up.Goals as goal

pub returns-then-not-is_read : goal.returns-then-not-is_read
returns-then-not-is_read g c =
    taken-unread g.D.SectorDisk.disk c.args.self.now c.args.self.now done c.args.is_read
    (migrates this_edition c.args.format) c.if-not-is_read.true

pub returns-in-One : goal.returns-in-One
returns-in-One g c =
    taken-compacted g.D.SectorDisk.disk c.args.self.now c.compact_held.new.self c.compact_held.result c.args.is_read
    (migrates this_edition c.args.format)
    c.if-not-is_read.false (ap (λ (f : Format). migrates this_edition f) c.in-One.is) c.compact_held.ensures

pub returns-in-Two : goal.returns-in-Two
returns-in-Two g c =
    taken-as-found g.D.SectorDisk.disk c.args.self.now c.args.self.now done c.args.is_read
    (migrates this_edition c.args.format)
    c.if-not-is_read.false (ap (λ (f : Format). migrates this_edition f) c.in-Two.is)
