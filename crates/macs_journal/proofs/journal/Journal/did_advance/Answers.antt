use Rattle.macs_journal.specs.Halves.{with_device}
use Rattle.macs_journal.proofs.Advancing.{append-advances}
use Rattle.macs_journal.proofs.journal.Journal.did_advance.Goals as goal

pub returns-in-Append : goal.returns-in-Append
returns-in-Append g c =
    let did = c.did_append.ensures in
    record {
      device = did.device;
      after = did.after;
      moved = did.moved;
      idle = did.idle;
      going = did.going;
      advances = λ before snapshot asked lent is made.
          append-advances g.D.SectorDisk.disk (with_device c.args.self.now before) c.did_append.new.self snapshot
          c.did_append.result c.in-Append.field-0 (rw (← c.self.view_is) c.in-Append.is)
          (did.advances before snapshot asked c.args.read.now is made);
    }

pub returns-in-Compact : goal.returns-in-Compact
returns-in-Compact g c =
    let did = c.did_compact.ensures in
    record {
      device = did.device;
      after = did.after;
      moved = did.moved;
      idle = did.idle;
      going = did.going;
      advances = λ before snapshot asked lent is made. (did.advances before snapshot asked lent is made).advances;
    }
