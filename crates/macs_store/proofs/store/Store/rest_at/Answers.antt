use Rattle.std.proofs.Common.{◌∙◌, sym}
use Rattle.macs_store.specs.UnderWay.{under_way_of}
use Rattle.macs_store.specs.Value.{StoreValue}
use Rattle.macs_store.proofs.Rested.{held-again, not-rested, rested, rests-stopped}
use Rattle.macs_store.proofs.store.Store.rest_at.Given.{Over}
use Rattle.macs_store.proofs.store.Store.rest_at.Goals as goal

pub returns-then-is_stopped : goal.returns-then-is_stopped
returns-then-is_stopped g c =
    rests-stopped g.D.SectorDisk.disk c.args.self.now c.requires.idle (g.N.NextNumbers.numbers c.args.next.now)
    (sym c.is_stopped.ensures ∙ c.if-is_stopped.true)

pub returns-in-Ok : goal.returns-in-Ok
returns-in-Ok g c =
    let old : StoreValue g.row.D.Denot =
    record {
      journal = c.self.inside.journal;
      held = c.self.inside.standing;
      under_way =
          under_way_of c.self.inside.under_way;
    } in
    rw (← c.self.view_is)
    (rested g.D.SectorDisk.disk old (rw (← c.self.view_is) at c.requires.idle)
    (g.N.NextNumbers.numbers c.args.next.now) c.put_ceilings-before.new.self c.put_ceilings-before.ensures.standing
    c.compact_held.new.self c.in-Ok.ensures)

pub returns-in-Err : goal.returns-in-Err
returns-in-Err g c =
    let old : StoreValue g.row.D.Denot =
    record {
      journal = c.self.inside.journal;
      held = c.self.inside.standing;
      under_way =
          under_way_of c.self.inside.under_way;
    } in
    let new : StoreValue g.row.D.Denot =
    record {
      journal = c.self-2.inside.journal;
      held = c.self-2.inside.standing;
      under_way =
          under_way_of c.self-2.inside.under_way;
    } in
    let begins = rw (← c.self-2.view_is) at c.in-Err.ensures in
    rw (← c.self.view_is)
    (not-rested g.D.SectorDisk.disk old (rw (← c.self.view_is) at c.requires.idle)
    (g.N.NextNumbers.numbers c.args.next.now) c.put_ceilings-before.new.self c.put_ceilings-before.ensures.standing
    c.in-Err.fault new begins c.put_back.new.self
    (held-again c.self.inside.standing c.put_ceilings-before.new.self c.self-2.inside.standing c.put_back.new.self
    c.put_ceilings-before.result c.put_back.ensures begins.held c.put_ceilings-before.ensures.config
    c.put_ceilings-before.ensures.before))
