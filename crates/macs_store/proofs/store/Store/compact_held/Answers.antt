use Rattle.std.proofs.Common.{sym, subst}
use Rattle.macs_store.specs.Snapshot.{snapshot}
use Rattle.macs_store.specs.Table.{standing_of}
use Rattle.macs_store.specs.Value.{FitsUnderWay, IsIdle, StoreValue}
use Rattle.macs_store.specs.UnderWay.{UnderWay, under_way_of}
use Rattle.macs_store.proofs.Migrating.{compacted-idle, compacts-held}
use Rattle.macs_store.proofs.store.Store.compact_held.Given.{Over}
use Rattle.macs_store.proofs.store.Store.compact_held.Goals.{After-compact}
use Rattle.macs_store.proofs.store.Store.compact_held.Goals as goal

module _ (g : Over) (c : After-compact g) where
  abbrev old : StoreValue g.row.D.Denot
  old = record {
    journal = c.self.inside.journal;
    held = c.self.inside.standing;
    under_way = under_way_of c.self.inside.under_way;
  }

  idle : IsIdle old
  idle = rw (← c.self.view_is) at c.requires.idle

  fits : FitsUnderWay c.self.inside.journal (standing_of c.self.inside.standing) (under_way_of c.self.inside.under_way)
  fits = c.self.invariant

pub invariant_of-self : goal.invariant_of-self
invariant_of-self g c =
    let at = (goal.at.invariant_of-self g c).After-compact in
    subst (λ (h : UnderWay). FitsUnderWay c.compact.new.self (standing_of c.self.inside.standing) h)
    (sym (idle g at))
    (compacted-idle g.D.SectorDisk.disk c.self.inside.journal c.compact.new.self
    (snapshot (standing_of c.self.inside.standing)) c.compact.result c.compact.ensures
    (subst (λ (h : UnderWay). FitsUnderWay c.self.inside.journal (standing_of c.self.inside.standing) h) (idle g at)
    (fits g at)))

pub returns : goal.returns
returns g c =
    let at = (goal.at.returns g c).After-compact in
    rw (← c.self.view_is)
    (compacts-held g.D.SectorDisk.disk (old g at) c.compact.new.self c.compact.result
    c.facts.ensures.stands c.compact.ensures)
