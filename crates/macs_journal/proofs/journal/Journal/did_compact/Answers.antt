use Rattle.std.proofs.Common.{◌≡◌, ◌∙◌, ℕ, ap, false, refl, sym}
use Rattle.macs_journal.specs.Stages.{IsCompactStage, next_stage}
use Rattle.macs_journal.specs.Value.{FitsUnderWay}
use Rattle.macs_journal.specs.declared.under_way.UnderWay.TheVariants.{Compact, Nothing}
use Rattle.macs_journal.proofs.MadeCalls.{did-compact-ends, did-compact-goes_on, did-compact-stops}
use Rattle.macs_journal.proofs.journal.Journal.did_compact.Given.{Over}
use Rattle.macs_journal.proofs.journal.Journal.did_compact.Goals.{In-Compact, After-next-next}
use Rattle.macs_journal.proofs.journal.Journal.did_compact.Goals as goal

-- the gate or the slot of the call is there
fits : (g : Over) (c : In-Compact g) → IsCompactStage c.in-Compact.work.head.count c.in-Compact.work.stage
fits g c =
    let all : FitsUnderWay c.self.inside.place (Compact c.in-Compact.work) = rw c.in-Compact.is at c.self.invariant.2 in
    all.2

-- the call that comes next, by how many records the head counts
next-is : (g : Over) (c : After-next-next g)
    → next_stage c.in-Compact.work.head.count c.in-Compact.work.stage c.is_open.result ≡ c.next-next.result
next-is g c =
    ap (λ (n : ℕ). next_stage n c.in-Compact.work.stage c.is_open.result)
    (sym (c.from.ensures ∙ c.count.ensures.value))
    ∙ sym c.next-next.ensures

pub returns-in-Some : goal.returns-in-Some
returns-in-Some g c =
    let runs : c.self.inside.stopped ≡ false = rw (← c.self.view_is) at c.requires.running in
    let there = fits g (goal.at.returns-in-Some g c).In-Compact in
    let next = next-is g (goal.at.returns-in-Some g c).After-next-next ∙ c.in-Some.is in
    rw (← c.self.view_is, c.in-Compact.is, runs, c.compact_on.ensures c.in-Compact.work c.in-Compact.is)
    (record {
      device = refl;
      after = refl;
      moved = λ idle.
          absurd (let not : Compact (record c.in-Compact.work { stage = c.in-Some.stage }) ≡ Nothing = idle in cc);
      idle = tt;
      going = λ busy. (refl, refl);
      advances = λ before snapshot asked lent is made.
          did-compact-goes_on g.D.SectorDisk.disk g.met.D.SectorDisk.sound before c.self.inside.disk
          c.self.inside.place c.in-Compact.work snapshot lent there c.args.read.now c.args.answer asked is made
          c.in-Ok.is c.is_open.result c.is_open.ensures c.in-Some.stage next;
    })

pub returns-in-None : goal.returns-in-None
returns-in-None g c =
    let runs : c.self.inside.stopped ≡ false = rw (← c.self.view_is) at c.requires.running in
    let there = fits g (goal.at.returns-in-None g c).In-Compact in
    let next = next-is g (goal.at.returns-in-None g c).After-next-next ∙ c.in-None.is in
    rw (
      c.new_place-done.ensures c.in-Compact.work (rw (← c.self.view_is) c.in-Compact.is),
      ← c.self.view_is,
      c.in-Compact.is,
      runs,
    )
    (record {
      device = refl;
      after = refl;
      moved = λ idle. refl;
      idle = tt;
      going = λ busy. absurd (busy refl);
      advances = λ before snapshot asked lent is made.
          did-compact-ends g.D.SectorDisk.disk g.met.D.SectorDisk.sound before c.self.inside.disk
          c.self.inside.place c.in-Compact.work snapshot lent there c.args.read.now c.args.answer asked is made
          c.in-Ok.is c.is_open.result c.is_open.ensures next;
    })

pub returns-in-Err : goal.returns-in-Err
returns-in-Err g c =
    let runs : c.self.inside.stopped ≡ false = rw (← c.self.view_is) at c.requires.running in
    let there = fits g (goal.at.returns-in-Err g c).In-Compact in
    rw (← c.self.view_is, c.in-Compact.is, runs)
    (record {
      device = refl;
      after = refl;
      moved = tt;
      idle = refl;
      going = λ busy. absurd (busy refl);
      advances = λ before snapshot asked lent is made.
          did-compact-stops g.D.SectorDisk.disk g.met.D.SectorDisk.sound before c.self.inside.disk
          c.self.inside.place c.in-Compact.work snapshot lent there c.args.read.now c.args.answer asked is made
          c.in-Err.field-0 c.in-Err.is;
    })
