use Rattle.std.proofs.Common.{◌≡◌, ◌<◌, ◌∙◌, false, refl, sym, Some, None}
use Rattle.macs_journal.specs.Appending.{next_append}
use Rattle.macs_journal.specs.Areas.{slots}
use Rattle.macs_journal.specs.declared.under_way.UnderWay.TheVariants.{Append, Nothing}
use Rattle.macs_journal.proofs.MadeCalls.{did-append-ends, did-append-goes_on, did-append-stops}
use Rattle.macs_journal.proofs.journal.Journal.did_append.Given.{Over}
use Rattle.macs_journal.proofs.journal.Journal.did_append.Goals.{In-Append}
use Rattle.macs_journal.proofs.journal.Journal.did_append.Goals as goal

-- a slot is free
room : (g : Over) (c : In-Append g) → c.self.inside.place.free < slots
room g c = rw c.in-Append.is at c.self.invariant.2

pub returns-in-Some : goal.returns-in-Some
returns-in-Some g c =
    let runs : c.self.inside.stopped ≡ false = rw (← c.self.view_is) at c.requires.running in
    let free = room g (goal.at.returns-in-Some g c).In-Append in
    let next : next_append c.in-Append.work.stage ≡ Some c.in-Some.stage = sym c.next-next.ensures ∙ c.in-Some.is in
    rw (← c.self.view_is, c.in-Append.is, runs, c.go_on.ensures c.in-Append.work c.in-Append.is)
    (record {
      device = refl;
      after = refl;
      moved = λ idle.
          absurd (let not : Append (record c.in-Append.work { stage = c.in-Some.stage }) ≡ Nothing = idle in cc);
      idle = tt;
      going = λ busy. (refl, refl);
      advances = λ before snapshot asked read is made.
          did-append-goes_on g.D.SectorDisk.disk g.met.D.SectorDisk.sound before c.self.inside.disk
          c.self.inside.place c.in-Append.work free read c.args.answer asked is made c.in-Ok.is
          c.in-Some.stage next;
    })

pub returns-in-None : goal.returns-in-None
returns-in-None g c =
    let runs : c.self.inside.stopped ≡ false = rw (← c.self.view_is) at c.requires.running in
    let free = room g (goal.at.returns-in-None g c).In-Append in
    let next : next_append c.in-Append.work.stage ≡ None = sym c.next-next.ensures ∙ c.in-None.is in
    rw (← c.self.view_is, c.in-Append.is, runs)
    (record {
      device = refl;
      after = refl;
      moved = λ idle. refl;
      idle = tt;
      going = λ busy. absurd (busy refl);
      advances = λ before snapshot asked read is made.
          did-append-ends g.D.SectorDisk.disk g.met.D.SectorDisk.sound before c.self.inside.disk
          c.self.inside.place c.in-Append.work free read c.args.answer asked is made c.in-Ok.is next;
    })

pub returns-in-Err : goal.returns-in-Err
returns-in-Err g c =
    let runs : c.self.inside.stopped ≡ false = rw (← c.self.view_is) at c.requires.running in
    let free = room g (goal.at.returns-in-Err g c).In-Append in
    rw (← c.self.view_is, c.in-Append.is, runs)
    (record {
      device = refl;
      after = refl;
      moved = tt;
      idle = refl;
      going = λ busy. absurd (busy refl);
      advances = λ before snapshot asked read is made.
          did-append-stops g.D.SectorDisk.disk g.met.D.SectorDisk.sound before c.self.inside.disk
          c.self.inside.place c.in-Append.work free read c.args.answer asked is made c.in-Err.field-0
          c.in-Err.is;
    })
