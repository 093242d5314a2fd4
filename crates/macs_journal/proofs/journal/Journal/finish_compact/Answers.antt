use Rattle.std.proofs.Common.{◌≡◌, ◌≤◌, ◌+◌, ◌∙◌, arith, length, List, ℕ, Err, refl, rules, subst, sym}
use Rattle.std.proofs.lemmas.Result.{err_from_is_err_and}
use Rattle.macs_disk.specs.Disk.{IsHonest}
use Rattle.macs_disk.proofs.Moments.{Works-on, Works-start}
use Rattle.macs_record.specs.declared.record.Record.{Record}
use Rattle.macs_journal.specs.Areas.{other_area}
use Rattle.macs_journal.specs.Compacting.{next_head}
use Rattle.macs_journal.specs.Stages.{IsUnderWay}
use Rattle.macs_journal.specs.Stepping.{AtNextCall, IsCompactionUnderWay}
use Rattle.macs_journal.specs.declared.under_way.UnderWay.{UnderWay}
use Rattle.macs_journal.specs.declared.under_way.UnderWay.TheVariants.{Nothing}
use Rattle.macs_journal.specs.declared.place.Place.{Place}
use Rattle.macs_journal.proofs.Compacting.{at-begun, broken-compacts, done-compacts, fails-later, head-begun, head-next}
use Rattle.macs_journal.proofs.Compacting.{idle-then, lent-begun, not-begun, not-idle, place-moved, some-left-compact}
use Rattle.macs_journal.proofs.journal.Journal.finish_compact.Given.{Over}
use Rattle.macs_journal.proofs.journal.Journal.finish_compact.Goals.{After-step_compact}
use Rattle.macs_journal.proofs.journal.Journal.finish_compact.Goals as goal

-- the records of a source
abbrev listed : (g : Over) → g.row.R.Denot → List Record
listed g = g.R.RecordSource.listed

pub loop-self-init : goal.loop-self-init
loop-self-init g c =
    let self = c.args.self.now in
    let records = listed g c.args.records.now in
    let begun = c.requires in
    record {
      running = begun.running;
      compacts = head-begun self records self.under_way begun.under_way;
      lent = lent-begun self records self.under_way begun.under_way;
      works = Works-start (g.D.SectorDisk.disk self.disk);
      steady = refl;
      place = λ busy. refl;
      moved = λ idle. absurd (not-begun self records self.under_way begun.under_way idle);
      most = (let left = begun.left in omega (arith, left));
      at = λ honest. at-begun self (g.D.SectorDisk.disk self.disk) records self.under_way begun.under_way begun.left;
    }

-- ---- one call

module _ (g : Over) (c : After-step_compact g) where
  busy : IsCompactionUnderWay c.loop-self.self.under_way
  busy = c.is_compacting.ensures.0 c.loop-self-test.true

  module _ (honest : IsHonest (g.D.SectorDisk.disk c.step_compact.new.self.disk)) where
    at-call : AtNextCall (g.D.SectorDisk.disk c.args.self.now.disk) (g.D.SectorDisk.disk c.loop-self.self.disk)
        (other_area c.loop-self.self.place.area)
        (next_head c.args.self.now.place.head (length (listed g c.args.records.now))) (listed g c.args.records.now)
        c.loop-self.self.under_way
    at-call =
        subst (λ (p : Place). AtNextCall (g.D.SectorDisk.disk c.args.self.now.disk)
        (g.D.SectorDisk.disk c.loop-self.self.disk) (other_area p.area)
        (next_head c.args.self.now.place.head (length (listed g c.args.records.now))) (listed g c.args.records.now)
        c.loop-self.self.under_way)
        (sym (c.loop-self.invariant.place busy))
        (c.loop-self.invariant.at (sym c.step_compact.ensures.advances.work.works.honest ∙ honest))

    under-way : IsUnderWay (g.D.SectorDisk.disk c.args.self.now.disk) (g.D.SectorDisk.disk c.step_compact.new.self.disk)
        (other_area c.args.self.now.place.area)
        (next_head c.args.self.now.place.head (length (listed g c.args.records.now))) (listed g c.args.records.now)
    under-way =
        subst (λ (p : Place). IsUnderWay (g.D.SectorDisk.disk c.args.self.now.disk)
        (g.D.SectorDisk.disk c.step_compact.new.self.disk) (other_area p.area)
        (next_head c.args.self.now.place.head (length (listed g c.args.records.now))) (listed g c.args.records.now))
        (c.loop-self.invariant.place busy)
        (c.step_compact.ensures.under_way honest (g.D.SectorDisk.disk c.args.self.now.disk)
        (next_head c.args.self.now.place.head (length (listed g c.args.records.now))) at-call)

pub loop-self-preserved : goal.loop-self-preserved
loop-self-preserved g c =
    let d = g.D.SectorDisk.disk in
    let path = (goal.at.loop-self-preserved g c).After-step_compact in
    let records = listed g c.args.records.now in
    let start = c.args.self.now in
    let head = next_head start.place.head (length records) in
    let mid = c.loop-self.self in
    let new = c.step_compact.new.self in
    let i = c.loop-self.invariant in
    let step = c.in_ok-step_compact.ensures in
    let done = step.advances in
    let has_work : IsCompactionUnderWay mid.under_way = busy g path in
    record {
      running = done.after;
      compacts = head-next head mid.under_way new.under_way has_work i.compacts done.task;
      lent = done.lent records i.lent;
      works = Works-on _ _ _ i.works done.work.works;
      steady = done.work.fails ∙ i.steady;
      place = λ still. done.place (not-idle new.under_way still) ∙ i.place has_work;
      moved = λ idle. done.moved idle
          ∙ place-moved start.place mid.place records mid.under_way has_work i.compacts (i.place has_work);
      most = (let so_far = i.most in let one = done.call in let left = done.left in omega (arith, so_far, one, left));
      at = λ honest.
          subst (λ (p : Place). AtNextCall (d start.disk) (d new.disk) (other_area p.area) head records new.under_way)
          (i.place has_work)
          (step.next honest (d start.disk) head (at-call g path honest));
    }

pub returns-in_err-step_compact : goal.returns-in_err-step_compact
returns-in_err-step_compact g c =
    let path = (goal.at.returns-in_err-step_compact g c).After-step_compact in
    let d = g.D.SectorDisk.disk in
    let i = c.loop-self.invariant in
    let done = c.in_err-step_compact.ensures.advances in
    let risen = err_from_is_err_and c.from_residual.result c.from_residual.ensures.1 in
    rw (risen.1, risen.2)
    (broken-compacts g.D.SectorDisk.disk c.args.self.now c.step_compact.new.self
    (listed g c.args.records.now) c.requires
    (let so_far = i.most in let one = done.one in
    let some = some-left-compact c.loop-self.self.under_way (busy g path) in
    omega (arith, so_far, one, some))
    c.in_err-step_compact.field-0.0 done.names done.after done.idle (done.at_fault ∙ i.place (busy g path))
    (record {
      works = Works-on _ _ _ i.works done.work.works;
      fails =
          fails-later (d c.args.self.now.disk) (d c.loop-self.self.disk) (d c.step_compact.new.self.disk)
          (Err c.in_err-step_compact.field-0.0) done.names i.steady done.work.fails;
    })
    (under-way g path))

pub returns : goal.returns
returns g c =
    let records = listed g c.args.records.now in
    let i = c.loop-self.invariant in
    let idle : c.loop-self.self.under_way ≡ Nothing =
    idle-then _ c.loop-self.self.under_way i.compacts (λ is. (let yes = c.is_compacting.ensures.1 is in cc)) in
    done-compacts g.D.SectorDisk.disk c.args.self.now c.loop-self.self records c.requires
    (let most = i.most in
    omega (arith, most)) i.running idle (i.moved idle) (record { works = i.works; fails = i.steady })
    (λ honest. subst (λ (h : UnderWay). AtNextCall (g.D.SectorDisk.disk c.args.self.now.disk)
    (g.D.SectorDisk.disk c.loop-self.self.disk) (other_area c.args.self.now.place.area)
    (next_head c.args.self.now.place.head (length records)) records h) idle (i.at honest))
