use Rattle.std.proofs.Common.{◌≡◌, ◌≢◌, ◌∙◌, Ok, Result, ap, sym, subst, refl, arith}
use Rattle.macs_journal.specs.Value.{AreLent}
use Rattle.macs_journal.specs.declared.fault.JournalFault.{JournalFault}
use Rattle.macs_journal.specs.declared.work.JournalStep.{JournalStep}
use Rattle.macs_journal.specs.declared.work.JournalStep.TheVariants.{Finished, Going, Idle}
use Rattle.macs_store.specs.Halves.{Did, with_device}
use Rattle.macs_store.specs.Snapshot.{snapshot}
use Rattle.macs_store.specs.Table.{standing_of}
use Rattle.macs_store.specs.UnderWay.{Appending, Compacting, under_way_of, record_kept}
use Rattle.macs_store.specs.UnderWay as value
use Rattle.macs_store.specs.Value.{FitsUnderWay, IsIdle, StoreValue, standing_in, standing_with}
use Rattle.macs_store.specs.declared.under_way.UnderWay.{UnderWay}
use Rattle.macs_store.proofs.MadeSteps.{at-work, free-then, lent, runs, still-fits}
use Rattle.macs_store.proofs.Turns.{JournalSteps, step-compacted, step-failed, step-kept, step-on}
use Rattle.macs_store.proofs.store.Store.did_call.Given.{Over}
use Rattle.macs_store.proofs.store.Store.did_call.Goals.{After-facts}
use Rattle.macs_store.proofs.store.Store.did_call.Goals as goal

abbrev went : JournalStep → Result JournalStep JournalFault
went step = Ok step

goes-on : (step : JournalStep) → step ≢ Finished → ¬ (went step ≡ went Idle) → went step ≡ went Going
goes-on Idle other busy = absurd (busy refl)
goes-on Going other busy = refl
goes-on Finished other busy = absurd (other refl)

module _ (g : Over) (c : After-facts g) where
  abbrev old : StoreValue g.row.D.Denot
  old = record {
    journal = c.self.inside.journal;
    held = c.self.inside.standing;
    under_way = under_way_of c.self.inside.under_way;
  }

  fits : FitsUnderWay c.self.inside.journal (standing_of c.self.inside.standing) (under_way_of c.self.inside.under_way)
  fits = c.self.invariant

  busy : ¬ IsIdle old
  busy = rw (← c.self.view_is) at c.requires

  lends : AreLent c.self.inside.journal.under_way (snapshot (standing_of c.self.inside.standing))
  lends = lent c.self.inside.journal (standing_of c.self.inside.standing) (under_way_of c.self.inside.under_way) fits

pub did_call-requires-clause-busy : goal.did_call-requires-clause-busy
did_call-requires-clause-busy g c =
    let at = (goal.at.did_call-requires-clause-busy g c).After-facts in
    at-work c.self.inside.journal (standing_of c.self.inside.standing)
    (under_way_of c.self.inside.under_way) (fits g at)
    (busy g at)

pub did_call-requires-clause-running : goal.did_call-requires-clause-running
did_call-requires-clause-running g c =
    let at = (goal.at.did_call-requires-clause-running g c).After-facts in
    runs c.self.inside.journal (standing_of c.self.inside.standing) (under_way_of c.self.inside.under_way) (fits g at)
    (busy g at)

pub returns-in_default : goal.returns-in_default
returns-in_default g c =
    let at = (goal.at.returns-in_default g c).After-facts in
    let did = c.in-Ok.ensures in
    rw (← c.self.view_is) (record {
      device = did.device;
      busy = λ same. did.busy same;
      running = did.after;
      halted = tt;
      standing = λ not. refl;
      going = λ same. (busy g at, refl);
      finished = λ same. absurd (c.in_default.not-Finished (let is : c.in-Ok.step ≡ Finished = cc in is));
      steps = λ before asked next made.
          step-on g.D.SectorDisk.disk (with_device (old g at) before) (fits g at) (busy g at)
          c.did_call.new.self c.in-Ok.step
          c.in_default.not-Finished
          (did.steps before (snapshot (standing_in (old g at))) asked (lends g at) next made);
    })

pub returns-in-Err : goal.returns-in-Err
returns-in-Err g c =
    let at = (goal.at.returns-in-Err g c).After-facts in
    let did = c.in-Err.ensures in
    rw (← c.self.view_is) (record {
      device = did.device;
      busy = λ same. absurd cc;
      running = tt;
      halted = (did.after, refl);
      standing = λ not. refl;
      going = λ same. absurd cc;
      finished = λ same. absurd cc;
      steps = λ before asked next made.
          step-failed g.D.SectorDisk.disk (with_device (old g at) before) (fits g at) (busy g at)
          c.did_call.new.self c.in-Err.fault
          (did.steps before (snapshot (standing_in (old g at))) asked (lends g at) next made);
    })

pub start_append-requires-clause-room : goal.start_append-requires-clause-room
start_append-requires-clause-room g c =
    let at = (goal.at.start_append-requires-clause-room g c).After-facts in
    let is : under_way_of c.self.inside.under_way ≡ Compacting (record_kept c.in-Compacting.kept) =
    ap under_way_of (sym c.replace.ensures.value ∙ c.in-Compacting.is) in
    let place = (c.in-Ok.ensures.finished (ap went c.in-Finished.is)).1 in
    let free = free-then c.self.inside.journal (standing_of c.self.inside.standing) c.did_call.new.self.place
    (record_kept c.in-Compacting.kept) (under_way_of c.self.inside.under_way) is (fits g at) place in
    let few = c.facts.ensures.few in
    omega (arith, free, few)

pub returns-in-Compacting : goal.returns-in-Compacting
returns-in-Compacting g c =
    let at = (goal.at.returns-in-Compacting g c).After-facts in
    let d = g.D.SectorDisk.disk in
    let did = c.in-Ok.ensures in
    let r = record_kept c.in-Compacting.kept in
    let is : under_way_of c.self.inside.under_way ≡ Compacting r =
    ap under_way_of (sym c.replace.ensures.value ∙ c.in-Compacting.is) in
    let starts = rw c.record.ensures at (rw c.unwrap.ensures at c.start_append.ensures) in
    rw (← c.self.view_is) (record {
      device = starts.device ∙ did.device;
      busy = λ same. absurd (let no : Going ≡ Idle = cc in cc);
      running = starts.running;
      halted = tt;
      standing = λ not. refl;
      going = λ same. (
        λ empty. absurd cc,
        sym (ap (standing_with (standing_in (old g at))) is),
      );
      finished = λ same. absurd (let no : Going ≡ Finished = cc in cc);
      steps = λ before asked next made.
          step-compacted d (with_device (old g at) before) (fits g at) (busy g at) c.did_call.new.self r
          (subst (λ (step : JournalStep). JournalSteps d (with_device (old g at) before) (Ok step) c.did_call.new.self)
          c.in-Finished.is
          (did.steps before (snapshot (standing_in (old g at))) asked (lends g at) next made))
          is c.start_append.new.self starts;
    })

pub returns-in-Appending : goal.returns-in-Appending
returns-in-Appending g c =
    let at = (goal.at.returns-in-Appending g c).After-facts in
    let d = g.D.SectorDisk.disk in
    let did = c.in-Ok.ensures in
    let r = record_kept c.in-Appending.kept in
    let is : under_way_of c.self.inside.under_way ≡ Appending r =
    ap under_way_of (sym c.replace.ensures.value ∙ c.in-Appending.is) in
    rw (← c.self.view_is)
    (subst (λ (u : UnderWay). Did d (old g at) c.args.read.now c.args.answer (Ok Finished)
    (record { journal = c.did_call.new.self; held = c.keep.new.self; under_way = under_way_of u }))
    (sym c.replace.ensures.after)
    (record {
      device = did.device;
      busy = λ same. absurd (let no : Finished ≡ Idle = cc in cc);
      running = did.after;
      halted = tt;
      standing = λ not. absurd (not refl);
      going = λ same. absurd (let no : Finished ≡ Going = cc in cc);
      finished = λ same. (refl, ap (standing_with (standing_in (old g at))) is ∙ c.keep.ensures);
      steps = λ before asked next made.
          step-kept d (with_device (old g at) before) (fits g at) (busy g at) c.did_call.new.self r
          (subst (λ (step : JournalStep). JournalSteps d (with_device (old g at) before) (Ok step) c.did_call.new.self)
          c.in-Finished.is
          (did.steps before (snapshot (standing_in (old g at))) asked (lends g at) next made))
          is c.keep.new.self c.keep.ensures;
    }))

pub invariant_of-self-in_default : goal.invariant_of-self-in_default
invariant_of-self-in_default g c =
    let at = (goal.at.invariant_of-self-in_default g c).After-facts in
    let did = c.in-Ok.ensures in
    let on = did.going (goes-on c.in-Ok.step c.in_default.not-Finished did.busy) in
    still-fits c.self.inside.journal c.did_call.new.self (standing_of c.self.inside.standing)
    (under_way_of c.self.inside.under_way) (busy g at) (fits g at) did.after on.0 on.1

pub invariant_of-self-in-Err : goal.invariant_of-self-in-Err
invariant_of-self-in-Err g c = c.in-Err.ensures.idle
