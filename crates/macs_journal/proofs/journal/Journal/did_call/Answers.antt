use Rattle.std.proofs.Common.{◌∙◌, Ok, sym, subst}
use Rattle.macs_journal.specs.Halves.{with_device}
use Rattle.macs_journal.specs.Stepping.{Steps}
use Rattle.macs_journal.specs.declared.work.JournalStep.{JournalStep}
use Rattle.macs_journal.proofs.MadeCalls.{is-empty, is-finished, is-going, is-idle, is-under_way, no-idle}
use Rattle.macs_journal.proofs.Steps.{steps-done}
use Rattle.macs_journal.proofs.journal.Journal.did_call.Goals as goal

pub returns : goal.returns
returns g c =
    let did = c.in_ok-did_advance.ensures in
    record {
      device = did.device;
      after = did.after;
      finished = λ is.
          let idle = is-empty c.did_advance.new.self.under_way
          (sym c.progress-progress.ensures ∙ is-finished c.progress-progress.result is) in
          (idle, did.moved idle);
      going = λ is.
          did.going (is-under_way c.did_advance.new.self.under_way
          (sym c.progress-progress.ensures ∙ is-going c.progress-progress.result is));
      idle = tt;
      busy = λ is. no-idle c.did_advance.new.self.under_way
          (sym c.progress-progress.ensures ∙ is-idle c.progress-progress.result is);
      steps = λ before snapshot asked lent is made.
          subst
          (λ (step : JournalStep). Steps g.D.SectorDisk.disk (with_device c.args.self.now before) snapshot (Ok step)
          c.did_advance.new.self) (sym c.progress-progress.ensures)
          (steps-done g.D.SectorDisk.disk (with_device c.args.self.now before) c.did_advance.new.self snapshot
          c.requires.running c.requires.busy (did.advances before snapshot asked lent is made));
    }
