use Rattle.std.proofs.Common.{List, subst, sym}
use Rattle.std.proofs.lemmas.Result.{IfErr-weaker, IfOk-weaker, err_from_is_err_and}
use Rattle.macs_config.specs.declared.command.Command.{Command}
use Rattle.macs_offline.specs.Applying.{SaysCommands}
use Rattle.macs_offline.proofs.Checked.{said-of}
use Rattle.macs_offline.proofs.Tried.{told-ended, trial-ended}
use Rattle.macs_offline.proofs.check.check.Goals as goal

pub returns-clause-printed : goal.returns-clause-printed
returns-clause-printed g c =
    let end = c.in_ok-told.told.end in
    let (octets, says) = c.in_ok-told.ensures.spelled in
    let given = subst (λ (commands : List Command). SaysCommands octets end commands)
    (sym c.as_slice-commands.ensures.value) says in
    let by_file = said-of _ end _ _ c.as_slice-commands.ensures.value c.in_ok-told.ensures.said in
    rw c.in-Some.is (IfOk-weaker c.print_trial.result _ _ (λ status all.
    let (outcomes, tries, printed, is) = all in record {
      octets = octets;
      end = end;
      commands = c.as_slice-commands.result.now;
      says = given;
      by_file = by_file;
      outcomes = outcomes;
      tries = tries;
      mode = c.checked_commands.new.mode;
      printed = printed;
      status_is = is;
    }) c.print_trial.ensures.printed)

pub returns-clause-ended : goal.returns-clause-ended
returns-clause-ended g c =
    let end = c.in_ok-told.told.end in
    let (octets, says) = c.in_ok-told.ensures.spelled in
    let given = subst (λ (commands : List Command). SaysCommands octets end commands)
    (sym c.as_slice-commands.ensures.value) says in
    let by_file = said-of _ end _ _ c.as_slice-commands.ensures.value c.in_ok-told.ensures.said in
    rw c.in-Some.is (IfErr-weaker c.print_trial.result _ _ (λ failure ends. trial-ended g.T.File.DiskFile.file _
    c.args.path.now c.in-Some.disk octets end c.as_slice-commands.result.now failure given by_file ends)
    c.print_trial.ensures.ended)

pub returns-in_err-told-clause-ended : goal.returns-in_err-told-clause-ended
returns-in_err-told-clause-ended g c =
    let p = err_from_is_err_and c.from_residual.result c.from_residual.ensures.1 in
    rw (p.1, p.2) (told-ended _ _ c.args.path.now _ _ c.in_err-told.ensures.ended)
