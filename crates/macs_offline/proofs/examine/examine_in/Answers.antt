use Rattle.std.proofs.Common.{inl, inr}
use Rattle.std.proofs.lemmas.Result.{IfErr-weaker, IfOk-weaker, err_from_is_err_and}
use Rattle.macs_offline.proofs.Failures.{not-read-for}
use Rattle.macs_offline.proofs.examine.examine_in.Goals as goal

pub returns-in_ok-copy-in-Ok-clause-reported : goal.returns-in_ok-copy-in-Ok-clause-reported
returns-in_ok-copy-in-Ok-clause-reported g c =
    IfOk-weaker c.examine_copy.result _ _
    (λ said says. record {
      file = c.in-Ok.file;
      copy = c.in_ok-copy-in-Ok.copy.disk;
      layout = c.in_ok-copy-in-Ok.copy.layout;
      is_copy = c.in_ok-copy-in-Ok.ensures.copied;
      says = says;
    }) c.examine_copy.ensures.reported

pub returns-in_ok-copy-in-Ok-clause-ended : goal.returns-in_ok-copy-in-Ok-clause-ended
returns-in_ok-copy-in-Ok-clause-ended g c =
    IfErr-weaker c.examine_copy.result _ _
    (λ failure ends. inr (inr (
      c.in-Ok.file,
      c.in_ok-copy-in-Ok.copy.disk,
      c.in_ok-copy-in-Ok.copy.layout,
      c.in_ok-copy-in-Ok.ensures.copied,
      ends,
    ))) c.examine_copy.ensures.ended

pub returns-in-Err-clause-ended : goal.returns-in-Err-clause-ended
returns-in-Err-clause-ended g c = inl (not-read-for c.args.path.now _ _ c.failure_at_disk.ensures.reason)

pub returns-in_err-copy-in-Ok-clause-ended : goal.returns-in_err-copy-in-Ok-clause-ended
returns-in_err-copy-in-Ok-clause-ended g c =
    let p = err_from_is_err_and c.from_residual.result c.from_residual.ensures.1 in
    rw (p.1, p.2) (inr (inl (c.in-Ok.file, c.in_err-copy-in-Ok.ensures.failed)))
