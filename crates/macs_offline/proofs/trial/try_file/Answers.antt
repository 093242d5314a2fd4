use Rattle.std.proofs.Common.{inr}
use Rattle.std.proofs.lemmas.Result.{IfErr-weaker, IfOk-weaker}
use Rattle.macs_offline.proofs.Tried.{copy-in}
use Rattle.macs_offline.proofs.trial.try_file.Goals as goal

pub returns-clause-tried : goal.returns-clause-tried
returns-clause-tried g c =
    let said = c.in_ok-copy.ensures in
    IfOk-weaker c.try_on.result _ _
    (λ outcomes tries. record {
      file = c.args.file.now;
      copy = c.in_ok-copy.copy.disk;
      is_copy = λ behaves. copy-in _ c.in_ok-copy.copy (said.copied behaves);
      tries = tries;
    }) c.try_on.ensures.tried

pub returns-clause-ended : goal.returns-clause-ended
returns-clause-ended g c =
    let said = c.in_ok-copy.ensures in
    IfErr-weaker c.try_on.result _ _
    (λ failure ends. inr (
      c.args.file.now,
      c.in_ok-copy.copy.disk,
      (λ behaves. copy-in _ c.in_ok-copy.copy (said.copied behaves)),
      ends,
    )) c.try_on.ensures.ended
