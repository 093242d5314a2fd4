use Rattle.macs_control.proofs.Asked.{end-after, end-lacking, if-failed, if-gone, line-after, open-more, some-more}
use Rattle.macs_control.proofs.asking.Asker.answer.Goals as goal

pub returns-in_err-line-clause-gone : goal.returns-in_err-line-clause-gone
returns-in_err-line-clause-gone g c = if-gone c.from_residual.result
    (end-lacking _ _ _ c.loop-line.text.items c.loop-line.invariant.endless c.loop-line.invariant.read
    c.in_err-line.ensures.none)

pub returns-in_err-status-clause-cut : goal.returns-in_err-status-clause-cut
returns-in_err-status-clause-cut g c = if-failed c.from_residual-in_err-status.result
    (some-more _ _ _ c.loop-line.text.items _ c.loop-line.invariant.read c.in_ok-line.ensures.line.1)

pub returns-in_err-put_line-clause-cut : goal.returns-in_err-put_line-clause-cut
returns-in_err-put_line-clause-cut g c = if-failed c.from_residual-in_err-put_line.result
    (some-more _ _ _ c.loop-line.text.items _ c.loop-line.invariant.read c.in_ok-line.ensures.line.1)

pub returns-in-Some-clause-answer : goal.returns-in-Some-clause-answer
returns-in-Some-clause-answer g c =
    end-after _ _ _ c.loop-line.text.items c.in_ok-line.line.items c.in-Some.status c.loop-line.invariant.endless
    c.loop-line.invariant.read c.in_ok-line.ensures.line.1 (rw c.in-Some.is at c.in_ok-status.ensures.read)

pub loop-line-preserved : goal.loop-line-preserved
loop-line-preserved g c = record {
  read = rw c.in_ok-put_line.ensures
      (line-after _ _ _ c.loop-line.text.items c.in_ok-line.line.items c.loop-line.invariant.read
      c.in_ok-line.ensures.line.1);
  endless = rw c.in_ok-put_line.ensures
      (open-more c.loop-line.text.items c.in_ok-line.line.items c.loop-line.invariant.endless
      c.in_ok-line.ensures.line.0 (rw c.in_default.is at c.in_ok-status.ensures.read));
}
