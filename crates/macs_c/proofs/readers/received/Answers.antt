use Rattle.std.proofs.Common.{get_or, arith}
use Rattle.std.proofs.lemmas.List.FromFn.{fill_by_all}
use Rattle.macs_rxsc.specs.Counting.{count_of}
use Rattle.macs_rxsc.specs.Value.{counters_of}
use Rattle.macs_rxsc.specs.declared.verdict.Verdict.TheVariants.{HeldBack}
use Rattle.macs_c.specs.Shown.{verdicts}
use Rattle.macs_c.proofs.readers.received.Goals as goal

pub returns : goal.returns
returns c =
    fill_by_all (λ k. count_of (get_or verdicts k HeldBack) (counters_of c.args.endpoint.now.rx)) c.loop-at.counts 15 0
    c.loop-at.invariant.0 (λ k below. c.loop-at.invariant.1 k (omega (arith, below)))
