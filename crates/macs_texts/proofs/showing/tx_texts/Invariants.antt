use Rattle.std.proofs.Common.{drop}
use Rattle.macs_endpoint.specs.State.{no_logs}
use Rattle.macs_endpoint.specs.Value.{state_of}
use Rattle.macs_texts.specs.Showing.{tx_text}
use Rattle.macs_texts.proofs.Adding.{WritesRest}
use Rattle.macs_texts.proofs.showing.tx_texts.Given as goal

abbrev pub invariant-loop-an : goal.invariant-loop-an
invariant-loop-an g l = WritesRest (tx_text (state_of l.endpoint no_logs))
    l.an-items (drop l.an-index l.an-items) l.initial.paper l.paper
