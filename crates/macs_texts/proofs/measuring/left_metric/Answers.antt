use Rattle.std.proofs.Common.{◌∙◌, ℕ, List, ◌++◌, ap, length, refl}
use Rattle.std.specs.Prelude.{codes, flat_map}
use Rattle.macs_endpoint.specs.State.{State, no_logs}
use Rattle.macs_endpoint.specs.Value.{state_of}
use Rattle.macs_commands.specs.Papers.{written}
use Rattle.macs_texts.specs.Measuring.{left_name, left_sample, metric_head, own_label}
use Rattle.macs_texts.proofs.Adding.{looped, next-item}
use Rattle.macs_texts.proofs.measuring.left_metric.Goals as goal

pub loop-an-preserved : goal.loop-an-preserved
loop-an-preserved g c =
    next-item (left_sample (own_label c.args.own) (state_of c.args.endpoint.now no_logs)) c.all-an-items.result 4
    c.loop-an.an-index _ _ c.describe.new.paper c.loop-an.paper c.left_sample.new.paper
    (ap (λ (ns : List ℕ). length ns) c.all-an-items.ensures) c.loop-an-test.true refl c.loop-an.invariant
    c.left_sample.ensures

pub returns : goal.returns
returns g c =
    let s : State = state_of c.args.endpoint.now no_logs in
    looped (left_sample (own_label c.args.own) s) c.all-an-items.result 4 c.loop-an.an-index c.args.paper.now
    c.describe.new.paper c.loop-an.paper _ (ap (λ (ns : List ℕ). length ns) c.all-an-items.ensures)
    c.loop-an-test.false c.describe.ensures c.loop-an.invariant
    ∙ ap (λ (ns : List ℕ). written c.args.paper.now
    (metric_head left_name (codes "gauge") (codes "Packet numbers left under a transmit key.")
    ++ flat_map (left_sample (own_label c.args.own) s) ns)) c.all-an-items.ensures
