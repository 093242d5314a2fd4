use Rattle.std.proofs.Common.{◌∙◌, ℕ, List, ◌++◌, ap, length, refl}
use Rattle.std.specs.Prelude.{codes, flat_map}
use Rattle.macs_commands.specs.Papers.{written}
use Rattle.macs_endpoint.specs.Reserved.{reserved_of}
use Rattle.macs_texts.specs.Measuring.{metric_head, own_label, tx_reserved_name, tx_reserved_sample}
use Rattle.macs_texts.proofs.Adding.{looped, next-item}
use Rattle.macs_texts.proofs.reserved_metrics.tx_metric.Goals as goal

pub loop-an-preserved : goal.loop-an-preserved
loop-an-preserved g c =
    next-item (tx_reserved_sample (own_label c.args.own) (reserved_of c.args.endpoint.now)) c.all-an-items.result 4
    c.loop-an.an-index _ _ c.describe.new.paper c.loop-an.paper c.tx_sample.new.paper
    (ap (λ (ns : List ℕ). length ns) c.all-an-items.ensures) c.loop-an-test.true refl c.loop-an.invariant
    c.tx_sample.ensures

abbrev head : List ℕ
head = metric_head tx_reserved_name (codes "gauge")
    (codes "Packet numbers reserved and not used, which a power loss would skip.")

pub returns : goal.returns
returns g c =
    looped (tx_reserved_sample (own_label c.args.own) (reserved_of c.args.endpoint.now)) c.all-an-items.result 4
    c.loop-an.an-index c.args.paper.now c.describe.new.paper c.loop-an.paper head
    (ap (λ (ns : List ℕ). length ns) c.all-an-items.ensures) c.loop-an-test.false c.describe.ensures
    c.loop-an.invariant
    ∙ ap (λ (ns : List ℕ). written c.args.paper.now
    (head ++ flat_map (tx_reserved_sample (own_label c.args.own) (reserved_of c.args.endpoint.now)) ns))
    c.all-an-items.ensures
