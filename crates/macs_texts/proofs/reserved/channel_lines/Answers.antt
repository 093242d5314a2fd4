use Rattle.std.proofs.Common.{ℕ, List, ap, length, refl}
use Rattle.macs_endpoint.specs.Reserved.{reserved_of}
use Rattle.macs_texts.specs.ReservedTexts.{rx_line}
use Rattle.macs_texts.proofs.Adding.{next-item}
use Rattle.macs_texts.proofs.reserved.channel_lines.Goals as goal

pub loop-an-preserved : goal.loop-an-preserved
loop-an-preserved g c =
    next-item (rx_line (reserved_of c.args.endpoint.now) c.args.sci) c.all-an-items.result 4 c.loop-an.an-index
    c.an-item.result _
    c.args.paper.now c.loop-an.paper c.rx_line.new.paper (ap (λ (ns : List ℕ). length ns) c.all-an-items.ensures)
    c.loop-an-test.true refl c.loop-an.invariant c.rx_line.ensures
