use Rattle.std.proofs.Common.{refl}
use Rattle.macs_texts.specs.Counting.{wire_line, wire_numbers}
use Rattle.macs_texts.proofs.Adding.{next-item}
use Rattle.macs_texts.proofs.counting.wire_lines.Goals as goal

pub loop-number-preserved : goal.loop-number-preserved
loop-number-preserved c =
    next-item (wire_line c.args.side.now c.args.wire.now) wire_numbers 8 c.loop-number.number-index _ _ c.args.paper.now
    c.loop-number.paper
    c.count_line_of.new.paper refl c.loop-number-test.true refl c.loop-number.invariant
    (rw (c.wire_words.ensures, c.wire_number.ensures) at c.count_line_of.ensures)
