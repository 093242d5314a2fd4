use Rattle.std.proofs.Common.{[], string_bytes, arith, refl}
use Rattle.macs_texts.proofs.Shown.{shown-more}
use Rattle.macs_offline.specs.RecordLines.{record_line}
use Rattle.macs_offline.proofs.RecordWords.{all-lines, words-count}
use Rattle.macs_offline.proofs.record_lines.records_text.Goals as goal

pub loop-word-preserved : goal.loop-word-preserved
loop-word-preserved c =
    shown-more (λ word. record_line c.args.records.now word.now) c.record_words-word-items.result 17
    c.loop-word.word-index _ _ []
    (string_bytes c.loop-word.text)
    (string_bytes c.push_str.new.self) c.as_str.result.now (string_bytes c.in_ok-record_line.field-0)
    (words-count (λ word. word.now) c.record_words-word-items.result c.record_words-word-items.ensures)
    c.loop-word-test.true refl
    c.loop-word.invariant c.in_ok-push_str.ensures.bytes c.as_str.ensures.value c.in_ok-record_line.ensures

pub returns : goal.returns
returns c =
    all-lines (λ word. word.now) c.record_words-word-items.result c.loop-word.word-index c.args.records.now
    (string_bytes c.loop-word.text)
    c.record_words-word-items.ensures (omega (arith, c.loop-word-test.false)) c.loop-word.invariant
