use Rattle.std.proofs.Common.{ℕ, List, [], length, string_bytes, ap, refl}
use Rattle.macs_store.specs.Standing.{Standing}
use Rattle.macs_store.specs.Value.{standing_in}
use Rattle.macs_texts.proofs.Shown.{shown-more}
use Rattle.macs_offline.specs.Examining.{rx_ceiling_text}
use Rattle.macs_offline.proofs.examined_text.channel_text.Goals as goal

pub loop-an-preserved : goal.loop-an-preserved
loop-an-preserved g c =
    let s : Standing = standing_in c.args.store.now in
    shown-more (rx_ceiling_text s c.args.sci) c.all-an-items.result 4 c.loop-an.an-index _ _ []
    (string_bytes c.loop-an.text)
    (string_bytes c.push_str.new.self) c.as_str.result.now (string_bytes c.in_ok-rx_line.field-0)
    (ap (λ (ns : List ℕ). length ns) c.all-an-items.ensures) c.loop-an-test.true refl
    c.loop-an.invariant c.in_ok-push_str.ensures.bytes c.as_str.ensures.value
    (rw c.rx_ceiling.ensures at c.in_ok-rx_line.ensures)
