use Rattle.std.proofs.Common.{[], string_bytes, refl}
use Rattle.macs_store.specs.Standing.{Standing}
use Rattle.macs_store.specs.Value.{standing_in}
use Rattle.macs_texts.proofs.Shown.{shown-more}
use Rattle.macs_offline.specs.Examining.{channel_ceilings_text}
use Rattle.macs_offline.proofs.examined_text.channels_text.Goals as goal

pub loop-sci-preserved : goal.loop-sci-preserved
loop-sci-preserved g c =
    let s : Standing = standing_in c.args.store.now in
    shown-more (channel_ceilings_text s) c.deref-sci-items.result.now _ c.loop-sci.sci-index _ c.sci-item.result []
    (string_bytes c.loop-sci.text)
    (string_bytes c.push_str.new.self) c.as_str.result.now (string_bytes c.in_ok-channel_text.field-0) refl
    c.loop-sci-test.true c.sci-item.is
    c.loop-sci.invariant c.in_ok-push_str.ensures.bytes c.as_str.ensures.value c.in_ok-channel_text.ensures
