use Rattle.std.proofs.lemmas.Iterator.{YieldsList-from_chars, YieldsList-from_take, text_from_collect}
use Rattle.macs_offline.proofs.shown_keys.front_of.Goals as goal

pub returns : goal.returns
returns c = text_from_collect _ c.collect.ensures.ran
    (YieldsList-from_take 64 (YieldsList-from_chars c.args.key.now c.utf8.key cc) c.take.ensures.count)
