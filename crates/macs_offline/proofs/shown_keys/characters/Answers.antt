use Rattle.std.proofs.lemmas.Iterator.{YieldsList-from_chars}
use Rattle.std.proofs.lemmas.Iterator.Consumers.{count_from_yields_List}
use Rattle.macs_offline.proofs.shown_keys.characters.Goals as goal

pub returns : goal.returns
returns c =
    count_from_yields_List c.chars.result _ c.count.ensures.ran (YieldsList-from_chars c.args.key.now c.utf8.key cc)
