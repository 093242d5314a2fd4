use Rattle.std.proofs.lemmas.Str.Pattern.{contains_text, split_text_parts}
use Rattle.std.proofs.Common.{None, false, refl}
use Rattle.macs_offline.specs.KeyLists.{formatted}
use Rattle.macs_offline.proofs.KeyLists.{spent-behind, unspent}
use Rattle.macs_offline.proofs.key_list.has_spent.Goals as goal

pub returns-in-Some : goal.returns-in-Some
returns-in-Some c =
    let found = c.in-Some.ensures.cases in
    spent-behind c.args.list.now c.args.digits.now _ found.0 found.1 found.2.1 found.4 _ found.2.0
    (contains_text c.contains.result formatted _ c.contains.ensures.cases)

pub returns-in-None : goal.returns-in-None
returns-in-None c = unspent c.args.list.now c.args.digits.now false refl
    (split_text_parts c.args.digits.now c.args.list.now None c.in-None.ensures.cases)
