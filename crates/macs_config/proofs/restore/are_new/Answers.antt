use Rattle.std.proofs.Common.{◌≡◌, ◌∙◌, ◌&&◌, ℕ, List, Bool, true, not, ap, rules, sym, tests}
use Rattle.std.proofs.lemmas.Iterator.{YieldsList-from_slice}
use Rattle.std.proofs.lemmas.Iterator.Search.{all_from_yields_List}
use Rattle.std.specs.List.{list_all}
use Rattle.macs_config.specs.Config.{are_distinct, is_among}
use Rattle.macs_config.proofs.restore.are_new.Goals as goal

pub returns-then-are_distinct : goal.returns-then-are_distinct
returns-then-are_distinct c =
    let fingerprints = c.args.fingerprints.now in
    let distinct : are_distinct fingerprints ≡ true = cc in
    let new = λ (fingerprint : List ℕ). not (is_among c.args.spent.now fingerprint) in
    all_from_yields_List new _ _ c.all.result c.all.ensures.ran (YieldsList-from_slice fingerprints (cc))
    (λ x b q k. search (rules, tests))
    ∙ ap (λ (first : Bool). first && list_all new fingerprints) (sym distinct)
