use Rattle.std.proofs.Common.{◌∙◌, rules, sym, tests}
use Rattle.std.proofs.lemmas.Iterator.{YieldsList-from_slice}
use Rattle.std.proofs.lemmas.Iterator.Search.{all_from_yields_List}
use Rattle.std.proofs.lemmas.List.Folds.{list_all-map}
use Rattle.std.specs.List.{list_all}
use Rattle.macs_config.specs.Snapshot.{is_rx_spent, every_an}
use Rattle.macs_config.specs.Value.{config_in}
use Rattle.macs_config.specs.declared.contents.Channel.{Channel}
use Rattle.macs_config.proofs.restore.are_rx_spent.Goals as goal

pub returns : goal.returns
returns c =
    let channels = c.args.contents.now.channels.items in
    all_from_yields_List (λ (channel : Channel).
    list_all (is_rx_spent (config_in c.args.contents.now) channel.sci) every_an) _ _ _ c.all.ensures.ran
    (YieldsList-from_slice channels (cc)) (λ x b q k. search (rules, tests))
    ∙ sym (list_all-map (λ sci. list_all (is_rx_spent (config_in c.args.contents.now) sci) every_an)
    (λ (channel : Channel). channel.sci) channels)
