use Rattle.std.proofs.Common.{not, rules, tests}
use Rattle.std.proofs.lemmas.Iterator.{YieldsList-from_slice}
use Rattle.std.proofs.lemmas.Iterator.Search.{all_from_yields_List}
use Rattle.macs_record.specs.Layout.{kind_of}
use Rattle.macs_record.specs.declared.record.Record.{Record}
use Rattle.macs_store.specs.Replay.{is_long_kind}
use Rattle.macs_store.proofs.standing.all_belong.Goals as goal

pub returns-in-One : goal.returns-in-One
returns-in-One c =
    rw c.in-One.is
    (all_from_yields_List (λ (r : Record). not (is_long_kind (kind_of r))) _ _ c.all.result c.all.ensures.ran
    (YieldsList-from_slice c.args.records.now (cc))
    (λ x b q k. search (rules, tests)))
