use Rattle.std.proofs.Common.{◌==◌, ◌∙◌, rules, tests}
use Rattle.std.proofs.lemmas.Iterator.{YieldsList-from_slice}
use Rattle.std.proofs.lemmas.Iterator.Search.{find_from_yields_List}
use Rattle.macs_record.specs.Layout.{kind_number}
use Rattle.macs_record.specs.declared.kind.Kind.{Kind}
use Rattle.macs_record.specs.declared.kind.TheConstants.{KINDS}
use Rattle.macs_record.proofs.RecordKinds.{has_number}
use Rattle.macs_record.proofs.kind.Kind.of.Goals as goal

pub returns : goal.returns
returns c =
    let found = find_from_yields_List (λ (kind : Kind). kind_number kind == c.args.number) _ _ c.find.result
    c.find.ensures.ran (YieldsList-from_slice KINDS (cc)) (λ x b q k. search (rules, tests)) in
    has_number c.args.number c.copied.result (c.copied.ensures ∙ found)
