use Rattle.std.proofs.Common.{◌≡◌, [], rules, tests}
use Rattle.std.proofs.lemmas.List.{nil_from_length}
use Rattle.macs_cli.proofs.Cut.{pieces-halves, pieces-nil, pieces-whole}
use Rattle.macs_cli.proofs.report_json.cutting.cut.Goals as goal

pub returns-then-is_empty-clause-pieces : goal.returns-then-is_empty-clause-pieces
returns-then-is_empty-clause-pieces c =
    let empty : c.args.text.now ≡ [] = nil_from_length c.args.text.now (search (rules, tests)) in
    rw empty (pieces-nil c.args.end)

pub returns-in-Some-clause-pieces : goal.returns-in-Some-clause-pieces
returns-in-Some-clause-pieces c =
    pieces-halves c.args.end c.args.text.now c.in-Some.halves c.in-Some.ensures.cases c.requires

pub returns-in-None-clause-pieces : goal.returns-in-None-clause-pieces
returns-in-None-clause-pieces c =
    pieces-whole c.args.end c.args.text.now c.in-None.ensures.cases c.requires (search (rules, tests))
