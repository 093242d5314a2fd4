use Rattle.std.proofs.Common.{◌∙◌, ap, rules}
use Rattle.std.proofs.lemmas.Result.{IfOk-weaker}
use Rattle.json.specs.Json.{document}
use Rattle.macs_cli.proofs.Back.{back}
use Rattle.macs_cli.proofs.report_json.lines.json_of_line.Goals as goal

pub returns-clause-reads_back : goal.returns-clause-reads_back
returns-clause-reads_back c =
    IfOk-weaker c.to_vec.result _ _
    (λ json is. ap document is ∙ back c.args.line.now) (search rules)
