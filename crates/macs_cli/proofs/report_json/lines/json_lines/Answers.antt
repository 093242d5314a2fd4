use Rattle.std.proofs.Common.{◌≡◌, rules}
use Rattle.macs_cli.specs.Cutting.{lines}
use Rattle.macs_cli.specs.Objects.{json_text}
use Rattle.macs_cli.proofs.Back.{all-back}
use Rattle.macs_cli.proofs.report_json.lines.json_lines.Goals as goal

pub returns-clause-reads_back : goal.returns-clause-reads_back
returns-clause-reads_back c =
    let text : c.loop-line.json.items ≡ json_text c.args.report.now = search rules in
    rw text (all-back (lines c.args.report.now))
