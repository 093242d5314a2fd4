use Rattle.std.proofs.Common.{◌∙◌, sym, rules, ◌≡◌, [], tests}
use Rattle.std.proofs.lemmas.List.{nil_from_length}
use Rattle.macs_cli.proofs.TextLines.{lines-cut, lines-nil, lines-uncut}
use Rattle.macs_cli.proofs.four_lines.cut_line.Goals as goal

pub returns-then-is_empty : goal.returns-then-is_empty
returns-then-is_empty c =
    let empty : c.args.text.now ≡ [] = nil_from_length c.args.text.now (search (rules, tests)) in
    rw empty lines-nil

pub returns-in-Some : goal.returns-in-Some
returns-in-Some c = lines-cut c.args.text.now c.in-Some.end (sym c.line_feed_in.ensures ∙ c.in-Some.is)

pub returns-in-None : goal.returns-in-None
returns-in-None c = lines-uncut c.args.text.now (search (rules, tests)) (sym c.line_feed_in.ensures ∙ c.in-None.is)
