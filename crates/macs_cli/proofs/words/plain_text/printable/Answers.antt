use Rattle.std.proofs.Common.{◌≡◌, IfOk, map, rules, tests}
use Rattle.std.specs.Prelude.{string_bytes}
use Rattle.std.specs.Str.{chars, encode_utf8_all}
use Rattle.std.proofs.lemmas.Iterator.{YieldsList-from_chars, YieldsList-from_map, text_from_collect}
use Rattle.std.proofs.lemmas.Result.{IfOk-weaker}
use Rattle.macs_cli.proofs.Controls.{chars-printable, is-printable}
use Rattle.macs_cli.specs.Controls.{printable_char}
use Rattle.macs_cli.proofs.words.plain_text.printable.Goals as goal

pub returns-clause-each : goal.returns-clause-each
returns-clause-each c =
    let written : IfOk c.collect.result
    (λ shown. string_bytes shown ≡ encode_utf8_all (map printable_char (chars c.args.text.now))) =
    text_from_collect _ c.collect.ensures.ran (YieldsList-from_map _ printable_char (YieldsList-from_chars
    c.args.text.now c.utf8.text cc) c.map.ensures.closure (λ x r q k. search (rules, tests))) in
    IfOk-weaker c.collect.result _ _ (λ shown is. chars-printable _ _ c.utf8.text is) written

pub returns-clause-printable : goal.returns-clause-printable
returns-clause-printable c =
    IfOk-weaker c.collect.result _ _ (λ shown same. is-printable c.args.text.now _ same) (returns-clause-each c)
