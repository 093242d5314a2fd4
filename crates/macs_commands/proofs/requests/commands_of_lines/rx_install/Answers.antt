use Rattle.std.proofs.Common.{ℕ, List, arith, decimal}
use Rattle.hex.specs.Hex.{encode_lower}
use Rattle.macs_commands.specs.CommandLines.{spaced, key_digits}
use Rattle.macs_commands.proofs.Blanks.{cut_at, decimal_lacks}
use Rattle.macs_commands.proofs.Values.{key_lacks, sci_lacks}
use Rattle.macs_commands.proofs.requests.commands_of_lines.rx_install.Goals as goal

pub returns : goal.returns
returns c = λ sci an key start offset told is.
    let first = c.split_word-first.result in
    let second = c.split_word-second.result in
    let third = c.split_word-third.result in
    let fourth = c.split_word-fourth.result in
    let after_key : List ℕ = spaced (decimal start) (decimal offset) in
    let after_an : List ℕ = spaced (key_digits key) after_key in
    let after_sci : List ℕ = spaced (decimal an) after_an in
    let a =
    cut_at c.args.text.now first.word.now first.rest.now (encode_lower sci) after_sci c.split_word-first.ensures is
    (sci_lacks sci told.0.0) in
    let b = cut_at first.rest.now second.word.now second.rest.now (decimal an) after_an c.split_word-second.ensures a.1
    (decimal_lacks an (omega (arith, told.0.1))) in
    let d =
    cut_at second.rest.now third.word.now third.rest.now (key_digits key) after_key c.split_word-third.ensures b.1
    (key_lacks key told.0.2 told.1) in
    let e =
    cut_at third.rest.now fourth.word.now fourth.rest.now (decimal start) (decimal offset)
    c.split_word-fourth.ensures d.1
    (decimal_lacks start (omega (arith, told.0.3))) in
    let sci_is = c.sci.ensures sci told.0.0 a.0 in
    let an_is = c.an.ensures an told.0.1 b.0 in
    let key_is = c.key.ensures key told.0.2 told.1 d.0 in
    let start_is = c.number.ensures start told.0.3 e.0 in
    let offset_is = c.octet.ensures offset told.0.4 e.1 in cc
