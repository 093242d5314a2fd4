use Rattle.std.proofs.Common.{decimal}
use Rattle.hex.specs.Hex.{encode_lower}
use Rattle.macs_commands.proofs.Blanks.{cut_at}
use Rattle.macs_commands.proofs.Values.{sci_lacks}
use Rattle.macs_commands.proofs.requests.commands_of_lines.rx_remove.Goals as goal

pub returns : goal.returns
returns c = λ sci an told is.
    let first = c.split_word-first.result in
    let a = cut_at c.args.text.now first.word.now first.rest.now (encode_lower sci) (decimal an)
    c.split_word-first.ensures is
    (sci_lacks sci told.0.0) in
    let sci_is = c.sci.ensures sci told.0.0 a.0 in
    let an_is = c.an.ensures an told.0.1 a.1 in cc
