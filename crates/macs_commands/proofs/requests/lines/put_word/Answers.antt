use Rattle.std.proofs.Common.{codes}
use Rattle.macs_commands.proofs.Lined.{both_written}
use Rattle.macs_commands.proofs.requests.lines.put_word.Goals as goal

pub returns : goal.returns
returns c = both_written c.args.paper.now c.put.new.self c.put-2.new.self c.args.text.now (codes " ") c.put.ensures
    c.put-2.ensures
