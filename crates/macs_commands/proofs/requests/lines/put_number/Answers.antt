use Rattle.std.proofs.Common.{codes, decimal}
use Rattle.macs_commands.proofs.Lined.{both_written}
use Rattle.macs_commands.proofs.requests.lines.put_number.Goals as goal

pub returns : goal.returns
returns c = both_written c.args.paper.now c.number.new.self c.put.new.self (decimal c.args.number) (codes " ")
    (rw c.from.ensures at c.number.ensures) c.put.ensures
