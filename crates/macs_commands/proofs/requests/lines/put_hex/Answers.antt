use Rattle.std.proofs.Common.{codes}
use Rattle.hex.specs.Hex.{encode_lower}
use Rattle.macs_commands.proofs.Lined.{both_written}
use Rattle.macs_commands.proofs.requests.lines.put_hex.Goals as goal

pub returns : goal.returns
returns c = both_written c.args.paper.now c.hex.new.self c.put.new.self (encode_lower c.args.octets.now) (codes " ")
    c.hex.ensures c.put.ensures
