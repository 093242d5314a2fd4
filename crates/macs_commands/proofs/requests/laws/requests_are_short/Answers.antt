use Rattle.macs_commands.proofs.Lengths.{request_short}
use Rattle.macs_commands.proofs.requests.laws.requests_are_short.Goals as goal

pub returns : goal.returns
returns c = λ request asked. request_short request asked
