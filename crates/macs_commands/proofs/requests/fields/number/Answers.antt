use Rattle.std.proofs.Common.{arith}
use Rattle.macs_commands.proofs.Values.{number_said}
use Rattle.macs_commands.proofs.requests.fields.number.Goals as goal

pub returns : goal.returns
returns c = λ n small is.
    number_said 32 n c.unwrap_or.result c.args.text.now c.parse.result small (omega (arith, small)) is
    c.parse.ensures.value.0 c.unwrap_or.ensures
