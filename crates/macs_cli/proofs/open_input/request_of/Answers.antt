use Rattle.std.proofs.Common.{arith, length, ap}
use Rattle.macs_cli.proofs.TextLines.{length-line_at}
use Rattle.macs_cli.proofs.open_input.request_of.Goals as goal

pub frame_of-requires : goal.frame_of-requires
frame_of-requires c = omega (arith, ap length c.in-Some.ensures.fourth, length-line_at c.args.input.now 3)
