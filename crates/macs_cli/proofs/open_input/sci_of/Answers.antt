use Rattle.macs_cli.proofs.Spelling.{spelled-sized}
use Rattle.macs_cli.proofs.open_input.sci_of.Goals as goal

pub returns : goal.returns
returns c = spelled-sized c.args.line.now 8 c.sci_of.result c.sci_of.ensures
