use Rattle.macs_cli.proofs.Spelling.{spelled-key}
use Rattle.macs_cli.proofs.open_input.key_of.Goals as goal

pub returns : goal.returns
returns c = spelled-key c.args.line.now c.key_of.result c.key_of.ensures
