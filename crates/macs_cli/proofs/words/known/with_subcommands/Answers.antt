use Rattle.macs_cli.proofs.Subcommands.{one-more}
use Rattle.macs_cli.proofs.words.known.with_subcommands.Goals as goal

pub loop-i-preserved : goal.loop-i-preserved
loop-i-preserved c =
    one-more c.loop-i.words c.in_ok-subcommand.field-0 c.in_ok-words.words c.args.subcommands.now c.loop-i.i _ _
    c.loop-i-test.true c.in_ok-subcommand.ensures c.in_ok-words.ensures c.loop-i.invariant
