use Rattle.std.proofs.Common.{◌≡◌, drop}
use Rattle.clap.specs.Words.{app_of}
use Rattle.macs_cli.specs.Words.{with_subcommands}
use Rattle.macs_cli.proofs.words.known.with_subcommands.Given as goal

abbrev pub invariant-loop-i : goal.invariant-loop-i
invariant-loop-i l = with_subcommands (app_of l.words) (drop l.i l.subcommands)
    ≡ with_subcommands (app_of l.initial.words) l.subcommands
