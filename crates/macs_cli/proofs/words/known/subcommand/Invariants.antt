use Rattle.std.proofs.Common.{◌≡◌, drop, false}
use Rattle.clap.specs.Words.{app_of, new_app}
use Rattle.clap.specs.declared.builder.command.Command.TheViews.{out-Command as fields_of}
use Rattle.macs_cli.specs.Words.{with_arguments}
use Rattle.macs_cli.proofs.words.known.subcommand.Given as goal

abbrev pub invariant-loop-i : goal.invariant-loop-i
invariant-loop-i l = record {
  left : with_arguments (app_of l.words) (drop l.i l.arguments) ≡ with_arguments (new_app l.fn.name) l.arguments;
  local : (fields_of l.words).has_globals ≡ false;
}
