-- The help texts.
use Rattle.std.specs.Prelude.{ℕ, List}
use Rattle.macs_cli.specs.declared.words.help.Subcommand.{Subcommand}
use Rattle.macs_cli.specs.declared.words.help.Subcommand.TheVariants as subcommand
use Rattle.macs_cli.specs.declared.words.help.Topic.{Topic}
use Rattle.macs_cli.specs.declared.words.help.Topic.TheVariants.{Help, HelpOn, Version}
use Rattle.macs_cli.specs.declared.words.help_texts.TheConstants.{ABOUT, APPLY, ASK, CHECK, EXAMINE, FORMAT, HELP}
use Rattle.macs_cli.specs.declared.words.help_texts.TheConstants.{INSPECT, KEEP}
use Rattle.macs_cli.specs.declared.words.help_texts.TheConstants.{KEY, OPEN, PLAN, PROTECT, RELAY, SHOW, VALIDATE}
use Rattle.macs_cli.specs.declared.words.help_texts.TheConstants.{VERSION}

-- the help text of a subcommand
abbrev pub subcommand_text : Subcommand → List ℕ
subcommand_text subcommand.Open = OPEN.now
subcommand_text subcommand.Format = FORMAT.now
subcommand_text subcommand.Apply = APPLY.now
subcommand_text subcommand.Show = SHOW.now
subcommand_text subcommand.Protect = PROTECT.now
subcommand_text subcommand.Validate = VALIDATE.now
subcommand_text subcommand.Relay = RELAY.now
subcommand_text subcommand.Keep = KEEP.now
subcommand_text subcommand.Ask = ASK.now
subcommand_text subcommand.Key = KEY.now
subcommand_text subcommand.Inspect = INSPECT.now
subcommand_text subcommand.Check = CHECK.now
subcommand_text subcommand.Plan = PLAN.now
subcommand_text subcommand.Examine = EXAMINE.now
subcommand_text subcommand.About = ABOUT.now

-- the text for a topic, in whole lines
abbrev pub topic_text : Topic → List ℕ
topic_text Help = HELP.now
topic_text (HelpOn which) = subcommand_text which
topic_text Version = VERSION.now
