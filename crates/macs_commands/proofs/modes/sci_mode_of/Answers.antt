use Rattle.std.proofs.Common.{◌∙◌, rules, tests}
use Rattle.std.proofs.lemmas.Iterator.{YieldsList-from_slice}
use Rattle.std.proofs.lemmas.Iterator.Search.{find_from_yields_List}
use Rattle.std.specs.Str.{bytes_eq}
use Rattle.macs_config.specs.declared.command.SciMode.{SciMode}
use Rattle.macs_commands.specs.Words.{sci_mode_word, sci_modes}
use Rattle.macs_commands.proofs.modes.sci_mode_of.Goals as goal

pub returns : goal.returns
returns c =
    c.copied.ensures
    ∙ find_from_yields_List (λ (mode : SciMode). bytes_eq (sci_mode_word mode) c.args.text.now) _ _ c.find.result
    c.find.ensures.ran (YieldsList-from_slice sci_modes (cc)) (λ x b q k. search (rules, tests))
