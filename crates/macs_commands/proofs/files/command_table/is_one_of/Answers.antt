use Rattle.std.proofs.Common.{◌∙◌, rules, tests}
use Rattle.std.proofs.lemmas.Iterator.{YieldsList-from_slice}
use Rattle.std.proofs.lemmas.Iterator.Search.{any_from_yields_List}
use Rattle.std.specs.Str.{bytes_eq}
use Rattle.macs_commands.proofs.KeysBeside.{any-key}
use Rattle.macs_commands.proofs.files.command_table.is_one_of.Goals as goal

pub returns : goal.returns
returns c =
    any_from_yields_List (λ one. bytes_eq c.args.key.now one.now) _ _ _ c.any.ensures.ran
    (YieldsList-from_slice c.args.keys.now cc) (λ x b q k. search (rules, tests))
    ∙ any-key c.args.key.now c.args.keys.now
