use Rattle.std.proofs.Common.{◌∙◌, ◌≡◌, ◌∷◌, List, [], length, refl, ap, suc, String}
use Rattle.std.specs.declared.alloc.Global.{Global}
use Rattle.toml.specs.View.{members_view}
use Rattle.toml.specs.declared.value.Value.{Value}
use Rattle.macs_commands.specs.Tables.{count}
use Rattle.macs_commands.proofs.tables.keys.Goals as goal

-- A table has as many members as its map has entries.
counted : (es : List (String Global × Value)) → length es ≡ count (members_view es)
counted [] = refl
counted (e ∷ es) = ap (λ n. suc n) (counted es)

pub returns : goal.returns
returns c = c.len.ensures.len ∙ counted c.args.table.now.entries
