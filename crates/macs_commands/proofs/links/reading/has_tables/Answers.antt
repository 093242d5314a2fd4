use Rattle.std.proofs.Common.{◌≡◌, ◌∙◌, ◌==◌, List, [], ◌∷◌, length, false, refl, sym}
use Rattle.std.proofs.lemmas.Bool.{true≢false}
use Rattle.toml.specs.View.{items_view}
use Rattle.toml.specs.declared.value.Value.{Value}
use Rattle.macs_commands.specs.Reading.{has_tables}
use Rattle.macs_commands.specs.Tables.{are_tables}
use Rattle.macs_commands.proofs.links.reading.has_tables.Goals as goal

-- some values
some_tables : (values : List Value) → (length values == 0) ≡ false
    → are_tables (items_view values) ≡ has_tables (items_view values)
some_tables [] some = absurd (true≢false some)
some_tables (value ∷ values) some = refl

pub returns-then-not-is_empty : goal.returns-then-not-is_empty
returns-then-not-is_empty c =
    c.are_tables.ensures ∙ some_tables c.args.values.now (sym c.is_empty.ensures ∙ c.if-not-is_empty.true)
