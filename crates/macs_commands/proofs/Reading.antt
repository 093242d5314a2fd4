-- Commands read one by one.
use Rattle.std.proofs.Common.{◌≡◌, ◌<◌, ◌+◌, ℕ, List, [], ◌∷◌, ◌++◌, length, drop, get_or, refl, ap, sym, ◌∙◌}
use Rattle.std.proofs.Common.{append_assoc, Result, Ok, Err, Some}
use Rattle.toml.specs.Data.{Data, string, integer, float, boolean, datetime, array, table, Items, item}
use Rattle.toml.specs.Data.{Members, as_table}
use Rattle.toml.specs.declared.value.Value.{Value}
use Rattle.toml.specs.View.{items_view, view}
use Rattle.toml.proofs.Views.{items_view-drop}
use Rattle.macs_config.specs.declared.command.Command.{Command}
use Rattle.macs_commands.specs.declared.files.config_fault.ConfigFault.{ConfigFault}
use Rattle.macs_commands.specs.CommandFiles.{table_command, table_commands, before}

abbrev pub joined : List Command → Result (List Command) ConfigFault → Result (List Command) ConfigFault
joined done (Ok rest) = Ok (done ++ rest)
joined done (Err fault) = Err fault

pub joined_one : (done : List Command) (command : Command) (rest : Result (List Command) ConfigFault)
    → joined done (before (Ok command) rest) ≡ joined (done ++ command ∷ []) rest
joined_one done command (Ok rest) = ap Ok (sym (append_assoc done (command ∷ []) rest))
joined_one done command (Err fault) = refl

pub is_table_of : (d : Data) (ms : Members) → as_table d ≡ Some ms → d ≡ table ms
is_table_of (table xs) ms e = cc
is_table_of (string s) ms e = cc
is_table_of (integer z) ms e = cc
is_table_of (float x) ms e = cc
is_table_of (boolean b) ms e = cc
is_table_of (datetime dt) ms e = cc
is_table_of (array ds) ms e = cc

-- the current value is the first of those that are left
pub one_left : (vs : List Value) (i : ℕ) (value : Value) (ms : Members) → i < length vs → value ≡ get_or vs i value
    → as_table (view value) ≡ Some ms → items_view (drop i vs) ≡ item (table ms) (items_view (drop (i + 1) vs))
one_left vs i value ms within same e =
    items_view-drop vs i value within ∙ ap (λ v. item (view v) (items_view (drop (i + 1) vs))) (sym same)
    ∙ ap (λ x. item x (items_view (drop (i + 1) vs))) (is_table_of (view value) ms e)

-- it is that of a command
pub table-more : (vs : List Value) (i : ℕ) (done : List Command) (all : Result (List Command) ConfigFault)
    → all ≡ joined done (table_commands (i + 1) (items_view (drop i vs)))
    → (value : Value) → i < length vs → value ≡ get_or vs i value → (ms : Members) → Some ms ≡ as_table (view value)
    → (command : Command) → Ok command ≡ table_command (i + 1) ms
    → all ≡ joined (done ++ command ∷ []) (table_commands (i + 1 + 1) (items_view (drop (i + 1) vs)))
table-more vs i done all so_far value within same ms some command is =
    let rest = table_commands (i + 1 + 1) (items_view (drop (i + 1) vs)) in
    so_far
    ∙ ap (λ (x : Items). joined done (table_commands (i + 1) x)) (one_left vs i value ms within same (sym some))
    ∙ ap (λ (r : Result Command ConfigFault). joined done (before r rest)) (sym is)
    ∙ joined_one done command rest
