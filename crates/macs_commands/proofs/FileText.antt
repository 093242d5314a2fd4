-- A command file is read as the commands that it was written for, and as for their end.
use Rattle.std.proofs.Common.{◌≡◌, ◌∙◌, ◌≤◌, ◌+◌, ℕ, true, List, [], ◌∷◌, ◌++◌, Result, Ok, Err, IfOk, Some, String}
use Rattle.std.proofs.Common.{codes, string_bytes, length, take, get_or, ◌<◌, subst, sym, refl, ap, arith}
use Rattle.std.specs.declared.alloc.Global.{Global}
use Rattle.std.proofs.lemmas.List.{take_more}
use Rattle.toml.specs.Data.{Data, Items, Members, item, items_depth, member, members_depth, no_members, push_item}
use Rattle.toml.specs.Data.{table}
use Rattle.toml.specs.View.{items_view, view}
use Rattle.toml.specs.declared.value.Value.{Value}
use Rattle.toml.proofs.Views.{items_view-push}
use Rattle.hex.specs.Hex.{encode_lower}
use Rattle.macs_config.specs.declared.command.Command.{Command}
use Rattle.macs_config.specs.declared.command.Command.TheVariants.{SetValidate, SetReplay, SetSciMode, TxInstall, TxUse}
use Rattle.macs_config.specs.declared.command.Command.TheVariants.{TxRemove, RxAdd, RxDrop, RxInstall, RxRemove}
use Rattle.macs_commands.specs.CommandFiles.{table_command, table_commands}
use Rattle.macs_commands.specs.Tables.{are_tables}
use Rattle.macs_commands.specs.Ends.{end_commands, end_in}
use Rattle.macs_fields.specs.Fields.{IsSci}
use Rattle.macs_commands.proofs.KeyDigits.{octets_read}
use Rattle.macs_commands.specs.Writing.{IsTextOf, SaysCommands, digits, file_of, table_of, tables_of}

-- ---- how deep it is

no_deeper : (command : Command) → members_depth (table_of command) ≡ 0
no_deeper (SetValidate mode) = refl
no_deeper (SetReplay on window) = refl
no_deeper (SetSciMode mode) = refl
no_deeper (TxInstall an key start confidential offset) = refl
no_deeper (TxUse an) = refl
no_deeper (TxRemove an) = refl
no_deeper (RxAdd sci) = refl
no_deeper (RxDrop sci) = refl
no_deeper (RxInstall sci an key start offset) = refl
no_deeper (RxRemove sci an) = refl

tables_depth : (commands : List Command) → items_depth (tables_of commands) ≤ 1
tables_depth [] = omega arith
tables_depth (command ∷ commands) =
    let here = no_deeper command in let later = tables_depth commands in omega (arith, here, later)

pub file_depth : (sci : List ℕ) (commands : List Command) → members_depth (file_of sci commands) ≤ 80
file_depth sci commands = let inside = tables_depth commands in omega (arith, inside)

-- ---- what it is read as

-- the table of each command is read as that one
abbrev pub AllRead : List Command → Type 0
AllRead [] = Unit {0}
AllRead (command ∷ commands) = ((at : ℕ) → table_command at (table_of command) ≡ Ok command) × AllRead commands

pub one_more : (commands : List Command) (command : Command) → AllRead commands
    → ((at : ℕ) → table_command at (table_of command) ≡ Ok command) → AllRead (commands ++ command ∷ [])
one_more [] command all read = (read, tt)
one_more (first ∷ commands) command all read = (all.0, one_more commands command all.1 read)

pub tables_pushed : (commands : List Command) (command : Command)
    → tables_of (commands ++ command ∷ []) ≡ push_item (tables_of commands) (table (table_of command))
tables_pushed [] command = refl
tables_pushed (first ∷ commands) command = ap (item (table (table_of first))) (tables_pushed commands command)

all_read : (commands : List Command) → AllRead commands → (at : ℕ)
    → table_commands at (tables_of commands) ≡ Ok commands
all_read [] all at = refl
all_read (command ∷ commands) all at = rw (all.0 at, all_read commands all.1 (at + 1)) refl

all_tables : (commands : List Command) → are_tables (tables_of commands) ≡ true
all_tables [] = refl
all_tables (command ∷ commands) = all_tables commands

pub file_read : (sci : List ℕ) (commands : List Command) → AllRead commands
    → end_commands (file_of sci commands) ≡ Ok commands
file_read sci commands all = rw (all_tables commands) (all_read commands all 1)

-- and it is for the end that it was written for
pub end_read : (sci : List ℕ) (commands : List Command) → IsSci sci → end_in (file_of sci commands) ≡ Ok (Some sci)
end_read sci commands is = rw (octets_read 8 sci (encode_lower sci) is refl) refl

-- ---- one command more

taken_more : (commands : List Command) (i : ℕ) (command : Command) → i < length commands
    → command ≡ get_or commands i command
    → take (i + 1) commands ≡ take i commands ++ command ∷ []
taken_more commands i command within same =
    take_more commands i command within ∙ ap (λ (x : Command). take i commands ++ x ∷ []) (sym same)

pub read_more : (commands : List Command) (i : ℕ) (command : Command) → i < length commands
    → command ≡ get_or commands i command
    → AllRead (take i commands) → ((at : ℕ) → table_command at (table_of command) ≡ Ok command)
    → AllRead (take (i + 1) commands)
read_more commands i command within same all read =
    subst (λ (l : List Command). AllRead l) (sym (taken_more commands i command within same))
    (one_more (take i commands) command all read)

pub tables_more : (commands : List Command) (i : ℕ) (command : Command) → i < length commands
    → command ≡ get_or commands i command
    → (values new : List Value) (value : Value) (entry : Members) → items_view values ≡ tables_of (take i commands)
    → new ≡ values ++ value ∷ [] → view value ≡ table entry → entry ≡ table_of command
    → items_view new ≡ tables_of (take (i + 1) commands)
tables_more commands i command within same values new value entry so_far after seen named =
    ap items_view after ∙ items_view-push values value ∙ ap (push_item (items_view values)) (seen ∙ ap table named)
    ∙ ap (λ (x : Items). push_item x (table (table_of command))) so_far
    ∙ sym (tables_pushed (take i commands) command)
    ∙ ap (λ (l : List Command). tables_of l) (sym (taken_more commands i command within same))

-- ---- the whole file

-- the table of a file, whose commands are seen so
pub file_seen : {T E : Type 0} (viewed : T → Members) (file : Result T E) (sci : List ℕ) (commands seen : Data)
    → commands ≡ seen
    → IfOk file (λ t. viewed t ≡ member (codes "command") commands (member (codes "sci") (digits sci) no_members))
    → IfOk file (λ t. viewed t ≡ member (codes "command") seen (member (codes "sci") (digits sci) no_members))
file_seen viewed (Ok written) sci commands seen same is =
    is ∙ ap (λ (d : Data). member (codes "command") d (member (codes "sci") (digits sci) no_members)) same
file_seen viewed (Err error) sci commands seen same is = tt

-- what is written of these commands says them
pub says : {E : Type 0} (written : Result (String Global) E) (sci : List ℕ) (commands : List Command)
    → IfOk written (λ text. IsTextOf (file_of sci commands) (string_bytes text))
    → end_commands (file_of sci commands) ≡ Ok commands → end_in (file_of sci commands) ≡ Ok (Some sci)
    → IfOk written (λ text. SaysCommands sci commands (string_bytes text))
says (Ok text) sci commands is read end = record { written = is.0; read = is.1; taken = read; end = end }
says (Err error) sci commands is read end = tt
