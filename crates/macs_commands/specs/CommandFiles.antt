-- The commands of a whole command file, or its first fault.
use Rattle.std.specs.Prelude.{◌+◌, ◌==◌, ℕ, codes, if◌then◌else◌, List, [], ◌∷◌, Option, Some}
use Rattle.std.specs.Prelude.{None, Result, Ok, Err}
use Rattle.toml.specs.Data.{Data, Items, Members, array, get_member, item, no_items, table}
use Rattle.macs_config.specs.declared.command.Command.{Command}
use Rattle.macs_commands.specs.Lines.{command_of, key_beside, keys_of, word_in}
use Rattle.macs_commands.specs.Tables.{are_tables, count}
use Rattle.macs_commands.specs.declared.files.config_fault.ConfigFault.{ConfigFault}
use Rattle.macs_commands.specs.declared.files.config_fault.ConfigFault.TheVariants as fault
use Rattle.macs_commands.specs.declared.files.config_fault.KeyName.{KeyName}

-- ---- one table

-- the contents of table `at`: a wrong key is reported before one that its command does not have
abbrev pub told : (at : ℕ) (extra : Option (List ℕ)) → Result Command KeyName → Result Command ConfigFault
told at extra (Err name) = Err (fault.Key at name)
told at (Some key) (Ok command) = Err (fault.Extra at)
told at None (Ok command) = Ok command

-- the command of table `at`, counting from 1
abbrev pub table_command : ℕ → Members → Result Command ConfigFault
table_command at members = elim (word_in members) [
  | None ↦ Err (fault.Word at)
  | Some word ↦ told at (key_beside (keys_of word) members) (command_of word members)
]

-- ---- all tables

-- a command, and those after it
abbrev pub before : Result Command ConfigFault → Result (List Command) ConfigFault → Result (List Command) ConfigFault
before (Err fault) rest = Err fault
before (Ok command) (Err fault) = Err fault
before (Ok command) (Ok commands) = Ok (command ∷ commands)

-- the commands of these tables, the first of which is number `at`
abbrev pub table_commands : ℕ → Items → Result (List Command) ConfigFault
table_commands at no_items = Ok []
table_commands at (item (table members) items) = before (table_command at members) (table_commands (at + 1) items)
table_commands at (item other items) = Err fault.Shape

-- the commands of an array of tables
abbrev pub array_commands : Data → Result (List Command) ConfigFault
array_commands (array items) = if are_tables items then table_commands 1 items else Err fault.Shape
array_commands other = Err fault.Shape

-- the commands of a file with this many keys for them: only `command` is allowed, and without it there are none
abbrev pub commands_among : ℕ → Members → Result (List Command) ConfigFault
commands_among keys members = elim (get_member (codes "command") members) [
  | None ↦ if keys == 0 then Ok [] else Err fault.Shape
  | Some value ↦ if keys == 1 then array_commands value else Err fault.Shape
]

-- the commands of a whole file: its only key is `command`, and without it there are none
abbrev pub file_commands : Members → Result (List Command) ConfigFault
file_commands members = commands_among (count members) members
