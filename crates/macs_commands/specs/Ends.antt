-- Command files that may name the end of a link for which they are meant.
use Rattle.std.specs.Prelude.{◌≡◌, ◌-◌, ℕ, codes, List, Option, Some, None, Result, Ok, Err}
use Rattle.toml.specs.Data.{Members, get_member}
use Rattle.macs_config.specs.declared.command.Command.{Command}
use Rattle.macs_commands.specs.CommandFiles.{commands_among}
use Rattle.macs_commands.specs.Tables.{count}
use Rattle.macs_commands.specs.Tables.{sci_in}
use Rattle.macs_commands.specs.declared.files.ends.CommandFileFault.{CommandFileFault}
use Rattle.macs_commands.specs.declared.files.ends.CommandFileFault.TheVariants as file
use Rattle.macs_commands.specs.declared.files.config_fault.ConfigFault.{ConfigFault}

-- ---- the end

-- the end whose SCI is at the key `sci`, or a fault if that is not an SCI
abbrev pub named : Option (List ℕ) → Result (Option (List ℕ)) CommandFileFault
named (Some sci) = Ok (Some sci)
named None = Err file.Sci

-- the SCI of the end that a file is for; without the key `sci` it is for any end
abbrev pub end_in : Members → Result (Option (List ℕ)) CommandFileFault
end_in members = elim (get_member (codes "sci") members) [
  | None ↦ Ok None
  | Some value ↦ named (sci_in members)
]

-- ---- the commands

-- how many keys a file has besides `sci`
abbrev pub keys_beside : Members → ℕ
keys_beside members = elim (get_member (codes "sci") members) [
  | None ↦ count members
  | Some value ↦ count members - 1
]

-- the commands of a whole file: its only other key besides `sci` is `command`, and without that there are none
abbrev pub end_commands : Members → Result (List Command) ConfigFault
end_commands members = commands_among (keys_beside members) members

-- ---- faults

-- the first fault of a file is this one: that of its end comes before those of its commands
abbrev pub HasFileFault : Members → CommandFileFault → Type 0
HasFileFault members file.Sci = end_in members ≡ Err file.Sci
HasFileFault members (file.Commands cause) =
    (end : Option (List ℕ)) × (end_in members ≡ Ok end) × (end_commands members ≡ Err cause)
