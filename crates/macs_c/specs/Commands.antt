-- The commands of an operator, as a C program passes them.
use Rattle.std.specs.Prelude.{◌≡◌, ◌&&◌, ◌==◌, ℕ, if◌then◌else◌, Bool, true, false, Option, Some, None, nat_lt}
use Rattle.macs_aes.specs.Keys.{octets_of_key}
use Rattle.macs_config.specs.declared.command.Command.{Command}
use Rattle.macs_config.specs.declared.command.Command.TheVariants.{SetValidate, SetReplay, SetSciMode, TxInstall, TxUse}
use Rattle.macs_config.specs.declared.command.Command.TheVariants.{TxRemove, RxAdd, RxDrop, RxInstall, RxRemove}
use Rattle.macs_config.specs.declared.command.SciMode.{SciMode}
use Rattle.macs_config.specs.declared.command.SciMode.TheVariants.{EndStation, Explicit, Implicit}
use Rattle.macs_config.specs.declared.command.Validate.{Validate}
use Rattle.macs_config.specs.declared.command.Validate.TheVariants.{Check, Strict}
use Rattle.macs_c.specs.Keys.{is_key, key_octets}
use Rattle.macs_c.specs.declared.commands.MacsCommand.{MacsCommand}

-- ---- the choices of a command, by number

-- how received frames are validated
abbrev pub validate_number : Validate → ℕ
validate_number Strict = 0
validate_number Check = 1

-- how sent frames name their channel
abbrev pub mode_number : SciMode → ℕ
mode_number Implicit = 0
mode_number Explicit = 1
mode_number EndStation = 2

-- replay protection on; or a key that encrypts
abbrev pub flag_number : Bool → ℕ
flag_number false = 0
flag_number true = 1

-- ---- commands

-- a C program passes this command
abbrev pub IsCommandOf : MacsCommand → Command → Type 0
IsCommandOf c (SetValidate validate) = (c.kind ≡ 1) × (c.choice ≡ validate_number validate)
IsCommandOf c (SetReplay on window) = (c.kind ≡ 2) × (c.choice ≡ flag_number on) × (window ≡ c.window)
IsCommandOf c (SetSciMode mode) = (c.kind ≡ 3) × (c.choice ≡ mode_number mode)
IsCommandOf c (TxInstall an key start confidential offset) =
    (c.kind ≡ 4) × (an ≡ c.an) × (is_key c.key ≡ true) × (octets_of_key key ≡ key_octets c.key) × (start ≡ c.start)
    × (c.choice ≡ flag_number confidential) × (offset ≡ c.offset)
IsCommandOf c (TxUse an) = (c.kind ≡ 5) × (an ≡ c.an)
IsCommandOf c (TxRemove an) = (c.kind ≡ 6) × (an ≡ c.an)
IsCommandOf c (RxAdd sci) = (c.kind ≡ 7) × (sci ≡ c.sci.octets)
IsCommandOf c (RxDrop sci) = (c.kind ≡ 8) × (sci ≡ c.sci.octets)
IsCommandOf c (RxInstall sci an key start offset) =
    (c.kind ≡ 9) × (sci ≡ c.sci.octets) × (an ≡ c.an) × (is_key c.key ≡ true)
    × (octets_of_key key ≡ key_octets c.key) × (start ≡ c.start) × (offset ≡ c.offset)
IsCommandOf c (RxRemove sci an) = (c.kind ≡ 10) × (sci ≡ c.sci.octets) × (an ≡ c.an)

-- It passes a command: the kind is 1 to 10, and the fields that this kind reads are in their ranges. What else is wrong
-- with a command is a refusal.
abbrev pub has_command : MacsCommand → Bool
has_command c =
    if c.kind == 1 then nat_lt c.choice 2
    else if c.kind == 2 then nat_lt c.choice 2
    else if c.kind == 3 then nat_lt c.choice 3
    else if c.kind == 4 then nat_lt c.an 4 && is_key c.key && nat_lt c.choice 2
    else if c.kind == 5 then nat_lt c.an 4
    else if c.kind == 6 then nat_lt c.an 4
    else if c.kind == 7 then true
    else if c.kind == 8 then true
    else if c.kind == 9 then nat_lt c.an 4 && is_key c.key
    else if c.kind == 10 then nat_lt c.an 4
    else false

-- this command, or none
abbrev pub NamesCommand : MacsCommand → Option Command → Type 0
NamesCommand c (Some command) = IsCommandOf c command
NamesCommand c None = has_command c ≡ false
