use Rattle.std.proofs.Common.{◌≡◌, ℕ, le-leb, Ok, refl, arith}
use Rattle.hex.specs.Hex.{encode_lower}
use Rattle.macs_config.specs.Apply.{IsCommand}
use Rattle.macs_config.specs.declared.command.Command.{Command}
use Rattle.macs_config.specs.declared.command.Command.TheVariants.{SetValidate, SetReplay, SetSciMode, TxInstall, TxUse}
use Rattle.macs_config.specs.declared.command.Command.TheVariants.{TxRemove, RxAdd, RxDrop, RxInstall, RxRemove}
use Rattle.macs_config.specs.declared.command.SciMode.TheVariants.{Explicit, EndStation, Implicit}
use Rattle.macs_config.specs.declared.command.Validate.TheVariants.{Strict, Check}
use Rattle.macs_commands.specs.CommandFiles.{table_command}
use Rattle.macs_commands.specs.CommandLines.{HasItsKey, key_digits}
use Rattle.macs_commands.specs.Writing.{table_of}
use Rattle.macs_commands.proofs.KeyDigits.{key_read, octets_read}
use Rattle.macs_commands.proofs.files.table_writing.is_read.Goals as goal

-- The table of a command is read as that command.
reads : (command : Command) → IsCommand command → HasItsKey command → (at : ℕ)
    → table_command at (table_of command) ≡ Ok command
reads (SetValidate Strict) is key at = refl
reads (SetValidate Check) is key at = refl
reads (SetReplay on window) is key at = rw (le-leb window 4294967295 (omega (arith, is))) refl
reads (SetSciMode Explicit) is key at = refl
reads (SetSciMode EndStation) is key at = refl
reads (SetSciMode Implicit) is key at = refl
reads (TxInstall an sak start confidential offset) is key at =
    rw (
      le-leb an 3 (omega (arith, is.0)),
      key_read sak (key_digits sak) is.1 key refl,
      le-leb start 4294967295 (omega (arith, is.2)),
      le-leb offset 255 (omega (arith, is.3)),
    ) refl
reads (TxUse an) is key at = rw (le-leb an 3 (omega (arith, is))) refl
reads (TxRemove an) is key at = rw (le-leb an 3 (omega (arith, is))) refl
reads (RxAdd sci) is key at = rw (octets_read 8 sci (encode_lower sci) is refl) refl
reads (RxDrop sci) is key at = rw (octets_read 8 sci (encode_lower sci) is refl) refl
reads (RxInstall sci an sak start offset) is key at =
    rw (
      octets_read 8 sci (encode_lower sci) is.0 refl,
      le-leb an 3 (omega (arith, is.1)),
      key_read sak (key_digits sak) is.2 key refl,
      le-leb start 4294967295 (omega (arith, is.3)),
      le-leb offset 255 (omega (arith, is.4)),
    ) refl
reads (RxRemove sci an) is key at =
    rw (octets_read 8 sci (encode_lower sci) is.0 refl, le-leb an 3 (omega (arith, is.1))) refl

pub returns : goal.returns
returns c = reads c.args.command.now c.command_in_range.ensures c.has_its_key.ensures
