-- Commands as records.
use Rattle.std.specs.Prelude.{◌||◌, if◌then◌else◌, Option, Some, None}
use Rattle.macs_aes.specs.Keys.{octets_of_key}
use Rattle.macs_config.specs.Apply.{offset_or_zero, offset_at, has_wrong_offset, has_wrong_start}
use Rattle.macs_config.specs.Association.{protection_of}
use Rattle.macs_config.specs.declared.checked.Judged.{Judged}
use Rattle.macs_config.specs.declared.checked.Judged.TheVariants as judged
use Rattle.macs_config.specs.declared.command.Command.{Command}
use Rattle.macs_config.specs.declared.command.Command.TheVariants as command
use Rattle.macs_record.specs.declared.record.Record.{Record}
use Rattle.macs_record.specs.declared.record.Record.TheVariants.{SetValidate, SetReplay, SetSciMode, TxInstall, TxUse}
use Rattle.macs_record.specs.declared.record.Record.TheVariants.{TxRemove, RxAdd, RxDrop, RxInstall, RxRemove}

-- the record of a command whose start and offset are valid
abbrev pub record_of_accepted : Command → Record
record_of_accepted (command.SetValidate validate) = SetValidate validate
record_of_accepted (command.SetReplay on window) = SetReplay (record { on = on; window = window })
record_of_accepted (command.SetSciMode mode) = SetSciMode mode
record_of_accepted (command.TxInstall an key start confidential offset) =
    TxInstall an (record {
      key = octets_of_key key;
      protection =
          protection_of confidential (offset_or_zero (offset_at offset));
    }) start
record_of_accepted (command.TxUse an) = TxUse an
record_of_accepted (command.TxRemove an) = TxRemove an
record_of_accepted (command.RxAdd sci) = RxAdd sci
record_of_accepted (command.RxDrop sci) = RxDrop sci
record_of_accepted (command.RxInstall sci an key start offset) =
    RxInstall sci an (record { key = octets_of_key key; offset = offset_or_zero (offset_at offset) }) start
record_of_accepted (command.RxRemove sci an) = RxRemove sci an

-- a command has a record unless its start is 0 or its offset is invalid
abbrev pub record_of : Command → Option Record
record_of asked = if has_wrong_start asked || has_wrong_offset asked then None else Some (record_of_accepted asked)

-- the record of a command, from the verdict of its check
abbrev pub record_judged : Judged → Record
record_judged (judged.SetValidate validate) = SetValidate validate
record_judged (judged.SetReplay on window) = SetReplay (record { on = on; window = window })
record_judged (judged.SetSciMode mode) = SetSciMode mode
record_judged (judged.TxInstall an sa start fingerprint) = TxInstall an sa start
record_judged (judged.TxUse an) = TxUse an
record_judged (judged.TxRemove an) = TxRemove an
record_judged (judged.RxAdd sci) = RxAdd sci
record_judged (judged.RxDrop sci) = RxDrop sci
record_judged (judged.RxInstall sci an sa start fingerprint) = RxInstall sci an sa start
record_judged (judged.RxRemove sci an) = RxRemove sci an
