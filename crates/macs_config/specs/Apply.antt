-- How a command changes the configuration, and why one is refused.
use Rattle.std.specs.Prelude.{◌<◌, ◌⊎◌, ◌^◌, ℕ, if◌then◌else◌, ◌==◌, nat_le, Bool, false, not, ◌&&◌, ◌||◌, List, []}
use Rattle.std.specs.Prelude.{◌∷◌, ◌++◌, length, Option, Some, None, is_none, is_some, Result, Ok, Err}
use Rattle.std.specs.List.{filter}
use Rattle.std.specs.Str.{bytes_eq}
use Rattle.macs_aes.specs.Keys.{octets_of_key}
use Rattle.macs_fields.specs.Fields.{IsAn, IsOctets, IsSci}
use Rattle.macs_fields.specs.First.{first}
use Rattle.macs_fields.specs.declared.fields.Offset.{Offset}
use Rattle.macs_fields.specs.declared.fields.Offset.TheVariants.{Zero, Thirty, Fifty}
use Rattle.macs_config.specs.Association.{is_end_station, protection_of}
use Rattle.macs_config.specs.Config.{Edition, Config, has_channel, is_spent, max_spent, put_among, rx_fingerprint}
use Rattle.macs_config.specs.Config.{takes_key, tx_fingerprint}
use Rattle.macs_config.specs.Identity.{Identity, is_port_one}
use Rattle.macs_config.specs.Tables.{put, put_at}
use Rattle.macs_config.specs.declared.command.Command.{Command}
use Rattle.macs_config.specs.declared.command.Command.TheVariants.{SetValidate, SetReplay, SetSciMode, TxInstall, TxUse}
use Rattle.macs_config.specs.declared.command.Command.TheVariants.{TxRemove, RxAdd, RxDrop, RxInstall, RxRemove}
use Rattle.macs_config.specs.declared.command.Role.{Role}
use Rattle.macs_config.specs.declared.command.Role.TheVariants.{Transmit, Receive}
use Rattle.macs_config.specs.declared.refusal.Refusal.{Refusal}
use Rattle.macs_config.specs.declared.refusal.Refusal.TheVariants.{StartRange, OffsetChoice, OwnSci, EndStationSci}
use Rattle.macs_config.specs.declared.refusal.Refusal.TheVariants.{NoChannel, ChannelTaken, ChannelsFull, SlotTaken}
use Rattle.macs_config.specs.declared.refusal.Refusal.TheVariants.{SlotEmpty, InUse, KeySpent, SpentFull}

-- ---- ranges

-- a key has 16 octets, or 32
abbrev pub IsKey : List ℕ → Type 0
IsKey key = IsOctets 16 key ⊎ IsOctets 32 key

-- the fields of a command are in the ranges of their types
abbrev pub IsCommand : Command → Type 0
IsCommand (SetValidate validate) = Unit {0}
IsCommand (SetReplay on window) = window < 2 ^ 32
IsCommand (SetSciMode mode) = Unit {0}
IsCommand (TxInstall an key start confidential offset) =
    IsAn an × IsKey (octets_of_key key) × (start < 2 ^ 32) × (offset < 2 ^ 8)
IsCommand (TxUse an) = IsAn an
IsCommand (TxRemove an) = IsAn an
IsCommand (RxAdd sci) = IsSci sci
IsCommand (RxDrop sci) = IsSci sci
IsCommand (RxInstall sci an key start offset) =
    IsSci sci × IsAn an × IsKey (octets_of_key key) × (start < 2 ^ 32) × (offset < 2 ^ 8)
IsCommand (RxRemove sci an) = IsSci sci × IsAn an

-- ---- why a command is refused

-- one of this program's refusals, or the one that an edition without long keys had in addition: the key is too long for
-- it
pub data Reason : Type 0 where
  Named : Refusal → Reason
  LongKey : Reason

-- ---- the tests of the refusals, each on every command

-- the first packet number of a new association is 0, which is invalid
abbrev pub has_wrong_start : Command → Bool
has_wrong_start (TxInstall an key start confidential offset) = start == 0
has_wrong_start (RxInstall sci an key start offset) = start == 0
has_wrong_start command = false

-- the confidentiality offset for this many octets
abbrev pub offset_at : ℕ → Option Offset
offset_at octets =
    if octets == 0 then Some Zero else if octets == 30 then Some Thirty else if octets == 50 then Some Fifty else None

-- the offset of an install is not 0, 30 or 50 octets, or is not 0 without confidentiality
abbrev pub has_wrong_offset : Command → Bool
has_wrong_offset (TxInstall an key start confidential offset) =
    is_none (offset_at offset) || (not confidential && not (offset == 0))
has_wrong_offset (RxInstall sci an key start offset) = is_none (offset_at offset)
has_wrong_offset command = false

-- a new receive channel has the endpoint's own SCI
abbrev pub is_own_sci : Identity → Command → Bool
is_own_sci identity (RxAdd sci) = bytes_eq sci identity.sci
is_own_sci identity command = false

-- ES would be set, and the port of the endpoint's SCI is not 00-01 (IEEE Std 802.1AE-2018, 9.5)
abbrev pub is_wrong_end_station : Identity → Command → Bool
is_wrong_end_station identity (SetSciMode mode) = is_end_station mode && not (is_port_one identity.sci)
is_wrong_end_station identity command = false

-- the receive channel of the command does not exist
abbrev pub has_no_channel : Config → Command → Bool
has_no_channel c (RxDrop sci) = not (has_channel c sci)
has_no_channel c (RxInstall sci an key start offset) = not (has_channel c sci)
has_no_channel c (RxRemove sci an) = not (has_channel c sci)
has_no_channel c command = false

-- the receive channel to be added exists
abbrev pub is_channel_taken : Config → Command → Bool
is_channel_taken c (RxAdd sci) = has_channel c sci
is_channel_taken c command = false

-- a receive channel is to be added, and the edition's maximum number exists
abbrev pub are_channels_full : Edition → Config → Command → Bool
are_channels_full edition c (RxAdd sci) = nat_le edition.channels (length c.channels)
are_channels_full edition c command = false

-- there is an association at the AN of an install
abbrev pub is_slot_taken : Config → Command → Bool
is_slot_taken c (TxInstall an key start confidential offset) = is_some (c.tx an)
is_slot_taken c (RxInstall sci an key start offset) = is_some (c.rx sci an)
is_slot_taken c command = false

-- there is no association at the AN to be used or removed
abbrev pub is_slot_empty : Config → Command → Bool
is_slot_empty c (TxUse an) = is_none (c.tx an)
is_slot_empty c (TxRemove an) = is_none (c.tx an)
is_slot_empty c (RxRemove sci an) = is_none (c.rx sci an)
is_slot_empty c command = false

-- frames are sent under the association at this AN
abbrev pub is_encoding : Option ℕ → ℕ → Bool
is_encoding None an = false
is_encoding (Some encoding) an = encoding == an

-- the encoding association would be removed
abbrev pub is_in_use : Config → Command → Bool
is_in_use c (TxRemove an) = is_encoding c.encoding an
is_in_use c command = false

-- the fingerprint of an install's key is among the spent ones of its side
abbrev pub is_key_spent : Config → Command → Bool
is_key_spent c (TxInstall an key start confidential offset) = is_spent c.spent_tx (tx_fingerprint (octets_of_key key))
is_key_spent c (RxInstall sci an key start offset) = is_spent c.spent_rx (rx_fingerprint sci (octets_of_key key))
is_key_spent c command = false

-- the maximum number of keys is spent on the side of an install
abbrev pub are_spent_full : Config → Command → Bool
are_spent_full c (TxInstall an key start confidential offset) = nat_le max_spent (length c.spent_tx)
are_spent_full c (RxInstall sci an key start offset) = nat_le max_spent (length c.spent_rx)
are_spent_full c command = false

-- the edition does not accept the key of an install
abbrev pub is_long_key : Edition → Command → Bool
is_long_key edition (TxInstall an key start confidential offset) = not (takes_key edition (octets_of_key key))
is_long_key edition (RxInstall sci an key start offset) = not (takes_key edition (octets_of_key key))
is_long_key edition command = false

-- every reason with its test, in the order in which they are checked
abbrev pub refusals : Edition → Identity → Config → Command → List (Reason × Bool)
refusals edition identity c command =
    (Named StartRange, has_wrong_start command)
    ∷ (Named OffsetChoice, has_wrong_offset command)
    ∷ (Named OwnSci, is_own_sci identity command)
    ∷ (Named EndStationSci, is_wrong_end_station identity command)
    ∷ (Named NoChannel, has_no_channel c command)
    ∷ (Named ChannelTaken, is_channel_taken c command)
    ∷ (Named ChannelsFull, are_channels_full edition c command)
    ∷ (Named SlotTaken, is_slot_taken c command)
    ∷ (Named SlotEmpty, is_slot_empty c command)
    ∷ (Named InUse, is_in_use c command)
    ∷ (Named KeySpent, is_key_spent c command)
    ∷ (Named SpentFull, are_spent_full c command)
    ∷ (LongKey, is_long_key edition command)
    ∷ []

-- the first reason to refuse a command, if any
abbrev pub refusal_of : Edition → Identity → Config → Command → Option Reason
refusal_of edition identity c command = first (refusals edition identity c command)

-- ---- effects

-- the offset, or Zero if there is none: then the command is refused
abbrev pub offset_or_zero : Option Offset → Offset
offset_or_zero None = Zero
offset_or_zero (Some offset) = offset

-- the configuration after a command that is not refused
abbrev pub config_after : Config → Command → Config
config_after c (SetValidate validate) = record c { validate = validate }
config_after c (SetReplay on window) = record c { replay = record { on = on; window = window } }
config_after c (SetSciMode mode) = record c { mode = mode }
config_after c (TxInstall an key start confidential offset) = record c {
  tx = put c.tx an (Some (record {
    key = octets_of_key key;
    protection =
        protection_of confidential (offset_or_zero (offset_at offset));
  }));
  spent_tx = c.spent_tx ++ tx_fingerprint (octets_of_key key) ∷ [];
}
config_after c (TxUse an) = record c { encoding = Some an }
config_after c (TxRemove an) = record c { tx = put c.tx an None }
config_after c (RxAdd sci) = record c { channels = put_among sci c.channels }
config_after c (RxDrop sci) = record c {
  channels = filter (λ other. not (bytes_eq other sci)) c.channels;
  rx = put_at c.rx sci (λ an. None);
}
config_after c (RxInstall sci an key start offset) = record c {
  rx = put_at c.rx sci
      (put (c.rx sci) an (Some (record { key = octets_of_key key; offset = offset_or_zero (offset_at offset) })));
  spent_rx = c.spent_rx ++ rx_fingerprint sci (octets_of_key key) ∷ [];
}
config_after c (RxRemove sci an) = record c { rx = put_at c.rx sci (put (c.rx sci) an None) }

-- the reason, or the answer if there is none
abbrev pub answer_or_refusal : {X : Type 0} → Option Reason → X → Result X Reason
answer_or_refusal None answer = Ok answer
answer_or_refusal (Some reason) answer = Err reason

-- this program's answer, with its refusal as a reason
abbrev pub with_reason : {X : Type 0} → Result X Refusal → Result X Reason
with_reason (Ok answer) = Ok answer
with_reason (Err refusal) = Err (Named refusal)

-- the reason for a refusal, if there is one
abbrev pub reason_named : Option Refusal → Option Reason
reason_named None = None
reason_named (Some refusal) = Some (Named refusal)

-- the configuration after a command, or the first reason to refuse it
abbrev pub apply : Edition → Identity → Config → Command → Result Config Reason
apply edition identity c command = answer_or_refusal (refusal_of edition identity c command) (config_after c command)

-- the fingerprint that a command spends, if it installs
abbrev pub fingerprint_of : Command → Option (List ℕ)
fingerprint_of (TxInstall an key start confidential offset) = Some (tx_fingerprint (octets_of_key key))
fingerprint_of (RxInstall sci an key start offset) = Some (rx_fingerprint sci (octets_of_key key))
fingerprint_of command = None

-- the fingerprint that a command spends on a side, if it installs a key there
abbrev pub spent_by : Role → Command → List (List ℕ)
spent_by Transmit (TxInstall an key start confidential offset) = tx_fingerprint (octets_of_key key) ∷ []
spent_by Receive (RxInstall sci an key start offset) = rx_fingerprint sci (octets_of_key key) ∷ []
spent_by role command = []
