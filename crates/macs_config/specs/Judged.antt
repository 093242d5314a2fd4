-- The verdict of a command's check, and the command that was checked.
use Rattle.std.proofs.Common.{◌≡◌, ap, refl, ℕ, Bool, true, false, if◌then◌else◌, ◌==◌, List, [], ◌∷◌, ◌++◌, length}
use Rattle.std.proofs.Common.{Option, Some, None, not, bytes_eq}
use Rattle.std.specs.List.{filter}
use Rattle.macs_aes.specs.Keys.{key_of_octets, octets_of_key}
use Rattle.macs_aes.specs.declared.keys.Key.TheVariants.{Long, Short}
use Rattle.macs_fields.specs.Fields.{octets_of}
use Rattle.macs_fields.specs.declared.fields.Offset.{Offset}
use Rattle.macs_fields.specs.declared.fields.Offset.TheVariants.{Zero, Thirty, Fifty}
use Rattle.macs_config.specs.Apply.{fingerprint_of, has_wrong_offset, has_wrong_start, offset_at, offset_or_zero}
use Rattle.macs_config.specs.Association.{is_confidential, offset_of, protection_of}
use Rattle.macs_config.specs.Config.{Config, put_among, rx_fingerprint, tx_fingerprint}
use Rattle.macs_config.specs.Tables.{put, put_at}
use Rattle.macs_config.specs.declared.association.Protection.{Protection}
use Rattle.macs_config.specs.declared.association.Protection.TheVariants.{Integrity, Confidentiality}
use Rattle.macs_config.specs.declared.association.RxSa.{RxSa}
use Rattle.macs_config.specs.declared.association.TxSa.{TxSa}
use Rattle.macs_config.specs.declared.checked.Judged.{Judged}
use Rattle.macs_config.specs.declared.checked.Judged.TheVariants as judged
use Rattle.macs_config.specs.declared.command.Command.{Command}
use Rattle.macs_config.specs.declared.command.Command.TheVariants.{SetValidate, SetReplay, SetSciMode, TxInstall, TxUse}
use Rattle.macs_config.specs.declared.command.Command.TheVariants.{TxRemove, RxAdd, RxDrop, RxInstall, RxRemove}

-- the command that installs a transmit association, with its first packet number
abbrev pub tx_install : ℕ → TxSa → ℕ → Command
tx_install an sa start =
    TxInstall an (key_of_octets sa.key) start (is_confidential sa.protection) (octets_of (offset_of sa.protection))

-- the command that installs a receive association of a channel, with its first packet number
abbrev pub rx_install : List ℕ → ℕ → RxSa → ℕ → Command
rx_install sci an sa start = RxInstall sci an (key_of_octets sa.key) start (octets_of sa.offset)

-- the command
abbrev pub asked_by : Judged → Command
asked_by (judged.SetValidate validate) = SetValidate validate
asked_by (judged.SetReplay on window) = SetReplay on window
asked_by (judged.SetSciMode mode) = SetSciMode mode
asked_by (judged.TxInstall an sa start fingerprint) = tx_install an sa start
asked_by (judged.TxUse an) = TxUse an
asked_by (judged.TxRemove an) = TxRemove an
asked_by (judged.RxAdd sci) = RxAdd sci
asked_by (judged.RxDrop sci) = RxDrop sci
asked_by (judged.RxInstall sci an sa start fingerprint) = rx_install sci an sa start
asked_by (judged.RxRemove sci an) = RxRemove sci an

-- the fingerprint that is stored for it, if it installs a key
abbrev pub fingerprint_in : Judged → Option (List ℕ)
fingerprint_in (judged.TxInstall an sa start fingerprint) = Some fingerprint
fingerprint_in (judged.RxInstall sci an sa start fingerprint) = Some fingerprint
fingerprint_in other = None

-- Its fingerprint is the one that the command spends; the command has a valid start and offset.
abbrev pub IsJudged : Judged → Type 0
IsJudged j = (fingerprint_in j ≡ fingerprint_of (asked_by j)) × (has_wrong_start (asked_by j) ≡ false)
    × (has_wrong_offset (asked_by j) ≡ false)

-- ---- effects

-- the configuration after a command that is not refused, from its verdict
abbrev pub config_changed : Config → Judged → Config
config_changed c (judged.SetValidate validate) = record c { validate = validate }
config_changed c (judged.SetReplay on window) = record c { replay = record { on = on; window = window } }
config_changed c (judged.SetSciMode mode) = record c { mode = mode }
config_changed c (judged.TxInstall an sa start fingerprint) = record c {
  tx = put c.tx an (Some sa);
  spent_tx = c.spent_tx ++ fingerprint ∷ [];
}
config_changed c (judged.TxUse an) = record c { encoding = Some an }
config_changed c (judged.TxRemove an) = record c { tx = put c.tx an None }
config_changed c (judged.RxAdd sci) = record c { channels = put_among sci c.channels }
config_changed c (judged.RxDrop sci) = record c {
  channels = filter (λ other. not (bytes_eq other sci)) c.channels;
  rx = put_at c.rx sci (λ an. None);
}
config_changed c (judged.RxInstall sci an sa start fingerprint) = record c {
  rx = put_at c.rx sci (put (c.rx sci) an (Some sa));
  spent_rx = c.spent_rx ++ fingerprint ∷ [];
}
config_changed c (judged.RxRemove sci an) = record c { rx = put_at c.rx sci (put (c.rx sci) an None) }

-- ---- and conversely

-- the verdict on a command that is not refused
abbrev pub judged_of : Command → Judged
judged_of (SetValidate validate) = judged.SetValidate validate
judged_of (SetReplay on window) = judged.SetReplay on window
judged_of (SetSciMode mode) = judged.SetSciMode mode
judged_of (TxInstall an key start confidential offset) =
    judged.TxInstall an (record {
      key = octets_of_key key;
      protection =
          protection_of confidential (offset_or_zero (offset_at offset));
    }) start
    (tx_fingerprint (octets_of_key key))
judged_of (TxUse an) = judged.TxUse an
judged_of (TxRemove an) = judged.TxRemove an
judged_of (RxAdd sci) = judged.RxAdd sci
judged_of (RxDrop sci) = judged.RxDrop sci
judged_of (RxInstall sci an key start offset) =
    judged.RxInstall sci an (record { key = octets_of_key key; offset = offset_or_zero (offset_at offset) }) start
    (rx_fingerprint sci (octets_of_key key))
judged_of (RxRemove sci an) = judged.RxRemove sci an

octets-by : (octets : List ℕ) (short : Bool) → octets_of_key (if short then Short octets else Long octets) ≡ octets
octets-by octets true = refl
octets-by octets false = refl

-- the octets of a key are recovered from it
pub octets-back : (octets : List ℕ) → octets_of_key (key_of_octets octets) ≡ octets
octets-back octets = octets-by octets (length octets == 16)

choice-back : (offset : Offset) → offset_or_zero (offset_at (octets_of offset)) ≡ offset
choice-back Zero = refl
choice-back Thirty = refl
choice-back Fifty = refl

protection-back : (p : Protection)
    → protection_of (is_confidential p) (offset_or_zero (offset_at (octets_of (offset_of p)))) ≡ p
protection-back Integrity = refl
protection-back (Confidentiality offset) = ap (λ (o : Offset). Confidentiality o) (choice-back offset)

some-alike : (fingerprint spent : List ℕ) → Some fingerprint ≡ Some spent → spent ≡ fingerprint
some-alike fingerprint spent is = cc

-- a verdict is determined by its command
pub judged_of-asked_by : (j : Judged) → IsJudged j → judged_of (asked_by j) ≡ j
judged_of-asked_by (judged.SetValidate validate) is = refl
judged_of-asked_by (judged.SetReplay on window) is = refl
judged_of-asked_by (judged.SetSciMode mode) is = refl
judged_of-asked_by (judged.TxInstall an sa start fingerprint) is =
    let key = octets-back sa.key in
    let protection = protection-back sa.protection in
    let spends = some-alike fingerprint (tx_fingerprint (octets_of_key (key_of_octets sa.key))) is.0 in
    λ i. judged.TxInstall an (record { key = key i; protection = protection i }) start (spends i)
judged_of-asked_by (judged.TxUse an) is = refl
judged_of-asked_by (judged.TxRemove an) is = refl
judged_of-asked_by (judged.RxAdd sci) is = refl
judged_of-asked_by (judged.RxDrop sci) is = refl
judged_of-asked_by (judged.RxInstall sci an sa start fingerprint) is =
    let key = octets-back sa.key in
    let offset = choice-back sa.offset in
    let spends = some-alike fingerprint (rx_fingerprint sci (octets_of_key (key_of_octets sa.key))) is.0 in
    λ i. judged.RxInstall sci an (record { key = key i; offset = offset i }) start (spends i)
judged_of-asked_by (judged.RxRemove sci an) is = refl
