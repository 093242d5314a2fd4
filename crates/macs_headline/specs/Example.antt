-- The setting of an example history: an endpoint, its peer, the commands, and the standings.
use Rattle.std.specs.Prelude.{◌∷◌, ℕ, true, false, List, [], replicate, fold, Some}
use Rattle.macs_frame.specs.Protection.{protected_frame}
use Rattle.macs_fields.specs.declared.fields.Offset.TheVariants.{Zero}
use Rattle.macs_frame.specs.declared.tag.ScName.TheVariants.{Explicit}
use Rattle.macs_frame.specs.declared.tag.SecTag.{SecTag}
use Rattle.macs_aes.specs.declared.keys.Key.TheVariants.{Long, Short}
use Rattle.macs_config.specs.Config.{Edition, Config, default, this_edition}
use Rattle.macs_config.specs.Identity.{Identity}
use Rattle.macs_config.specs.Apply.{config_after}
use Rattle.macs_config.specs.declared.association.Protection.TheVariants.{Confidentiality}
use Rattle.macs_config.specs.declared.association.RxSa.{RxSa}
use Rattle.macs_config.specs.declared.association.TxSa.{TxSa}
use Rattle.macs_config.specs.declared.command.Command.{Command}
use Rattle.macs_config.specs.declared.command.Command.TheVariants.{RxAdd, RxInstall, RxRemove, SetReplay, SetValidate}
use Rattle.macs_config.specs.declared.command.Command.TheVariants.{TxInstall, TxUse}
use Rattle.macs_config.specs.declared.command.Validate.TheVariants.{Check, Strict}
use Rattle.macs_store.specs.Standing.{Standing, ceilings_with_rx, ceilings_with_tx, no_ceilings}

-- how many sectors the disk has
abbrev pub example_sectors : ℕ
example_sectors = 1028

-- an edition that accepts more
abbrev pub later_edition : Edition
later_edition = record { channels = 64; long_keys = true; format_two = true }

-- 02-00-00-00-00-01, port 00-01
abbrev pub own_sci : List ℕ
own_sci = 2 ∷ 0 ∷ 0 ∷ 0 ∷ 0 ∷ 1 ∷ 0 ∷ 1 ∷ []

-- 02-00-00-00-00-07, port 00-01
abbrev pub peer_sci : List ℕ
peer_sci = 2 ∷ 0 ∷ 0 ∷ 0 ∷ 0 ∷ 7 ∷ 0 ∷ 1 ∷ []

-- numbers are reserved four at a time
abbrev pub example_identity : Identity
example_identity = record { sci = own_sci; tx_block = 4; rx_block = 4 }

-- the key for transmitted frames, of 128 bits
abbrev pub own_key : List ℕ
own_key = replicate 16 1

-- the key for the peer's frames, of 256 bits
abbrev pub peer_key : List ℕ
peer_key = replicate 32 2

-- ---- frames

-- the shortest plain frame
abbrev pub example_plain : List ℕ
example_plain = replicate 14 0

-- the transmit association, with confidentiality
abbrev pub own_sa : TxSa
own_sa = record { key = own_key; protection = Confidentiality Zero }

-- the receive association
abbrev pub peer_sa : RxSa
peer_sa = record { key = peer_key; offset = Zero }

-- the SecTAG of the endpoint's frames
abbrev pub own_tag : ℕ → SecTag
own_tag pn = record { an = 0; pn = pn; name = Explicit own_sci; encrypted = true; changed = true }

-- the SecTAG of the peer's frames, which have integrity only
abbrev pub peer_tag : ℕ → SecTag
peer_tag pn = record { an = 0; pn = pn; name = Explicit peer_sci; encrypted = false; changed = false }

-- the frame that the endpoint writes with this packet number
abbrev pub own_frame : ℕ → List ℕ
own_frame pn = protected_frame own_key own_sci (own_tag pn) 0 example_plain

-- the frame that the peer sends with this packet number
abbrev pub peer_frame : ℕ → List ℕ
peer_frame pn = protected_frame peer_key peer_sci (peer_tag pn) 0 example_plain

-- ---- commands

-- the transmit association, from packet number 1 on
abbrev pub install_own : Command
install_own = TxInstall 0 (Short own_key) 1 true 0

-- frames are sent under it
abbrev pub use_own : Command
use_own = TxUse 0

-- the peer's channel
abbrev pub add_peer : Command
add_peer = RxAdd peer_sci

-- its association, from packet number 1 on
abbrev pub install_peer : Command
install_peer = RxInstall peer_sci 0 (Long peer_key) 1 0

-- which is removed again
abbrev pub remove_peer : Command
remove_peer = RxRemove peer_sci 0

-- a replay window of one number
abbrev pub narrow : Command
narrow = SetReplay true 1

-- a wider one
abbrev pub widen : Command
widen = SetReplay true 3

-- no replay protection
abbrev pub unguard : Command
unguard = SetReplay false 3

-- and again, with the previous window
abbrev pub guard : Command
guard = SetReplay true 3

-- each of the two installed keys, once more, for an association with another number: the own key for association 1
abbrev pub install_own_again : Command
install_own_again = TxInstall 1 (Short own_key) 1 true 0

-- the peer's key for association 1
abbrev pub install_peer_again : Command
install_peer_again = RxInstall peer_sci 1 (Long peer_key) 1 0

-- validation unchanged
abbrev pub stay_strict : Command
stay_strict = SetValidate Strict

-- another mode of validation
abbrev pub check_only : Command
check_only = SetValidate Check

-- ---- the standings

-- the configuration after the first life, including the interrupted command
abbrev pub served_config : Config
served_config = fold config_after default (install_own ∷ use_own ∷ add_peer ∷ install_peer ∷ narrow ∷ widen ∷ [])

-- the standing when the second life ends, in a program of this edition
abbrev pub full_standing : Standing
full_standing = record {
  edition = this_edition;
  identity = example_identity;
  config = served_config;
  ceilings = ceilings_with_rx (ceilings_with_tx no_ceilings 0 (Some 13)) peer_sci 0 (Some 9);
}

-- the standing when the third life ends, to an edition
abbrev pub last_standing : Edition → Standing
last_standing edition = record {
  edition = edition;
  identity = example_identity;
  config = config_after served_config remove_peer;
  ceilings = ceilings_with_tx no_ceilings 0 (Some 17);
}

-- and finally, with the command in which the program was killed
abbrev pub checked_standing : Edition → Standing
checked_standing edition =
    record (last_standing edition) { config = config_after (config_after served_config remove_peer) check_only }
