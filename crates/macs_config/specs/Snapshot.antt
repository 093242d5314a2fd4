-- A configuration replayed from the parts of a snapshot of it.
use Rattle.std.specs.Prelude.{ℕ, ◌+◌, nat_le, nat_lt, Bool, true, false, not, ◌&&◌, if◌then◌else◌, List, [], ◌∷◌, ◌++◌}
use Rattle.std.specs.Prelude.{length, Option, Some, None, is_none, is_some}
use Rattle.std.specs.Option.{option_and_then, option_map, option_map_or}
use Rattle.std.specs.List.{list_all}
use Rattle.std.specs.Str.{bytes_eq}
use Rattle.macs_config.specs.Association.{is_end_station}
use Rattle.macs_config.specs.Config.{Edition, Config, are_distinct, default, has_channel, is_among, is_spent, max_spent}
use Rattle.macs_config.specs.Config.{put_among, rx_fingerprint, spent_of, takes_key, tx_fingerprint}
use Rattle.macs_config.specs.Identity.{Identity, is_port_one}
use Rattle.macs_config.specs.Tables.{put, put_at}
use Rattle.macs_config.specs.declared.command.Role.TheVariants.{Transmit, Receive}
use Rattle.macs_config.specs.declared.part.Part.{Part}
use Rattle.macs_config.specs.declared.part.Part.TheVariants.{Settings, TxSa, Channel, RxSa, Spent}

-- the settings of a newly formatted endpoint
abbrev pub default_part : Part
default_part = Settings default.validate default.replay default.mode default.encoding

-- ---- order

-- a part's rank in the order of a snapshot
abbrev pub place_of : Part → ℕ
place_of (Settings validate replay mode encoding) = 1
place_of (TxSa an sa) = 2
place_of (Channel sci) = 3
place_of (RxSa sci an sa) = 4
place_of (Spent Transmit fingerprints) = 5
place_of (Spent Receive fingerprints) = 6

-- no part's rank is lower than this one, or than that of the part before it
abbrev pub are_ordered : ℕ → List Part → Bool
are_ordered place [] = true
are_ordered place (part ∷ parts) = nat_le place (place_of part) && are_ordered (place_of part) parts

-- ---- part by part

-- none of these fingerprints is among the earlier ones, or occurs twice
abbrev pub are_new : List (List ℕ) → List (List ℕ) → Bool
are_new spent fingerprints = are_distinct fingerprints && list_all (λ item. not (is_among spent item)) fingerprints

-- A part may follow the configuration made by the parts before it: its association or channel does not exist yet; its
-- key is one that the edition accepts; its channel is not the own SCI and there is room for it, or, for an association,
-- it exists; its fingerprints are new and fit.
abbrev pub may_follow : Edition → Identity → Config → Part → Bool
may_follow edition identity c (Settings validate replay mode encoding) = false
may_follow edition identity c (TxSa an sa) = is_none (c.tx an) && takes_key edition sa.key
may_follow edition identity c (Channel sci) =
    not (bytes_eq sci identity.sci) && not (has_channel c sci) && nat_lt (length c.channels) edition.channels
may_follow edition identity c (RxSa sci an sa) = has_channel c sci && is_none (c.rx sci an) && takes_key edition sa.key
may_follow edition identity c (Spent role fingerprints) =
    are_new (spent_of role c) fingerprints && nat_le (length (spent_of role c) + length fingerprints) max_spent

-- the configuration with one more part
abbrev pub config_with_part : Config → Part → Config
config_with_part c (Settings validate replay mode encoding) =
    record c { validate = validate; replay = replay; mode = mode; encoding = encoding }
config_with_part c (TxSa an sa) = record c { tx = put c.tx an (Some sa) }
config_with_part c (Channel sci) = record c { channels = put_among sci c.channels }
config_with_part c (RxSa sci an sa) = record c { rx = put_at c.rx sci (put (c.rx sci) an (Some sa)) }
config_with_part c (Spent Transmit fingerprints) = record c { spent_tx = c.spent_tx ++ fingerprints }
config_with_part c (Spent Receive fingerprints) = record c { spent_rx = c.spent_rx ++ fingerprints }

-- the configuration with all these parts, None if one may not follow those before it
abbrev pub config_with_parts : Edition → Identity → Config → List Part → Option Config
config_with_parts edition identity c [] = Some c
config_with_parts edition identity c (part ∷ parts) =
    if may_follow edition identity c part
    then config_with_parts edition identity (config_with_part c part) parts else None

-- ---- all of it

-- each AN, ascending (IEEE Std 802.1AE-2018, 9.6)
abbrev pub every_an : List ℕ
every_an = 0 ∷ 1 ∷ 2 ∷ 3 ∷ []

-- the key of the transmit association at an AN is spent, if there is one
abbrev pub is_tx_spent : Config → ℕ → Bool
is_tx_spent c an = option_map_or (λ sa. is_spent c.spent_tx (tx_fingerprint sa.key)) (c.tx an) true

-- the key of the receive association with an SCI at an AN is spent for that SCI, if there is one
abbrev pub is_rx_spent : Config → List ℕ → ℕ → Bool
is_rx_spent c sci an = option_map_or (λ sa. is_spent c.spent_rx (rx_fingerprint sci sa.key)) (c.rx sci an) true

-- Every installed key is spent, the encoding association exists, and an end station's port is 00-01.
abbrev pub is_whole : Identity → Config → Bool
is_whole identity c =
    list_all (is_tx_spent c) every_an
    && list_all (λ sci. list_all (is_rx_spent c sci) every_an) c.channels
    && option_map_or (λ an. is_some (c.tx an)) c.encoding true
    && not (is_end_station c.mode && not (is_port_one identity.sci))

-- the configuration, if there is one and it is whole
abbrev pub whole_config : Identity → Option Config → Option Config
whole_config identity None = None
whole_config identity (Some c) = if is_whole identity c then Some c else None

-- Settings, once, and then the other parts in the snapshot's order, none of which is refused: the configuration that
-- they make, if it is whole
abbrev pub config_of_parts : Edition → Identity → List Part → Option Config
config_of_parts edition identity [] = None
config_of_parts edition identity (part ∷ parts) =
    if nat_le (place_of part) 1 && are_ordered 2 parts
    then whole_config identity (config_with_parts edition identity (config_with_part default part) parts)
    else None

-- ---- parts by position

-- the parts, if there is one at each position
abbrev pub all_parts : List (Option Part) → Option (List Part)
all_parts [] = Some []
all_parts (one ∷ others) = option_and_then (λ part. option_map (λ parts. part ∷ parts) (all_parts others)) one

-- The configuration after the parts at these positions, given that before them, the last part of which has this rank in
-- a snapshot's order: None if a position has no part, a part is out of order, or one may not follow.
abbrev pub config_with_listed : Edition → Identity → ℕ → Config → List (Option Part) → Option Config
config_with_listed edition identity place c listed =
    option_and_then (λ parts. if are_ordered place parts then config_with_parts edition identity c parts else None)
    (all_parts listed)

-- the configuration that the parts at these positions make up, None if a position has none, or the snapshot is refused
abbrev pub config_of_listed : Edition → Identity → List (Option Part) → Option Config
config_of_listed edition identity listed =
    option_and_then (λ parts. config_of_parts edition identity parts) (all_parts listed)
