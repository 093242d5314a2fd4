-- What the commands of a link meet at an end, stage by stage, and that they are accepted.
use Rattle.std.specs.Prelude.{◌≡◌, ◌≢◌, ◌<◌, ◌∷◌, ℕ, true, false, List, [], length, Some, None, Ok}
use Rattle.toml.specs.Data.{Members}
use Rattle.macs_aes.specs.Keys.{HasItsLength, octets_of_key}
use Rattle.macs_fields.specs.declared.fields.Offset.{Offset}
use Rattle.macs_config.specs.Apply.{apply}
use Rattle.macs_config.specs.Config.{Config, default, has_channel, is_spent, max_spent, rx_fingerprint, this_edition}
use Rattle.macs_config.specs.Config.{tx_fingerprint}
use Rattle.macs_config.specs.Identity.{Identity}
use Rattle.macs_config.specs.declared.association.Protection.{Protection}
use Rattle.macs_config.specs.declared.association.RxSa.{RxSa}
use Rattle.macs_config.specs.declared.association.TxSa.{TxSa}
use Rattle.macs_config.specs.declared.command.Command.{Command}
use Rattle.macs_commands.specs.Planning.{other_end, own_key, planned, sci_of}
use Rattle.macs_commands.specs.Reading.{file_link}
use Rattle.macs_commands.specs.declared.links.link.End.{End}
use Rattle.macs_commands.specs.declared.links.link.KeyPair.{KeyPair}
use Rattle.macs_commands.specs.declared.links.link.Link.{Link}
use Rattle.macs_commands.specs.declared.links.planning.Stage.{Stage}
use Rattle.macs_commands.specs.declared.links.planning.Stage.TheVariants as stage

-- ---- sound links

-- its ends have different SCIs, its pairs different numbers, and no two of its keys are equal
pub record IsSound (link : Link) : Type 0 where
  pub ends : link.left ≢ link.right
  pub newest : octets_of_key link.newest.left ≢ octets_of_key link.newest.right
  pub numbers : (earlier : KeyPair) → link.before ≡ Some earlier → link.newest.an ≢ earlier.an
  pub earlier : (earlier : KeyPair) → link.before ≡ Some earlier
      → octets_of_key earlier.left ≢ octets_of_key earlier.right
  pub keys : (earlier : KeyPair) (one other : End) → link.before ≡ Some earlier
      → octets_of_key (own_key earlier one) ≢ octets_of_key (own_key link.newest other)

-- ---- commands one after the other

-- each of these commands is accepted, and they lead to this configuration
abbrev pub AllTaken : Identity → Config → List Command → Config → Type 0
AllTaken identity old [] new = new ≡ old
AllTaken identity old (command ∷ commands) new =
    (next : Config) × (apply this_edition identity old command ≡ Ok next) × AllTaken identity next commands new

-- the same for the commands of a stage
abbrev pub StageTaken : Identity → Link → End → Stage → Config → Config → Type 0
StageTaken identity link end stage old new =
    (commands : List Command) × (planned link end stage ≡ Ok commands) × AllTaken identity old commands new

-- ---- what an end does

-- frames are sent under a pair
pub record Sends (end : End) (pair : KeyPair) (c : Config) : Type 0 where
  pub encoding : c.encoding ≡ Some pair.an
  pub tx : (protection : Protection)
      × (c.tx pair.an ≡ Some (record { key = octets_of_key (own_key pair end); protection = protection }))

-- frames from the other end are received under it
pub record Receives (link : Link) (end : End) (pair : KeyPair) (c : Config) : Type 0 where
  pub channel : has_channel c (sci_of link (other_end end)) ≡ true
  pub rx : (offset : Offset) × (c.rx (sci_of link (other_end end)) pair.an
      ≡ Some (record { key = octets_of_key (own_key pair (other_end end)); offset = offset }))

-- its number is no longer in use
pub record IsGone (link : Link) (end : End) (pair : KeyPair) (c : Config) : Type 0 where
  pub tx : c.tx pair.an ≡ None
  pub rx : c.rx (sci_of link (other_end end)) pair.an ≡ None

-- neither key was installed before, and there is room for both
pub record IsUnspent (link : Link) (end : End) (pair : KeyPair) (c : Config) : Type 0 where
  pub tx : is_spent c.spent_tx (tx_fingerprint (octets_of_key (own_key pair end))) ≡ false
  pub rx : is_spent c.spent_rx
      (rx_fingerprint (sci_of link (other_end end)) (octets_of_key (own_key pair (other_end end)))) ≡ false
  pub tx_room : length c.spent_tx < max_spent
  pub rx_room : length c.spent_rx < max_spent

-- the keys of a pair have valid lengths
abbrev pub HasKeys : KeyPair → Type 0
HasKeys pair = (end : End) → HasItsLength (own_key pair end)

-- a link that is read is sound, and its newest keys have valid lengths
abbrev pub Refuses : Type 0
Refuses = (members : Members) (link : Link) → file_link members ≡ Ok link → IsSound link × HasKeys link.newest

-- ---- the laws

-- If one end sends under a pair and the other one receives under it, the frames of the first are received by the
-- second: under its SCI, at their association number and with their key.
abbrev pub Meets : Type 0
Meets = (link : Link) (end : End) (pair : KeyPair) (one other : Config) → Sends end pair one
    → Receives link (other_end end) pair other
    → (an : ℕ) × (tx : TxSa) × (rx : RxSa) × (one.encoding ≡ Some an) × (one.tx an ≡ Some tx)
    × (has_channel other (sci_of link end) ≡ true) × (other.rx (sci_of link end) an ≡ Some rx) × (rx.key ≡ tx.key)

-- a new endpoint accepts the first keys, and sends and receives under the newest pair
abbrev pub Begun : Identity → Link → End → Type 0
Begun identity link end =
    (new : Config) × StageTaken identity link end stage.First default new
    × Sends end link.newest new × Receives link end link.newest new

-- A freshly formatted endpoint, with the SCI of its end, accepts the first keys of a sound link.
abbrev pub Begins : Type 0
Begins = (identity : Identity) (link : Link) (end : End) → IsSound link → HasKeys link.newest
    → identity.sci ≡ sci_of link end → Begun identity link end

-- An end accepts the three stages of a new pair. After the first it still sends under the previous pair, and receives
-- under both; after the second it sends under the new one, and receives under both; after the third the previous pair
-- is gone. So as long as no end is more than one stage ahead of the other, each receives under the pair that the other
-- one sends under.
abbrev pub Rekeyed : Identity → Link → End → KeyPair → Config → Type 0
Rekeyed identity link end earlier old =
    (one : Config) × StageTaken identity link end stage.Receive old one
    × Sends end earlier one × Receives link end earlier one × Receives link end link.newest one
    × ((two : Config) × StageTaken identity link end stage.Send one two
    × Sends end link.newest two × Receives link end earlier two × Receives link end link.newest two
    × ((three : Config) × StageTaken identity link end stage.Remove two three
    × Sends end link.newest three × Receives link end link.newest three × IsGone link end earlier three))

-- So does each end of a sound link that sends and receives under the previous pair, if the new one was not installed
-- before.
abbrev pub Rekeys : Type 0
Rekeys = (identity : Identity) (link : Link) (end : End) (earlier : KeyPair) (old : Config)
    → IsSound link → HasKeys link.newest → link.before ≡ Some earlier
    → Sends end earlier old → Receives link end earlier old
    → IsGone link end link.newest old → IsUnspent link end link.newest old
    → Rekeyed identity link end earlier old
