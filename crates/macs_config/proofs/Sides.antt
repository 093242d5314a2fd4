-- What holds of every configuration, side by side.
use Rattle.std.proofs.Common.{◌≡◌, ◌≤◌, ◌<◌, ℕ, true, false, List, length, Option, Some, IsSome, IfSome}
use Rattle.macs_config.specs.Config.{Config, Edition, IsConfig, are_distinct, is_among, is_ascending, is_spent}
use Rattle.macs_config.specs.Config.{max_spent, rx_fingerprint, spent_of, takes_key, tx_fingerprint}
use Rattle.macs_config.specs.Identity.{Identity, is_port_one}
use Rattle.macs_config.specs.declared.association.RxSa.{RxSa}
use Rattle.macs_config.specs.declared.association.TxSa.{TxSa}
use Rattle.macs_config.specs.declared.command.Role.{Role}
use Rattle.macs_config.specs.declared.command.Role.TheVariants.{Receive, Transmit}
use Rattle.macs_config.specs.declared.command.SciMode.{SciMode}
use Rattle.macs_config.specs.declared.command.SciMode.TheVariants.{EndStation}

-- the port of an end station
abbrev pub IsPortOf : Identity → SciMode → Type 0
IsPortOf identity mode = mode ≡ EndStation → is_port_one identity.sci ≡ true

-- spent keys
pub record IsSpentList (spent : List (List ℕ)) : Type 0 where
  pub once : are_distinct spent ≡ true
  pub fit : length spent ≤ max_spent

-- the transmit side
pub record IsTransmitSide (edition : Edition) (encoding : Option ℕ) (tx : ℕ → Option TxSa)
    (spent : List (List ℕ)) : Type 0 where
  pub encoding_stands : IfSome encoding (λ an. IsSome (tx an))
  pub are_taken : (an : ℕ) (sa : TxSa) → tx an ≡ Some sa → takes_key edition sa.key ≡ true
  pub are_spent : (an : ℕ) (sa : TxSa) → tx an ≡ Some sa → an < 4 → is_spent spent (tx_fingerprint sa.key) ≡ true
  pub spent_keys : IsSpentList spent

-- the receive channels
pub record AreChannels (edition : Edition) (identity : Identity) (channels : List (List ℕ)) : Type 0 where
  pub ascend : is_ascending channels ≡ true
  pub fit : length channels ≤ edition.channels
  pub own_sci_free : is_among channels identity.sci ≡ false

-- the associations of the receive side
pub record IsReceiveSide (edition : Edition) (channels : List (List ℕ)) (rx : List ℕ → ℕ → Option RxSa)
    (spent : List (List ℕ)) : Type 0 where
  pub have_channels : (sci : List ℕ) (an : ℕ) (sa : RxSa) → rx sci an ≡ Some sa → is_among channels sci ≡ true
  pub are_taken : (sci : List ℕ) (an : ℕ) (sa : RxSa) → rx sci an ≡ Some sa → takes_key edition sa.key ≡ true
  pub are_spent : (sci : List ℕ) (an : ℕ) (sa : RxSa) → rx sci an ≡ Some sa → an < 4
      → is_spent spent (rx_fingerprint sci sa.key) ≡ true
  pub spent_keys : IsSpentList spent

by_role : (P : List (List ℕ) → Type 0) (c : Config) → P c.spent_tx → P c.spent_rx → (role : Role) → P (spent_of role c)
by_role P c tx rx Transmit = tx
by_role P c tx rx Receive = rx

module _ (edition : Edition) (identity : Identity) (c : Config) where
  pub transmit_side : IsConfig edition identity c → IsTransmitSide edition c.encoding c.tx c.spent_tx
  transmit_side is = record {
    encoding_stands = is.encoding_stands;
    are_taken = is.tx_taken;
    are_spent = λ an sa stands below. is.tx_spent an sa below stands;
    spent_keys = record { once = is.spent_once Transmit; fit = is.spent_fit Transmit };
  }

  pub channels_of : IsConfig edition identity c → AreChannels edition identity c.channels
  channels_of is = record { ascend = is.channels_ascend; fit = is.channels_fit; own_sci_free = is.own_sci_free }

  pub receive_side : IsConfig edition identity c → IsReceiveSide edition c.channels c.rx c.spent_rx
  receive_side is = record {
    have_channels = is.rx_channels;
    are_taken = is.rx_taken;
    are_spent = λ sci an sa stands below. is.rx_spent sci an sa below stands;
    spent_keys = record { once = is.spent_once Receive; fit = is.spent_fit Receive };
  }

  pub from_sides : IsPortOf identity c.mode → IsTransmitSide edition c.encoding c.tx c.spent_tx
      → AreChannels edition identity c.channels
      → IsReceiveSide edition c.channels c.rx c.spent_rx → IsConfig edition identity c
  from_sides port transmit channels receive = record {
    encoding_stands = transmit.encoding_stands;
    end_station = port;
    channels_ascend = channels.ascend;
    channels_fit = channels.fit;
    own_sci_free = channels.own_sci_free;
    rx_channels = receive.have_channels;
    tx_taken = transmit.are_taken;
    rx_taken = receive.are_taken;
    tx_spent = λ an sa below stands. transmit.are_spent an sa stands below;
    rx_spent = λ sci an sa below stands. receive.are_spent sci an sa stands below;
    spent_once = by_role (λ spent. are_distinct spent ≡ true) c transmit.spent_keys.once receive.spent_keys.once;
    spent_fit = by_role (λ spent. length spent ≤ max_spent) c transmit.spent_keys.fit receive.spent_keys.fit;
  }
