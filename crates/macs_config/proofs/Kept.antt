-- A command that is not refused makes a configuration of a configuration.
use Rattle.std.proofs.Common.{◌≡◌, ◌∙◌, ◌<◌, ℕ, Bool, true, false, cond, not, ◌&&◌, nat_le, List, [], ◌∷◌, ◌++◌, length}
use Rattle.std.proofs.Common.{Option, Some, None, is_some, is_none, Ok, filter, bytes_eq, refl, ap, subst, arith}
use Rattle.std.proofs.Common.{length-append}
use Rattle.std.proofs.lemmas.Bool.{leb-false, not-false, or_from, or_left, or_right}
use Rattle.macs_aes.specs.Keys.{octets_of_key}
use Rattle.macs_fields.specs.First.{first}
use Rattle.macs_config.specs.Apply.{Reason, apply, config_after, is_channel_taken, are_channels_full, is_long_key}
use Rattle.macs_config.specs.Apply.{offset_or_zero, is_wrong_end_station, is_in_use, is_encoding, is_key_spent}
use Rattle.macs_config.specs.Apply.{has_no_channel, offset_at, is_own_sci, refusal_of, refusals, is_slot_empty}
use Rattle.macs_config.specs.Apply.{are_spent_full, answer_or_refusal}
use Rattle.macs_config.specs.Association.{is_end_station, protection_of}
use Rattle.macs_config.specs.Config.{Config, Edition, IsConfig, is_among, is_spent, max_spent, put_among}
use Rattle.macs_config.specs.Config.{rx_fingerprint, takes_key, tx_fingerprint}
use Rattle.macs_config.specs.Identity.{Identity, is_port_one}
use Rattle.macs_config.specs.Tables.{put, put_at}
use Rattle.macs_config.specs.declared.association.RxSa.{RxSa}
use Rattle.macs_config.specs.declared.association.TxSa.{TxSa}
use Rattle.macs_config.specs.declared.command.Command.{Command}
use Rattle.macs_config.specs.declared.command.Command.TheVariants.{RxAdd, RxDrop, RxInstall, RxRemove, SetReplay}
use Rattle.macs_config.specs.declared.command.Command.TheVariants.{SetSciMode, SetValidate, TxInstall, TxRemove, TxUse}
use Rattle.macs_config.specs.declared.command.SciMode.{SciMode}
use Rattle.macs_config.specs.declared.command.SciMode.TheVariants.{EndStation, Explicit, Implicit}
use Rattle.macs_config.proofs.Channels.{among-filter, among-put_among, ascending-filter, ascending-put_among}
use Rattle.macs_config.proofs.Channels.{bytes_eq-itself, length-filter-le, length-put_among, not_among-filter}
use Rattle.macs_config.proofs.Spent.{among-before, among-behind, distinct-push}
use Rattle.macs_config.proofs.Sides.{AreChannels, IsReceiveSide, IsSpentList, IsTransmitSide, channels_of, from_sides}
use Rattle.macs_config.proofs.Sides.{receive_side, transmit_side}
use Rattle.macs_config.proofs.Tables.{drop-receive-associations, encoding-kept, encoding-put, put-associations}
use Rattle.macs_config.proofs.Tables.{put-receive-associations}

-- ---- not refused

-- none of these tests holds
abbrev NoTest : {R : Type 0} → List (R × Bool) → Type 0
NoTest [] = Unit {0}
NoTest (row ∷ rows) = (row.1 ≡ false) × NoTest rows

no_test_by : {R : Type 0} (refusal : R) (test : Bool) (rows : List (R × Bool)) → (first rows ≡ None → NoTest rows)
    → cond test (Some refusal) (first rows) ≡ None → (test ≡ false) × NoTest rows
no_test_by refusal true rows later is = cc
no_test_by refusal false rows later is = (refl, later is)

no_test : {R : Type 0} (rows : List (R × Bool)) → first rows ≡ None → NoTest rows
no_test [] is = tt
no_test (row ∷ rows) is = no_test_by row.0 row.1 rows (no_test rows) is

pub applied_by : (refusal : Option Reason) (made new : Config) → answer_or_refusal refusal made ≡ Ok new
    → (refusal ≡ None) × (made ≡ new)
applied_by None made new is = (refl, cc)
applied_by (Some refusal) made new is = cc

module _ (edition : Edition) (identity : Identity) (old : Config) where
  -- the tests that a command has passed
  record Passed (command : Command) : Type 0 where
    own : is_own_sci identity command ≡ false
    end_station : is_wrong_end_station identity command ≡ false
    no_channel : has_no_channel old command ≡ false
    channel_taken : is_channel_taken old command ≡ false
    channels_full : are_channels_full edition old command ≡ false
    slot_empty : is_slot_empty old command ≡ false
    in_use : is_in_use old command ≡ false
    key_spent : is_key_spent old command ≡ false
    spent_full : are_spent_full old command ≡ false
    long_key : is_long_key edition command ≡ false

  passed : (command : Command) → refusal_of edition identity old command ≡ None → Passed command
  passed command is = let none : NoTest (refusals edition identity old command) =
      no_test (refusals edition identity old command) is in record {
        own = none.1.1.0;
        end_station = none.1.1.1.0;
        no_channel = none.1.1.1.1.0;
        channel_taken = none.1.1.1.1.1.0;
        channels_full = none.1.1.1.1.1.1.0;
        slot_empty = none.1.1.1.1.1.1.1.1.0;
        in_use = none.1.1.1.1.1.1.1.1.1.0;
        key_spent = none.1.1.1.1.1.1.1.1.1.1.0;
        spent_full = none.1.1.1.1.1.1.1.1.1.1.1.0;
        long_key = none.1.1.1.1.1.1.1.1.1.1.1.1.0;
      }

-- ---- sides that change

-- an end station's port, where that test has been passed
pub port_of_end_station : (mode : SciMode) (port : Bool) → (is_end_station mode && not port) ≡ false → mode ≡ EndStation
    → port ≡ true
port_of_end_station Explicit port passed is = cc
port_of_end_station EndStation port passed is = not-false port passed
port_of_end_station Implicit port passed is = cc

-- one key more
spent_more : (spent : List (List ℕ)) (item : List ℕ) → IsSpentList spent → is_spent spent item ≡ false
    → nat_le max_spent (length spent) ≡ false
    → IsSpentList (spent ++ item ∷ [])
spent_more spent item is new passed = record {
  once = distinct-push spent item is.once new;
  fit =
      let below = leb-false max_spent (length spent) passed in
      omega (arith, length-append spent (item ∷ []));
}

pushed_among : (spent : List (List ℕ)) (item : List ℕ) → is_spent (spent ++ item ∷ []) item ≡ true
pushed_among spent item =
    among-behind spent (item ∷ []) item (or_left (bytes_eq item item) false (bytes_eq-itself item))

module _ (edition : Edition) (encoding : Option ℕ) (tx : ℕ → Option TxSa) (spent : List (List ℕ))
    (is : IsTransmitSide edition encoding tx spent) where
  tx_installed : (an : ℕ) (sa : TxSa) → takes_key edition sa.key ≡ true → is_spent spent (tx_fingerprint sa.key) ≡ false
      → nat_le max_spent (length spent) ≡ false
      → IsTransmitSide edition encoding (put tx an (Some sa)) (spent ++ tx_fingerprint sa.key ∷ [])
  tx_installed an sa taken new room =
      let fingerprint = tx_fingerprint sa.key in
      let more = spent ++ fingerprint ∷ [] in
      record {
        encoding_stands = encoding-put encoding tx an sa is.encoding_stands;
        are_taken = put-associations (λ i (one : TxSa). takes_key edition one.key ≡ true) tx an (Some sa)
            (λ one same. let key_is : sa.key ≡ one.key = cc in
            subst (λ (key : List ℕ). takes_key edition key ≡ true) key_is taken) is.are_taken;
        are_spent =
            put-associations (λ i (one : TxSa). i < 4 → is_spent more (tx_fingerprint one.key) ≡ true) tx an (Some sa)
            (λ one same below. let key_is : sa.key ≡ one.key = cc in
            subst (λ (key : List ℕ). is_spent more (tx_fingerprint key) ≡ true) key_is (pushed_among spent fingerprint))
            (λ i one stood below.
            among-before spent (fingerprint ∷ []) (tx_fingerprint one.key) (is.are_spent i one stood below));
        spent_keys = spent_more spent fingerprint is.spent_keys new room;
      }

  tx_used : (an : ℕ) → is_none (tx an) ≡ false → IsTransmitSide edition (Some an) tx spent
  tx_used an stands = record {
    encoding_stands = not-false (is_some (tx an)) stands;
    are_taken = is.are_taken;
    are_spent = is.are_spent;
    spent_keys = is.spent_keys;
  }

  tx_removed : (an : ℕ) → is_encoding encoding an ≡ false → IsTransmitSide edition encoding (put tx an None) spent
  tx_removed an unused = record {
    encoding_stands = encoding-kept encoding tx an unused is.encoding_stands;
    are_taken =
        put-associations (λ i (one : TxSa). takes_key edition one.key ≡ true) tx an None (λ one same. cc) is.are_taken;
    are_spent = put-associations (λ i (one : TxSa). i < 4 → is_spent spent (tx_fingerprint one.key) ≡ true) tx an None
        (λ one same below. cc) is.are_spent;
    spent_keys = is.spent_keys;
  }

module _ (edition : Edition) (identity : Identity) (channels : List (List ℕ))
    (are : AreChannels edition identity channels) where
  pub channel_added : (sci : List ℕ) → bytes_eq sci identity.sci ≡ false → is_among channels sci ≡ false
      → length channels < edition.channels
      → AreChannels edition identity (put_among sci channels)
  channel_added sci own taken room = record {
    ascend = ascending-put_among sci channels taken are.ascend;
    fit = omega (arith, length-put_among sci channels);
    own_sci_free = among-put_among sci channels identity.sci
        ∙ or_from (bytes_eq sci identity.sci) (is_among channels identity.sci) own are.own_sci_free;
  }

  channel_dropped : (sci : List ℕ) → AreChannels edition identity (filter (λ other. not (bytes_eq other sci)) channels)
  channel_dropped sci = let stays = λ (other : List ℕ). not (bytes_eq other sci) in record {
    ascend = ascending-filter stays channels are.ascend;
    fit =
        let fewer = length-filter-le stays channels in
        let fit = are.fit in
        omega arith;
    own_sci_free = not_among-filter stays identity.sci channels are.own_sci_free;
  }

module _ (edition : Edition) (channels : List (List ℕ)) (rx : List ℕ → ℕ → Option RxSa) (spent : List (List ℕ))
    (is : IsReceiveSide edition channels rx spent) where
  rx_added : (sci : List ℕ) → IsReceiveSide edition (put_among sci channels) rx spent
  rx_added sci = record {
    have_channels = λ other an sa stands. among-put_among sci channels other
        ∙ or_right (bytes_eq sci other) (is_among channels other) (is.have_channels other an sa stands);
    are_taken = is.are_taken;
    are_spent = is.are_spent;
    spent_keys = is.spent_keys;
  }

  rx_dropped : (sci : List ℕ)
      → IsReceiveSide edition (filter (λ other. not (bytes_eq other sci)) channels) (put_at rx sci (λ an. None)) spent
  rx_dropped sci = let stays = λ (other : List ℕ). not (bytes_eq other sci) in record {
    have_channels = λ other an sa. drop-receive-associations
        (λ other an (sa : RxSa). is_among (filter stays channels) other ≡ true) rx sci other an sa
        (λ differ stood. among-filter stays other channels (ap not differ) (is.have_channels other an sa stood));
    are_taken = λ other an sa.
        drop-receive-associations (λ other an (sa : RxSa). takes_key edition sa.key ≡ true) rx sci other an sa
        (λ differ stood. is.are_taken other an sa stood);
    are_spent = λ other an sa. drop-receive-associations (λ other an (sa : RxSa). an < 4
        → is_spent spent (rx_fingerprint other sa.key) ≡ true) rx sci other an sa
        (λ differ stood. is.are_spent other an sa stood);
    spent_keys = is.spent_keys;
  }

  rx_installed : (sci : List ℕ) (an : ℕ) (sa : RxSa) → is_among channels sci ≡ true → takes_key edition sa.key ≡ true
      → is_spent spent (rx_fingerprint sci sa.key) ≡ false → nat_le max_spent (length spent) ≡ false
      → IsReceiveSide edition channels (put_at rx sci (put (rx sci) an (Some sa)))
      (spent ++ rx_fingerprint sci sa.key ∷ [])
  rx_installed sci an sa channel taken new room =
      let fingerprint = rx_fingerprint sci sa.key in
      let more = spent ++ fingerprint ∷ [] in
      record {
        have_channels = put-receive-associations (λ other i (one : RxSa). is_among channels other ≡ true) rx sci an
            (Some sa) (λ one same. channel) is.have_channels;
        are_taken =
            put-receive-associations (λ other i (one : RxSa). takes_key edition one.key ≡ true) rx sci an (Some sa)
            (λ one same. let key_is : sa.key ≡ one.key = cc in
            subst (λ (key : List ℕ). takes_key edition key ≡ true) key_is taken) is.are_taken;
        are_spent = put-receive-associations (λ other i (one : RxSa). i < 4
            → is_spent more (rx_fingerprint other one.key) ≡ true) rx sci an (Some sa)
            (λ one same below. let key_is : sa.key ≡ one.key = cc in
            subst (λ (key : List ℕ). is_spent more (rx_fingerprint sci key) ≡ true) key_is
            (pushed_among spent fingerprint))
            (λ other i one stood below. among-before spent (fingerprint ∷ []) (rx_fingerprint other one.key)
            (is.are_spent other i one stood below));
        spent_keys = spent_more spent fingerprint is.spent_keys new room;
      }

  rx_removed : (sci : List ℕ) (an : ℕ) → IsReceiveSide edition channels (put_at rx sci (put (rx sci) an None)) spent
  rx_removed sci an = record {
    have_channels = put-receive-associations (λ other i (one : RxSa). is_among channels other ≡ true) rx sci an None
        (λ one same. cc) is.have_channels;
    are_taken = put-receive-associations (λ other i (one : RxSa). takes_key edition one.key ≡ true) rx sci an None
        (λ one same. cc) is.are_taken;
    are_spent = put-receive-associations (λ other i (one : RxSa). i < 4
        → is_spent spent (rx_fingerprint other one.key) ≡ true) rx sci an None
        (λ one same below. cc) is.are_spent;
    spent_keys = is.spent_keys;
  }

-- ---- the whole

module _ (edition : Edition) (identity : Identity) (old : Config) (is : IsConfig edition identity old) where
  kept : (command : Command) → Passed edition identity old command
      → IsConfig edition identity (config_after old command)
  kept command tests = by command tests
    where
      transmit : IsTransmitSide edition old.encoding old.tx old.spent_tx
      transmit = transmit_side edition identity old is

      channels : AreChannels edition identity old.channels
      channels = channels_of edition identity old is

      receive : IsReceiveSide edition old.channels old.rx old.spent_rx
      receive = receive_side edition identity old is

      by : (command : Command) → Passed edition identity old command
          → IsConfig edition identity (config_after old command)
      by (SetValidate validate) tests = from_sides edition identity _ is.end_station transmit channels receive
      by (SetReplay on window) tests = from_sides edition identity _ is.end_station transmit channels receive
      by (SetSciMode mode) tests =
          from_sides edition identity _ (port_of_end_station mode (is_port_one identity.sci) tests.end_station) transmit
          channels receive
      by (TxInstall an key start confidential offset) tests =
          let sa : TxSa = record {
            key = octets_of_key key;
            protection =
                protection_of confidential (offset_or_zero (offset_at offset));
          } in
          from_sides edition identity _ is.end_station
          (tx_installed edition old.encoding old.tx old.spent_tx transmit an sa
          (not-false (takes_key edition sa.key) tests.long_key) tests.key_spent tests.spent_full)
          channels receive
      by (TxUse an) tests =
          from_sides edition identity _ is.end_station
          (tx_used edition old.encoding old.tx old.spent_tx transmit an tests.slot_empty) channels receive
      by (TxRemove an) tests =
          from_sides edition identity _ is.end_station
          (tx_removed edition old.encoding old.tx old.spent_tx transmit an tests.in_use) channels receive
      by (RxAdd sci) tests =
          from_sides edition identity _ is.end_station transmit
          (channel_added edition identity old.channels channels sci tests.own tests.channel_taken
          (leb-false edition.channels (length old.channels) tests.channels_full))
          (rx_added edition old.channels old.rx old.spent_rx receive sci)
      by (RxDrop sci) tests =
          from_sides edition identity _ is.end_station transmit
          (channel_dropped edition identity old.channels channels sci)
          (rx_dropped edition old.channels old.rx old.spent_rx receive sci)
      by (RxInstall sci an key start offset) tests =
          let sa : RxSa = record { key = octets_of_key key; offset = offset_or_zero (offset_at offset) } in
          from_sides edition identity _ is.end_station transmit channels
          (rx_installed edition old.channels old.rx old.spent_rx receive sci an sa
          (not-false (is_among old.channels sci) tests.no_channel)
          (not-false (takes_key edition sa.key) tests.long_key) tests.key_spent tests.spent_full)
      by (RxRemove sci an) tests =
          from_sides edition identity _ is.end_station transmit channels
          (rx_removed edition old.channels old.rx old.spent_rx receive sci an)

-- a command that is not refused makes a configuration of a configuration
pub apply-keeps : (edition : Edition) (identity : Identity) (old new : Config) (command : Command)
    → IsConfig edition identity old
    → apply edition identity old command ≡ Ok new → IsConfig edition identity new
apply-keeps edition identity old new command is done =
    let made = applied_by (refusal_of edition identity old command) (config_after old command) new done in
    subst (λ (c : Config). IsConfig edition identity c) made.1
    (kept edition identity old is command (passed edition identity old command made.0))
