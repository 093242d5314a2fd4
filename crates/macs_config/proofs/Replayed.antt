-- What the parts of a snapshot make up is a configuration.
use Rattle.std.proofs.Common.{◌≡◌, ◌<◌, ◌+◌, ℕ, zero, suc, Bool, true, false, cond, not, ◌&&◌, nat_le, nat_lt, List, []}
use Rattle.std.proofs.Common.{◌∷◌, ◌++◌, length, Option, Some, None, is_some, is_none, IsSome, IfSome, bytes_eq, inl}
use Rattle.std.proofs.Common.{inr, ◌∙◌, refl, subst, arith, length-append}
use Rattle.std.proofs.lemmas.Bool.{and_parts, leb-true, ltb-true, not-true, or_cases, or_right}
use Rattle.std.specs.List.{list_all}
use Rattle.std.specs.Option.{option_map_or}
use Rattle.macs_config.specs.Association.{is_end_station}
use Rattle.macs_config.specs.Config.{Config, Edition, IsConfig, default, has_channel, is_among, is_spent, max_spent}
use Rattle.macs_config.specs.Config.{rx_fingerprint, takes_key, tx_fingerprint}
use Rattle.macs_config.specs.Identity.{Identity, is_port_one}
use Rattle.macs_config.specs.Snapshot.{are_new, are_ordered, whole_config, is_rx_spent, is_tx_spent, is_whole}
use Rattle.macs_config.specs.Snapshot.{may_follow, every_an, place_of, config_of_parts, config_with_part}
use Rattle.macs_config.specs.Snapshot.{config_with_parts}
use Rattle.macs_config.specs.declared.association.RxSa.{RxSa as RxAssociation}
use Rattle.macs_config.specs.declared.association.TxSa.{TxSa as TxAssociation}
use Rattle.macs_config.specs.declared.command.Role.TheVariants.{Receive, Transmit}
use Rattle.macs_config.specs.declared.part.Part.{Part}
use Rattle.macs_config.specs.declared.part.Part.TheVariants.{Settings, TxSa, Channel, RxSa, Spent}
use Rattle.macs_config.proofs.Channels.{among-put_among, same_octets}
use Rattle.macs_config.proofs.Kept.{channel_added, port_of_end_station}
use Rattle.macs_config.proofs.Sides.{AreChannels, IsSpentList, from_sides}
use Rattle.macs_config.proofs.Spent.{distinct-append}
use Rattle.macs_config.proofs.Tables.{put-associations, put-receive-associations}

-- ---- part by part

-- what holds of what some of the parts made up
record Grows (edition : Edition) (identity : Identity) (c : Config) : Type 0 where
  channels : AreChannels edition identity c.channels
  have_channels : (sci : List ℕ) (an : ℕ) (sa : RxAssociation) → c.rx sci an ≡ Some sa → is_among c.channels sci ≡ true
  tx_taken : (an : ℕ) (sa : TxAssociation) → c.tx an ≡ Some sa → takes_key edition sa.key ≡ true
  rx_taken : (sci : List ℕ) (an : ℕ) (sa : RxAssociation) → c.rx sci an ≡ Some sa → takes_key edition sa.key ≡ true
  spent_tx : IsSpentList c.spent_tx
  spent_rx : IsSpentList c.spent_rx

-- new fingerprints that fit
spent_joined : (spent fingerprints : List (List ℕ)) → IsSpentList spent
    → (are_new spent fingerprints && nat_le (length spent + length fingerprints) max_spent) ≡ true
    → IsSpentList (spent ++ fingerprints)
spent_joined spent fingerprints is may =
    let parts = and_parts (are_new spent fingerprints) (nat_le (length spent + length fingerprints) max_spent) may in
    record {
      once = distinct-append spent fingerprints is.once parts.0;
      fit =
          let fit = leb-true (length spent + length fingerprints) max_spent parts.1 in
          omega (arith, length-append spent fingerprints);
    }

module _ (edition : Edition) (identity : Identity) where
  grown : (c : Config) (part : Part) → may_follow edition identity c part ≡ true → Grows edition identity c
      → Grows edition identity (config_with_part c part)
  grown c (Settings validate replay mode encoding) may grows = cc
  grown c (TxSa an sa) may grows = record {
    channels = grows.channels;
    have_channels = grows.have_channels;
    tx_taken = put-associations (λ i (one : TxAssociation). takes_key edition one.key ≡ true) c.tx an (Some sa)
        (λ one same. let key_is : sa.key ≡ one.key = cc in subst (λ (key : List ℕ). takes_key edition key ≡ true) key_is
        (and_parts (is_none (c.tx an)) (takes_key edition sa.key) may).1) grows.tx_taken;
    rx_taken = grows.rx_taken;
    spent_tx = grows.spent_tx;
    spent_rx = grows.spent_rx;
  }
  grown c (Channel sci) may grows =
      let room = and_parts (not (bytes_eq sci identity.sci) && not (has_channel c sci))
      (nat_lt (length c.channels) edition.channels) may in
      let free = and_parts (not (bytes_eq sci identity.sci)) (not (has_channel c sci)) room.0 in
      record {
        channels =
            channel_added edition identity c.channels grows.channels sci (not-true (bytes_eq sci identity.sci) free.0)
            (not-true (has_channel c sci) free.1) (ltb-true (length c.channels) edition.channels room.1);
        have_channels = λ other an sa stands. among-put_among sci c.channels other
            ∙ or_right (bytes_eq sci other) (is_among c.channels other) (grows.have_channels other an sa stands);
        tx_taken = grows.tx_taken;
        rx_taken = grows.rx_taken;
        spent_tx = grows.spent_tx;
        spent_rx = grows.spent_rx;
      }
  grown c (RxSa sci an sa) may grows = record {
    channels = grows.channels;
    have_channels = put-receive-associations (λ other i (one : RxAssociation). is_among c.channels other ≡ true) c.rx
        sci an (Some sa)
        (λ one same. (and_parts (has_channel c sci) (is_none (c.rx sci an)) (and_parts
        (has_channel c sci && is_none (c.rx sci an)) (takes_key edition sa.key) may).0).0) grows.have_channels;
    tx_taken = grows.tx_taken;
    rx_taken = put-receive-associations (λ other i (one : RxAssociation). takes_key edition one.key ≡ true) c.rx sci
        an (Some sa)
        (λ one same. let key_is : sa.key ≡ one.key = cc in subst (λ (key : List ℕ). takes_key edition key ≡ true) key_is
        (and_parts (has_channel c sci && is_none (c.rx sci an)) (takes_key edition sa.key) may).1) grows.rx_taken;
    spent_tx = grows.spent_tx;
    spent_rx = grows.spent_rx;
  }
  grown c (Spent Transmit fingerprints) may grows = record {
    channels = grows.channels;
    have_channels = grows.have_channels;
    tx_taken = grows.tx_taken;
    rx_taken = grows.rx_taken;
    spent_tx = spent_joined c.spent_tx fingerprints grows.spent_tx may;
    spent_rx = grows.spent_rx;
  }
  grown c (Spent Receive fingerprints) may grows = record {
    channels = grows.channels;
    have_channels = grows.have_channels;
    tx_taken = grows.tx_taken;
    rx_taken = grows.rx_taken;
    spent_tx = grows.spent_tx;
    spent_rx = spent_joined c.spent_rx fingerprints grows.spent_rx may;
  }

  grown_by : (c end : Config) (part : Part) (parts : List Part) (may : Bool) → may_follow edition identity c part ≡ may
      → Grows edition identity c
      → ((d : Config) → Grows edition identity d → config_with_parts edition identity d parts ≡ Some end
      → Grows edition identity end)
      → cond may (config_with_parts edition identity (config_with_part c part) parts) None ≡ Some end
      → Grows edition identity end
  grown_by c end part parts true is grows later made = later (config_with_part c part) (grown c part is grows) made
  grown_by c end part parts false is grows later made = cc

  all_grown : (c end : Config) (parts : List Part) → Grows edition identity c
      → config_with_parts edition identity c parts ≡ Some end → Grows edition identity end
  all_grown c end [] grows made = let same : c ≡ end = cc in subst (λ (d : Config). Grows edition identity d) same grows
  all_grown c end (part ∷ parts) grows made =
      grown_by c end part parts (may_follow edition identity c part) refl grows (λ d. all_grown d end parts) made

-- ---- the whole

number_all : (test : ℕ → Bool) → list_all test every_an ≡ true → (an : ℕ) → an < 4 → test an ≡ true
number_all test all zero below = (and_parts (test 0) _ all).0
number_all test all (suc zero) below = (and_parts (test 1) _ (and_parts (test 0) _ all).1).0
number_all test all (suc (suc zero)) below =
    (and_parts (test 2) _ (and_parts (test 1) _ (and_parts (test 0) _ all).1).1).0
number_all test all (suc (suc (suc zero))) below =
    (and_parts (test 3) _ (and_parts (test 2) _ (and_parts (test 1) _ (and_parts (test 0) _ all).1).1).1).0
number_all test all (suc (suc (suc (suc an)))) below = absurd (omega arith)

-- what all pass, one among them passes
all_among : (test : List ℕ → Bool) (items : List (List ℕ)) (item : List ℕ) → list_all test items ≡ true
    → is_among items item ≡ true → test item ≡ true
all_among test [] item all among = cc
all_among test (other ∷ others) item all among =
    let parts = and_parts (test other) (list_all test others) all in
    elim (or_cases (bytes_eq other item) (is_among others item) among) [
      | inl here ↦ subst (λ (i : List ℕ). test i ≡ true) (same_octets other item here) parts.0
      | inr later ↦ all_among test others item parts.1 later
    ]

-- what a test says of what there is
at_some : {A : Type 0} (test : A → Bool) (o : Option A) (x : A) → o ≡ Some x → option_map_or test o true ≡ true
    → test x ≡ true
at_some test None x is passes = cc
at_some test (Some y) x is passes = let same : y ≡ x = cc in subst (λ z. test z ≡ true) same passes

encoding_from : (encoding : Option ℕ) (tx : ℕ → Option TxAssociation)
    → option_map_or (λ an. is_some (tx an)) encoding true ≡ true
    → IfSome encoding (λ an. IsSome (tx an))
encoding_from None tx stands = tt
encoding_from (Some an) tx stands = stands

-- what has grown and is whole is a configuration
whole : (edition : Edition) (identity : Identity) (c : Config) → Grows edition identity c → is_whole identity c ≡ true
    → IsConfig edition identity c
whole edition identity c grows is =
    let port = and_parts _ (not (is_end_station c.mode && not (is_port_one identity.sci))) is in
    let encoding = and_parts _ (option_map_or (λ an. is_some (c.tx an)) c.encoding true) port.0 in
    let keys = and_parts (list_all (is_tx_spent c) every_an)
    (list_all (λ (sci : List ℕ). list_all (is_rx_spent c sci) every_an) c.channels) encoding.0 in
    from_sides edition identity c
    (port_of_end_station c.mode (is_port_one identity.sci)
    (not-true (is_end_station c.mode && not (is_port_one identity.sci)) port.1))
    (record {
      encoding_stands = encoding_from c.encoding c.tx encoding.1;
      are_taken = grows.tx_taken;
      are_spent = λ an sa stands below.
          at_some (λ (one : TxAssociation). is_spent c.spent_tx (tx_fingerprint one.key)) (c.tx an) sa stands
          (number_all (is_tx_spent c) keys.0 an below);
      spent_keys = grows.spent_tx;
    })
    grows.channels
    (record {
      have_channels = grows.have_channels;
      are_taken = grows.rx_taken;
      are_spent = λ sci an sa stands below.
          at_some (λ (one : RxAssociation). is_spent c.spent_rx (rx_fingerprint sci one.key)) (c.rx sci an) sa stands
          (number_all (is_rx_spent c sci)
          (all_among (λ sci. list_all (is_rx_spent c sci) every_an) c.channels sci keys.1
          (grows.have_channels sci an sa stands)) an below);
      spent_keys = grows.spent_rx;
    })

checked_by : (identity : Identity) (c end : Config) (test : Bool) → is_whole identity c ≡ test
    → cond test (Some c) None ≡ Some end
    → (c ≡ end) × (is_whole identity c ≡ true)
checked_by identity c end true is made = (cc, is)
checked_by identity c end false is made = cc

checked_is : (edition : Edition) (identity : Identity) (made : Option Config) (end : Config)
    → whole_config identity made ≡ Some end
    → ((c : Config) → made ≡ Some c → Grows edition identity c) → IsConfig edition identity end
checked_is edition identity None end is grows = cc
checked_is edition identity (Some c) end is grows =
    let found = checked_by identity c end (is_whole identity c) refl is in
    subst (λ (d : Config). IsConfig edition identity d) found.0 (whole edition identity c (grows c refl) found.1)

started : (edition : Edition) (identity : Identity) (part : Part) → nat_le (place_of part) 1 ≡ true
    → Grows edition identity (config_with_part default part)
started edition identity (Settings validate replay mode encoding) first = record {
  channels = record { ascend = refl; fit = omega arith; own_sci_free = refl };
  have_channels = λ sci an sa stands. cc;
  tx_taken = λ an sa stands. cc;
  rx_taken = λ sci an sa stands. cc;
  spent_tx = record { once = refl; fit = omega arith };
  spent_rx = record { once = refl; fit = omega arith };
}
started edition identity (TxSa an sa) first = cc
started edition identity (Channel sci) first = cc
started edition identity (RxSa sci an sa) first = cc
started edition identity (Spent Transmit fingerprints) first = cc
started edition identity (Spent Receive fingerprints) first = cc

restored_by : (edition : Edition) (identity : Identity) (part : Part) (parts : List Part) (c : Config) (ordered : Bool)
    → (nat_le (place_of part) 1 && are_ordered 2 parts) ≡ ordered
    → cond ordered (whole_config identity (config_with_parts edition identity (config_with_part default part) parts))
    None ≡ Some c → IsConfig edition identity c
restored_by edition identity part parts c true is made =
    let first = (and_parts (nat_le (place_of part) 1) (are_ordered 2 parts) is).0 in
    checked_is edition identity (config_with_parts edition identity (config_with_part default part) parts) c made
    (λ d. all_grown edition identity (config_with_part default part) d parts (started edition identity part first))
restored_by edition identity part parts c false is made = cc

-- what the parts of a snapshot make up is a configuration
pub restored-is-config : (edition : Edition) (identity : Identity) (parts : List Part) (c : Config)
    → config_of_parts edition identity parts ≡ Some c → IsConfig edition identity c
restored-is-config edition identity [] c made = cc
restored-is-config edition identity (part ∷ parts) c made =
    restored_by edition identity part parts c (nat_le (place_of part) 1 && are_ordered 2 parts) refl made
