-- A snapshot of the standing stands for it.
use Rattle.std.proofs.Common.{◌≡◌, ◌∙◌, ◌≤◌, ◌∷◌, ◌++◌, ◌<◌, ◌&&◌, ℕ, Bool, true, false, cond, List, [], Option, Some}
use Rattle.std.proofs.Common.{None, is_some, refl, ap, sym, subst, arith, not, IsSome, IfSome}
use Rattle.std.specs.Option.{option_and_then, option_map, option_map_or}
use Rattle.std.specs.List.{list_all}
use Rattle.std.proofs.Math.Path.{fun_ext}
use Rattle.std.proofs.lemmas.List.{append-nil}
use Rattle.std.proofs.lemmas.Bool.{and_from}
use Rattle.macs_config.specs.Config.{Config, IsConfig, default, is_among, Edition, is_spent, rx_fingerprint}
use Rattle.macs_config.specs.Config.{tx_fingerprint}
use Rattle.macs_config.specs.Snapshot.{are_ordered, config_of_parts, config_with_parts, whole_config, every_an}
use Rattle.macs_config.specs.Snapshot.{is_rx_spent, is_tx_spent, is_whole}
use Rattle.macs_config.specs.Association.{is_end_station}
use Rattle.macs_config.specs.Identity.{Identity, is_port_one}
use Rattle.macs_config.specs.declared.association.RxSa.{RxSa as RxAssociation}
use Rattle.macs_config.specs.declared.command.Role.TheVariants.{Receive, Transmit}
use Rattle.macs_config.specs.declared.part.Part.{Part}
use Rattle.macs_config.specs.declared.part.Part.TheVariants as part
use Rattle.macs_config.specs.declared.association.TxSa.{TxSa as TxAssociation}
use Rattle.macs_config.specs.declared.command.SciMode.{SciMode}
use Rattle.macs_config.specs.declared.command.SciMode.TheVariants.{EndStation, Explicit, Implicit}
use Rattle.macs_store.specs.Replay.{ceilings_with_records, snapshot_of, snapshot_parts}
use Rattle.macs_store.specs.Snapshot.{channel_records, rx_records, rx_records_of, snapshot, spent_records, tx_records}
use Rattle.macs_store.specs.Standing.{Ceilings, IsStanding, Standing, no_ceilings}
use Rattle.macs_store.proofs.Filling.{among}
use Rattle.macs_store.proofs.Making.{Makes, both, lowered, parts-first}
use Rattle.macs_store.proofs.Sections.{channels-all, rx-all, rx-spent-all, tx-all, tx-spent-all}

-- ---- a configuration is whole, as one that is read from a snapshot has to be

-- a test that what there is passes
passes_some : {A : Type 0} (test : A → Bool) (o : Option A) → ((x : A) → o ≡ Some x → test x ≡ true)
    → option_map_or test o true ≡ true
passes_some test None each = refl
passes_some test (Some x) each = each x refl

-- one that each of the four numbers passes
passes_numbers : (test : ℕ → Bool) → ((an : ℕ) → an < 4 → test an ≡ true) → list_all test every_an ≡ true
passes_numbers test each =
    and_from (test 0) _ (each 0 (omega arith)) (and_from (test 1) _ (each 1 (omega arith))
    (and_from (test 2) _ (each 2 (omega arith)) (and_from (test 3) _ (each 3 (omega arith)) refl)))

-- one that every SCI passes
passes_scis : (test : List ℕ → Bool) (scis : List (List ℕ)) → ((sci : List ℕ) → test sci ≡ true)
    → list_all test scis ≡ true
passes_scis test [] each = refl
passes_scis test (sci ∷ scis) each = and_from (test sci) (list_all test scis) (each sci) (passes_scis test scis each)

encoding_passes : (encoding : Option ℕ) (tx : ℕ → Option TxAssociation) → IfSome encoding (λ an. IsSome (tx an))
    → option_map_or (λ an. is_some (tx an)) encoding true ≡ true
encoding_passes None tx stands = refl
encoding_passes (Some an) tx stands = stands

port_passes : (mode : SciMode) (port : Bool) → (mode ≡ EndStation → port ≡ true)
    → not (is_end_station mode && not port) ≡ true
port_passes Explicit port is = refl
port_passes EndStation true is = refl
port_passes EndStation false is = is refl
port_passes Implicit port is = refl

-- what is checked of the parts of a configuration holds
whole-is : (edition : Edition) (identity : Identity) (c : Config) → IsConfig edition identity c
    → is_whole identity c ≡ true
whole-is edition identity c is =
    let tx = list_all (is_tx_spent c) every_an in
    let rx = list_all (λ (sci : List ℕ). list_all (is_rx_spent c sci) every_an) c.channels in
    let encoding = option_map_or (λ an. is_some (c.tx an)) c.encoding true in
    and_from (tx && rx && encoding) (not (is_end_station c.mode && not (is_port_one identity.sci)))
    (and_from (tx && rx) encoding
    (and_from tx rx
    (passes_numbers (is_tx_spent c) (λ an lt.
    passes_some (λ (sa : TxAssociation). is_spent c.spent_tx (tx_fingerprint sa.key)) (c.tx an)
    (λ sa stands. is.tx_spent an sa lt stands)))
    (passes_scis (λ (sci : List ℕ). list_all (is_rx_spent c sci) every_an) c.channels
    (λ sci. passes_numbers (is_rx_spent c sci) (λ an lt.
    passes_some (λ (sa : RxAssociation). is_spent c.spent_rx (rx_fingerprint sci sa.key)) (c.rx sci an)
    (λ sa stands. is.rx_spent sci an sa lt stands)))))
    (encoding_passes c.encoding c.tx is.encoding_stands))
    (port_passes c.mode (is_port_one identity.sci) is.end_station)

-- ---- the snapshot

-- what two tables that agree on what is there do not have
none_too : {X Y : Type 0} (x : Option X) (y : Option Y) → is_some x ≡ is_some y → y ≡ None → x ≡ None
none_too None y same is = refl
none_too (Some x) None same is = cc
none_too (Some x) (Some y) same is = cc

-- an association needs its channel
without_channel : (o : Option RxAssociation) (among : Bool) → ((sa : RxAssociation) → o ≡ Some sa → among ≡ true)
    → among ≡ false → o ≡ None
without_channel None among stands is = refl
without_channel (Some sa) among stands is = let there = stands sa refl in cc

module _ (s : Standing) (is : IsConfig s.edition s.identity s.config) (stands : IsStanding s)
    (tx_numbers : (an : ℕ) → 4 ≤ an → s.config.tx an ≡ None) (rx_numbers : (sci : List ℕ) (an : ℕ) → 4 ≤ an
    → s.config.rx sci an ≡ None) where
  no_rx : (sci : List ℕ) (an : ℕ) → is_among s.config.channels sci ≡ false → s.config.rx sci an ≡ None
  no_rx sci an absent =
      without_channel (s.config.rx sci an) (is_among s.config.channels sci) (is.rx_channels sci an) absent

  no_tx_ceiling : (an : ℕ) → s.config.tx an ≡ None → s.ceilings.tx an ≡ None
  no_tx_ceiling an = none_too (s.ceilings.tx an) (s.config.tx an) (stands.tx an)

  no_rx_ceiling : (sci : List ℕ) (an : ℕ) → s.config.rx sci an ≡ None → s.ceilings.rx sci an ≡ None
  no_rx_ceiling sci an = none_too (s.ceilings.rx sci an) (s.config.rx sci an) (stands.rx sci an)

  -- the configuration, section by section
  abbrev settled : Config
  settled = record default {
    validate = s.config.validate;
    replay = s.config.replay;
    mode = s.config.mode;
    encoding =
        s.config.encoding;
  }

  abbrev with_tx_side : Config
  with_tx_side = record settled { tx = s.config.tx }

  abbrev with_channels : Config
  with_channels = record with_tx_side { channels = s.config.channels }

  abbrev with_rx_side : Config
  with_rx_side = record with_channels { rx = s.config.rx }

  abbrev with_spent_tx : Config
  with_spent_tx = record with_rx_side { spent_tx = s.config.spent_tx }

  abbrev tx_ceilings : Ceilings
  tx_ceilings = record no_ceilings { tx = s.ceilings.tx }

  sections : Makes s.edition s.identity settled no_ceilings
      (tx_records s.config s.ceilings ++ (channel_records s.config.channels ++ (rx_records s.config s.ceilings
      ++ (spent_records Transmit s.config.spent_tx ++ spent_records Receive s.config.spent_rx)))) s.config
      s.ceilings 2 6
  unfolding tx_records rx_records rx_records_of
  sections =
      both s.edition s.identity settled with_tx_side s.config no_ceilings tx_ceilings s.ceilings _ _ 2 2 6
      (tx-all s.edition s.identity settled no_ceilings s.config.tx s.ceilings.tx stands.tx is.tx_taken tx_numbers
      (λ an past. no_tx_ceiling an (tx_numbers an past)))
      (both s.edition s.identity with_tx_side with_channels s.config tx_ceilings tx_ceilings s.ceilings _ _ 2 3 6
      (lowered s.edition s.identity with_tx_side with_channels tx_ceilings tx_ceilings _ 2 3 3 (omega arith)
      (channels-all s.edition s.identity with_tx_side tx_ceilings s.config.channels is.channels_ascend is.channels_fit
      is.own_sci_free refl))
      (both s.edition s.identity with_channels with_rx_side s.config tx_ceilings s.ceilings s.ceilings _ _ 3 4 6
      (lowered s.edition s.identity with_channels with_rx_side tx_ceilings s.ceilings _ 3 4 4 (omega arith)
      (rx-all s.edition s.identity with_channels tx_ceilings s.config.rx s.ceilings.rx stands.rx is.rx_taken
      is.channels_ascend rx_numbers
      (λ sci an past. no_rx_ceiling sci an (rx_numbers sci an past)) (λ sci absent. fun_ext (λ an. no_rx sci an absent))
      (λ sci absent. fun_ext (λ an. no_rx_ceiling sci an (no_rx sci an absent))) refl refl))
      (both s.edition s.identity with_rx_side with_spent_tx s.config s.ceilings s.ceilings s.ceilings _ _ 4 5 6
      (lowered s.edition s.identity with_rx_side with_spent_tx s.ceilings s.ceilings _ 4 5 5 (omega arith)
      (tx-spent-all s.edition s.identity with_rx_side s.ceilings s.config.spent_tx (is.spent_once Transmit)
      (is.spent_fit Transmit) refl))
      (lowered s.edition s.identity with_spent_tx s.config s.ceilings s.ceilings _ 5 6 6 (omega arith)
      (rx-spent-all s.edition s.identity with_spent_tx s.ceilings s.config.spent_rx (is.spent_once Receive)
      (is.spent_fit Receive) refl)))))

  -- a snapshot of the standing stands for it
  pub snapshot-stands : snapshot_of s.edition s.identity (snapshot s) ≡ Some s
  unfolding snapshot
  snapshot-stands =
      let m = sections in
      let part = part.Settings s.config.validate s.config.replay s.config.mode s.config.encoding in
      let parts : snapshot_parts (snapshot s) ≡ Some (part ∷ m.parts) =
      parts-first (Some part) _ part m.parts refl m.are in
      let ordered : are_ordered 2 m.parts ≡ true =
      subst (λ (ps : List Part). are_ordered 2 ps ≡ true) (append-nil m.parts) (m.ordered [] refl) in
      let made : config_with_parts s.edition s.identity settled m.parts ≡ Some s.config =
      ap (config_with_parts s.edition s.identity settled) (sym (append-nil m.parts)) ∙ m.made [] in
      let whole : config_of_parts s.edition s.identity (part ∷ m.parts) ≡ Some s.config =
      ap (λ (b : Bool).
      cond b (whole_config s.identity (config_with_parts s.edition s.identity settled m.parts)) None) ordered
      ∙ ap (whole_config s.identity) made
      ∙ ap (λ (b : Bool). cond b (Some s.config) None) (whole-is s.edition s.identity s.config is) in
      let standing_with =
      λ (config : Config) (ceilings : Ceilings). record s { config = config; ceilings = ceilings } in
      let held = ceilings_with_records no_ceilings (snapshot s) in
      ap (λ (o : Option (List Part)). option_map (λ (config : Config). standing_with config held)
      (option_and_then (λ ps. config_of_parts s.edition s.identity ps) o)) parts
      ∙ ap (option_map (λ (config : Config). standing_with config held)) whole
      ∙ ap (λ (ceilings : Ceilings). Some (standing_with s.config ceilings)) m.ceilings
