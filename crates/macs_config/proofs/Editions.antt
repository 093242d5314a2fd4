-- Whatever the smaller edition takes the larger takes too.
use Rattle.std.proofs.Common.{◌≡◌, ◌∙◌, ℕ, Bool, true, false, cond, not, ◌&&◌, ◌||◌, ◌==◌, nat_le, nat_lt, List, []}
use Rattle.std.proofs.Common.{◌∷◌, ◌++◌, length, Option, Some, None, is_none, Ok, bytes_eq, map, inl, inr, refl, ap}
use Rattle.std.proofs.Common.{arith}
use Rattle.std.proofs.lemmas.Bool.{and_from, and_parts, leb-false, lt-leb, lt-ltb, ltb-true, not-false, or_right}
use Rattle.macs_aes.specs.Keys.{octets_of_key}
use Rattle.macs_fields.specs.First.{first}
use Rattle.macs_config.specs.Apply.{IsCommand, IsKey, LongKey, Named, Reason, apply, are_channels_full, are_spent_full}
use Rattle.macs_config.specs.Apply.{config_after, has_no_channel, has_wrong_offset, has_wrong_start, is_channel_taken}
use Rattle.macs_config.specs.Apply.{is_in_use, is_key_spent, is_long_key, is_own_sci, is_slot_empty, is_slot_taken}
use Rattle.macs_config.specs.Apply.{is_wrong_end_station, refusal_of}
use Rattle.macs_config.specs.Config.{Config, Edition, IsConfig, IsUpTo, default, has_channel, takes_key}
use Rattle.macs_config.specs.Identity.{Identity}
use Rattle.macs_config.specs.Snapshot.{are_ordered, whole_config, may_follow, place_of, config_of_parts}
use Rattle.macs_config.specs.Snapshot.{config_with_part, config_with_parts}
use Rattle.macs_config.specs.declared.command.Command.{Command}
use Rattle.macs_config.specs.declared.command.Command.TheVariants.{RxAdd, RxDrop, RxInstall, RxRemove, SetReplay}
use Rattle.macs_config.specs.declared.command.Command.TheVariants.{SetSciMode, SetValidate, TxInstall, TxRemove, TxUse}
use Rattle.macs_config.specs.declared.part.Part.{Part}
use Rattle.macs_config.specs.declared.part.Part.TheVariants.{Settings, TxSa, Channel, RxSa, Spent}
use Rattle.macs_config.specs.declared.refusal.Refusal.{Refusal}
use Rattle.macs_config.specs.declared.refusal.Refusal.TheVariants.{ChannelTaken, ChannelsFull, EndStationSci, InUse}
use Rattle.macs_config.specs.declared.refusal.Refusal.TheVariants.{KeySpent, NoChannel, OffsetChoice, OwnSci, SlotEmpty}
use Rattle.macs_config.specs.declared.refusal.Refusal.TheVariants.{SlotTaken, SpentFull, StartRange}
use Rattle.macs_config.proofs.Kept.{applied_by}
use Rattle.macs_config.proofs.Refused.{taken_by}

-- a channel that is refused by no test is refused by none where fewer are full
add_by : (own taken full fuller : Bool) → (full ≡ false → fuller ≡ false)
    → cond own (Some (Named OwnSci))
    (cond taken (Some (Named ChannelTaken)) (cond full (Some (Named ChannelsFull)) None)) ≡ None
    → cond own (Some (Named OwnSci))
    (cond taken (Some (Named ChannelTaken)) (cond fuller (Some (Named ChannelsFull)) None)) ≡ None
add_by true taken full fuller room is = cc
add_by false true full fuller room is = cc
add_by false false true fuller room is = cc
add_by false false false fuller room is = ap (λ (test : Bool). cond test (Some (Named ChannelsFull)) None) (room refl)

-- an install that is refused by no test is refused by none where fewer keys are too long
last_behind : (refusal : Reason) (test : Bool) (others : List (Reason × Bool)) (long longer : Bool)
    → (first (others ++ (LongKey, long) ∷ []) ≡ None → first (others ++ (LongKey, longer) ∷ []) ≡ None)
    → cond test (Some refusal) (first (others ++ (LongKey, long) ∷ [])) ≡ None
    → cond test (Some refusal) (first (others ++ (LongKey, longer) ∷ [])) ≡ None
last_behind refusal true others long longer later is = cc
last_behind refusal false others long longer later is = later is

last_by : (rows : List (Reason × Bool)) (long longer : Bool) → (long ≡ false → longer ≡ false)
    → first (rows ++ (LongKey, long) ∷ []) ≡ None → first (rows ++ (LongKey, longer) ∷ []) ≡ None
last_by [] true longer fewer is = cc
last_by [] false longer fewer is = ap (λ (test : Bool). cond test (Some LongKey) None) (fewer refl)
last_by (row ∷ rows) long longer fewer is = last_behind row.0 row.1 rows long longer (last_by rows long longer fewer) is

-- a long key that is taken where long keys are, and else a short one
taken_by_either : (small large long short : Bool) → (small ≡ true → large ≡ true) → ((small && long) || short) ≡ true
    → ((large && long) || short) ≡ true
taken_by_either true large long short wider is = ap (λ (takes : Bool). (takes && long) || short) (wider refl) ∙ is
taken_by_either false large long short wider is = or_right (large && long) short is

module _ (small large : Edition) (up_to : IsUpTo small large) where
  -- a key that the smaller takes the larger takes
  takes-key : (key : List ℕ) → takes_key small key ≡ true → takes_key large key ≡ true
  takes-key key = taken_by_either small.long_keys large.long_keys (length key == 32) (length key == 16) up_to.long_keys

  not_long : (key : List ℕ) → not (takes_key small key) ≡ false → not (takes_key large key) ≡ false
  not_long key is = ap not (takes-key key (not-false (takes_key small key) is))

  room : (n : ℕ) → nat_le small.channels n ≡ false → nat_le large.channels n ≡ false
  room n is =
      let below = leb-false small.channels n is in
      let wider = up_to.channels in
      lt-leb large.channels n (omega arith)

  not_refused : (identity : Identity) (c : Config) (command : Command) → refusal_of small identity c command ≡ None
      → refusal_of large identity c command ≡ None
  not_refused identity c (SetValidate validate) is = is
  not_refused identity c (SetReplay on window) is = is
  not_refused identity c (SetSciMode mode) is = is
  not_refused identity c (TxInstall an key start confidential offset) is =
      let install = TxInstall an key start confidential offset in
      last_by ((Named StartRange, has_wrong_start install) ∷ (Named OffsetChoice, has_wrong_offset install)
      ∷ (Named SlotTaken, is_slot_taken c install)
      ∷ (Named KeySpent, is_key_spent c install) ∷ (Named SpentFull, are_spent_full c install) ∷ [])
      (is_long_key small install) (is_long_key large install) (not_long (octets_of_key key)) is
  not_refused identity c (TxUse an) is = is
  not_refused identity c (TxRemove an) is = is
  not_refused identity c (RxAdd sci) is =
      add_by (bytes_eq sci identity.sci) (has_channel c sci) (nat_le small.channels (length c.channels))
      (nat_le large.channels (length c.channels))
      (room (length c.channels)) is
  not_refused identity c (RxDrop sci) is = is
  not_refused identity c (RxInstall sci an key start offset) is =
      let install = RxInstall sci an key start offset in
      last_by ((Named StartRange, has_wrong_start install) ∷ (Named OffsetChoice, has_wrong_offset install)
      ∷ (Named NoChannel, has_no_channel c install)
      ∷ (Named SlotTaken, is_slot_taken c install) ∷ (Named KeySpent, is_key_spent c install)
      ∷ (Named SpentFull, are_spent_full c install) ∷ [])
      (is_long_key small install) (is_long_key large install) (not_long (octets_of_key key)) is
  not_refused identity c (RxRemove sci an) is = is

  pub larger-applies : (identity : Identity) (old new : Config) (command : Command)
      → apply small identity old command ≡ Ok new → apply large identity old command ≡ Ok new
  larger-applies identity old new command done =
      let made = applied_by (refusal_of small identity old command) (config_after old command) new done in
      taken_by (refusal_of large identity old command) (config_after old command)
      (not_refused identity old command made.0) ∙ ap (λ (c : Config). Ok c) made.1

  -- ---- snapshots

  follows : (identity : Identity) (c : Config) (part : Part) → may_follow small identity c part ≡ true
      → may_follow large identity c part ≡ true
  follows identity c (Settings validate replay mode encoding) may = may
  follows identity c (TxSa an sa) may =
      let parts = and_parts (is_none (c.tx an)) (takes_key small sa.key) may in
      and_from (is_none (c.tx an)) (takes_key large sa.key) parts.0 (takes-key sa.key parts.1)
  follows identity c (Channel sci) may =
      let free = not (bytes_eq sci identity.sci) && not (has_channel c sci) in
      let parts = and_parts free (nat_lt (length c.channels) small.channels) may in
      let below = ltb-true (length c.channels) small.channels parts.1 in
      let wider = up_to.channels in
      and_from free (nat_lt (length c.channels) large.channels) parts.0
      (lt-ltb (length c.channels) large.channels (omega arith))
  follows identity c (RxSa sci an sa) may =
      let free = has_channel c sci && is_none (c.rx sci an) in
      let parts = and_parts free (takes_key small sa.key) may in
      and_from free (takes_key large sa.key) parts.0 (takes-key sa.key parts.1)
  follows identity c (Spent role fingerprints) may = may

  part_by : (identity : Identity) (c end : Config) (part : Part) (parts : List Part) (by_small by_large : Bool)
      → (by_small ≡ true → by_large ≡ true)
      → (config_with_parts small identity (config_with_part c part) parts ≡ Some end
      → config_with_parts large identity (config_with_part c part) parts ≡ Some end)
      → cond by_small (config_with_parts small identity (config_with_part c part) parts) None ≡ Some end
      → cond by_large (config_with_parts large identity (config_with_part c part) parts) None ≡ Some end
  part_by identity c end part parts true by_large wider later made =
      ap (λ (may : Bool). cond may (config_with_parts large identity (config_with_part c part) parts) None)
      (wider refl) ∙ later made
  part_by identity c end part parts false by_large wider later made = cc

  parts_follow : (identity : Identity) (c end : Config) (parts : List Part)
      → config_with_parts small identity c parts ≡ Some end → config_with_parts large identity c parts ≡ Some end
  parts_follow identity c end [] made = made
  parts_follow identity c end (part ∷ parts) made =
      part_by identity c end part parts (may_follow small identity c part) (may_follow large identity c part)
      (follows identity c part)
      (parts_follow identity (config_with_part c part) end parts) made

  checked_by : (identity : Identity) (by_small by_large : Option Config) (end : Config)
      → ((c : Config) → by_small ≡ Some c → by_large ≡ Some c)
      → whole_config identity by_small ≡ Some end → whole_config identity by_large ≡ Some end
  checked_by identity None by_large end wider is = cc
  checked_by identity (Some c) by_large end wider is = ap (whole_config identity) (wider c refl) ∙ is

  restored_by : (identity : Identity) (part : Part) (parts : List Part) (c : Config) (ordered : Bool)
      → cond ordered (whole_config identity (config_with_parts small identity (config_with_part default part) parts))
      None ≡ Some c
      → cond ordered (whole_config identity (config_with_parts large identity (config_with_part default part) parts))
      None ≡ Some c
  restored_by identity part parts c true made =
      checked_by identity (config_with_parts small identity (config_with_part default part) parts)
      (config_with_parts large identity (config_with_part default part) parts) c
      (λ d. parts_follow identity (config_with_part default part) d parts) made
  restored_by identity part parts c false made = cc

  pub larger-restores : (identity : Identity) (parts : List Part) (c : Config)
      → config_of_parts small identity parts ≡ Some c → config_of_parts large identity parts ≡ Some c
  larger-restores identity [] c made = cc
  larger-restores identity (part ∷ parts) c made =
      restored_by identity part parts c (nat_le (place_of part) 1 && are_ordered 2 parts) made

  -- ---- configurations

  pub larger-has : (identity : Identity) (c : Config) → IsConfig small identity c → IsConfig large identity c
  larger-has identity c is = record {
    encoding_stands = is.encoding_stands;
    end_station = is.end_station;
    channels_ascend = is.channels_ascend;
    channels_fit =
        let fit = is.channels_fit in
        let wider = up_to.channels in
        omega arith;
    own_sci_free = is.own_sci_free;
    rx_channels = is.rx_channels;
    tx_taken = λ an sa stands. takes-key sa.key (is.tx_taken an sa stands);
    rx_taken = λ sci an sa stands. takes-key sa.key (is.rx_taken sci an sa stands);
    tx_spent = is.tx_spent;
    rx_spent = is.rx_spent;
    spent_once = is.spent_once;
    spent_fit = is.spent_fit;
  }

-- ---- an edition that takes long keys

-- a reason behind others is not the first that holds, where its test fails
last-never : (rows : List (Refusal × Bool)) (long : Bool) → long ≡ false
    → ¬ (first (map (λ (row : Refusal × Bool). (Named row.0, row.1)) rows ++ (LongKey, long) ∷ []) ≡ Some LongKey)
last-never [] true fails is = cc
last-never [] false fails is = cc
last-never ((refusal, true) ∷ rows) long fails is = cc
last-never ((refusal, false) ∷ rows) long fails is = last-never rows long fails is

module _ (edition : Edition) (takes : edition.long_keys ≡ true) where
  -- a key of 16 octets or of 32 is taken
  each-key : (key : List ℕ) → IsKey key → not (takes_key edition key) ≡ false
  each-key key (inl short) =
      ap (λ (long : Bool). not ((long && (length key == 32)) || (length key == 16))) takes
      ∙ ap (λ (n : ℕ). not ((n == 32) || (n == 16))) short.size
  each-key key (inr long) =
      ap (λ (long : Bool). not ((long && (length key == 32)) || (length key == 16))) takes
      ∙ ap (λ (n : ℕ). not ((n == 32) || (n == 16))) long.size

  none-long : (command : Command) → IsCommand command → is_long_key edition command ≡ false
  none-long (SetValidate validate) is = refl
  none-long (SetReplay on window) is = refl
  none-long (SetSciMode mode) is = refl
  none-long (TxInstall an key start confidential offset) is = each-key (octets_of_key key) is.1
  none-long (TxUse an) is = refl
  none-long (TxRemove an) is = refl
  none-long (RxAdd sci) is = refl
  none-long (RxDrop sci) is = refl
  none-long (RxInstall sci an key start offset) is = each-key (octets_of_key key) is.2
  none-long (RxRemove sci an) is = refl

  -- none is refused for its length
  pub never-long : (identity : Identity) (c : Config) (command : Command) → IsCommand command
      → ¬ (refusal_of edition identity c command ≡ Some LongKey)
  never-long identity c command is =
      last-never ((StartRange, has_wrong_start command) ∷ (OffsetChoice, has_wrong_offset command)
      ∷ (OwnSci, is_own_sci identity command) ∷ (EndStationSci, is_wrong_end_station identity command)
      ∷ (NoChannel, has_no_channel c command) ∷ (ChannelTaken, is_channel_taken c command)
      ∷ (ChannelsFull, are_channels_full edition c command) ∷ (SlotTaken, is_slot_taken c command)
      ∷ (SlotEmpty, is_slot_empty c command) ∷ (InUse, is_in_use c command) ∷ (KeySpent, is_key_spent c command)
      ∷ (SpentFull, are_spent_full c command) ∷ [])
      (is_long_key edition command)
      (none-long command is)
