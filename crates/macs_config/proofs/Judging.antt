-- What the check of a command judges, and what it makes of a configuration.
use Rattle.std.proofs.Common.{◌≡◌, ◌==◌, ◌∙◌, ◌↔◌, ◌⊎◌, if◌then◌else◌, [], ◌∷◌, ◌||◌, ◌&&◌, ◌<◌, ℕ, List, Bool, true}
use Rattle.std.proofs.Common.{false, not, nat_le, length, Option, Some, None, is_none, is_some, Result, Ok, Err, refl}
use Rattle.std.proofs.Common.{sym, ap, arith, inl, inr}
use Rattle.std.proofs.lemmas.Bool.{ne_eqb}
use Rattle.macs_aes.specs.Keys.{HasItsLength, key_of_octets, key_of_octets-octets_of_key, octets_of_key}
use Rattle.macs_aes.specs.declared.keys.Key.{Key}
use Rattle.macs_fields.specs.Fields.{octets_of}
use Rattle.macs_fields.specs.First.{first}
use Rattle.macs_fields.specs.declared.fields.Offset.{Offset}
use Rattle.macs_fields.specs.declared.fields.Offset.TheVariants.{Zero, Thirty, Fifty}
use Rattle.macs_config.specs.Apply.{LongKey, Named, Reason, answer_or_refusal, config_after, offset_at, refusal_of}
use Rattle.macs_config.specs.Association.{is_confidential, offset_of}
use Rattle.macs_config.specs.Config.{Config, has_channel, is_spent, max_spent, rx_fingerprint, takes_key, this_edition}
use Rattle.macs_config.specs.Config.{tx_fingerprint}
use Rattle.macs_config.specs.Identity.{Identity}
use Rattle.macs_config.specs.Judged.{IsJudged, asked_by, config_changed, judged_of, judged_of-asked_by, octets-back}
use Rattle.macs_config.specs.Judged.{rx_install, tx_install}
use Rattle.macs_config.specs.declared.association.Protection.{Protection}
use Rattle.macs_config.specs.declared.association.RxSa.{RxSa}
use Rattle.macs_config.specs.declared.association.TxSa.{TxSa}
use Rattle.macs_config.specs.declared.association.Protection.TheVariants.{Confidentiality, Integrity}
use Rattle.macs_config.specs.declared.checked.Judged.{Judged}
use Rattle.macs_config.specs.declared.checked.Judged.TheVariants as judged
use Rattle.macs_config.specs.declared.command.Command.{Command}
use Rattle.macs_config.specs.declared.command.Command.TheVariants.{SetValidate, SetReplay, SetSciMode, TxInstall, TxUse}
use Rattle.macs_config.specs.declared.command.Command.TheVariants.{TxRemove, RxAdd, RxDrop, RxInstall, RxRemove}
use Rattle.macs_config.specs.declared.refusal.Refusal.{Refusal}
use Rattle.macs_config.specs.declared.refusal.Refusal.TheVariants.{StartRange, OffsetChoice, OwnSci, EndStationSci}
use Rattle.macs_config.specs.declared.refusal.Refusal.TheVariants.{NoChannel, ChannelTaken, ChannelsFull, SlotTaken}
use Rattle.macs_config.specs.declared.refusal.Refusal.TheVariants.{SlotEmpty, InUse, KeySpent, SpentFull}

-- ---- what it makes of a configuration

changed-after : (c : Config) (command : Command) → config_after c command ≡ config_changed c (judged_of command)
changed-after c (SetValidate validate) = refl
changed-after c (SetReplay on window) = refl
changed-after c (SetSciMode mode) = refl
changed-after c (TxInstall an key start confidential offset) = refl
changed-after c (TxUse an) = refl
changed-after c (TxRemove an) = refl
changed-after c (RxAdd sci) = refl
changed-after c (RxDrop sci) = refl
changed-after c (RxInstall sci an key start offset) = refl
changed-after c (RxRemove sci an) = refl

-- the change by what was judged is that of the command
pub changed-is : (c : Config) (j : Judged) → IsJudged j → config_changed c j ≡ config_after c (asked_by j)
changed-is c j is = sym (changed-after c (asked_by j) ∙ ap (config_changed c) (judged_of-asked_by j is))

-- ---- what is read

pub a-start : (start : ℕ) → 0 < start → (start == 0) ≡ false
a-start start is = ne_eqb start 0 (λ e. omega arith)

-- an offset is a choice with confidentiality, and 0 without
abbrev is_wrong : Bool → ℕ → Bool
is_wrong confidential octets = not confidential && not (octets == 0)

no-protection-of : (confidential : Bool) (offset : Offset)
    → ((p : Protection) → (None ≡ Some p) ↔ ((confidential ≡ is_confidential p) × (offset ≡ offset_of p)))
    → is_wrong confidential (octets_of offset) ≡ true
no-protection-of true offset none = let e = (none (Confidentiality offset)).1 (refl, refl) in cc
no-protection-of false Zero none = let e = (none Integrity).1 (refl, refl) in cc
no-protection-of false Thirty none = refl
no-protection-of false Fifty none = refl

pub right-offset : (offset : Offset) → is_none (offset_at (octets_of offset)) ≡ false
right-offset Zero = refl
right-offset Thirty = refl
right-offset Fifty = refl

pub right-protection : (p : Protection)
    → (is_none (offset_at (octets_of (offset_of p))) || is_wrong (is_confidential p) (octets_of (offset_of p))) ≡ false
right-protection Integrity = refl
right-protection (Confidentiality Zero) = refl
right-protection (Confidentiality Thirty) = refl
right-protection (Confidentiality Fifty) = refl

module _ (confidential : Bool) (octets : ℕ) where
  -- no offset has so many octets
  pub no-offset : None ≡ offset_at octets → (is_none (offset_at octets) || is_wrong confidential octets) ≡ true
  no-offset is = sym (ap (λ (o : Option Offset). is_none o || is_wrong confidential octets) is)

  module _ (offset : Offset) (is : octets ≡ octets_of offset) where
    chosen : (is_none (offset_at octets) || is_wrong confidential octets) ≡ is_wrong confidential (octets_of offset)
    chosen =
        ap (λ (n : ℕ). is_none (offset_at n) || is_wrong confidential n) is
        ∙ ap (λ (none : Bool). none || is_wrong confidential (octets_of offset)) (right-offset offset)

    pub no-protection : ((p : Protection)
        → (None ≡ Some p) ↔ ((confidential ≡ is_confidential p) × (offset ≡ offset_of p)))
        → (is_none (offset_at octets) || is_wrong confidential octets) ≡ true
    no-protection none = chosen ∙ no-protection-of confidential offset none

-- ---- what is answered

-- what a key is refused as
abbrev pub key_refused : Bool → Bool → Option Refusal
key_refused spent full = if spent then Some KeySpent else if full then Some SpentFull else None

-- a key has one of the two lengths, and both are taken
pub each-taken : (key : List ℕ) → (length key ≡ 16) ⊎ (length key ≡ 32) → takes_key this_edition key ≡ true
each-taken key (inl short) = ap (λ (n : ℕ). (n == 32) || (n == 16)) short
each-taken key (inr long) = ap (λ (n : ℕ). (n == 32) || (n == 16)) long

module _ (command : Command) where
  -- what a check answers by the tests that an install can fail
  abbrev answer_by : Bool → Bool → Bool → Bool → Bool → Bool → Bool → Result Command Reason
  answer_by start offset none taken spent full long = answer_or_refusal (first (
      (Named StartRange, start) ∷ (Named OffsetChoice, offset) ∷ (Named OwnSci, false) ∷ (Named EndStationSci, false)
      ∷ (Named NoChannel, none) ∷ (Named ChannelTaken, false)
      ∷ (Named ChannelsFull, false) ∷ (Named SlotTaken, taken) ∷ (Named SlotEmpty, false) ∷ (Named InUse, false)
      ∷ (Named KeySpent, spent) ∷ (Named SpentFull, full) ∷ (LongKey, long) ∷ [])) command

  refused-as : (spent full long : Bool) (refusal : Refusal) → Some refusal ≡ key_refused spent full
      → Err (Named refusal) ≡ answer_by false false false false spent full long
  refused-as true full long refusal is =
      ap (λ (r : Refusal). Err (Named r)) (let same : refusal ≡ KeySpent = cc in same)
  refused-as false true long refusal is =
      ap (λ (r : Refusal). Err (Named r)) (let same : refusal ≡ SpentFull = cc in same)
  refused-as false false long refusal is = cc

  taken-as : (spent full long : Bool) → long ≡ false → None ≡ key_refused spent full
      → Ok command ≡ answer_by false false false false spent full long
  taken-as true full long short is = cc
  taken-as false true long short is = cc
  taken-as false false true short is = cc
  taken-as false false false short is = refl

  module _ (start offset none taken spent full long : Bool) where
    by-start : start ≡ true → Err (Named StartRange) ≡ answer_by start offset none taken spent full long
    by-start is = sym (λ i. answer_by (is i) offset none taken spent full long)

    module _ (above : start ≡ false) where
      by-offset : offset ≡ true → Err (Named OffsetChoice) ≡ answer_by start offset none taken spent full long
      by-offset is = sym (λ i. answer_by (above i) (is i) none taken spent full long)

      module _ (right : offset ≡ false) where
        by-channel : none ≡ true → Err (Named NoChannel) ≡ answer_by start offset none taken spent full long
        by-channel is = sym (λ i. answer_by (above i) (right i) (is i) taken spent full long)

        module _ (there : none ≡ false) where
          by-slot : taken ≡ true → Err (Named SlotTaken) ≡ answer_by start offset none taken spent full long
          by-slot is = sym (λ i. answer_by (above i) (right i) (there i) (is i) spent full long)

          module _ (free : taken ≡ false) where
            all-pass : answer_by false false false false spent full long
                ≡ answer_by start offset none taken spent full long
            all-pass = sym (λ i. answer_by (above i) (right i) (there i) (free i) spent full long)

            by-key : (refusal : Refusal) → Some refusal ≡ key_refused spent full
                → Err (Named refusal) ≡ answer_by start offset none taken spent full long
            by-key refusal is = refused-as spent full long refusal is ∙ all-pass

            by-none : long ≡ false → None ≡ key_refused spent full
                → Ok command ≡ answer_by start offset none taken spent full long
            by-none short is = taken-as spent full long short is ∙ all-pass

-- the key that is made of octets that are taken is none that is too long
key-taken : (octets : List ℕ) → takes_key this_edition octets ≡ true
    → not (takes_key this_edition (octets_of_key (key_of_octets octets))) ≡ false
key-taken octets taken = ap (λ (key : List ℕ). not (takes_key this_edition key)) (octets-back octets) ∙ ap not taken

-- ---- a transmit install

module _ (identity : Identity) (c : Config) (an : ℕ) (key : Key) (start : ℕ) (confidential : Bool) (octets : ℕ) where
  abbrev tx_asked : Command
  tx_asked = TxInstall an key start confidential octets

  abbrev tx_wrong : Bool
  tx_wrong = is_none (offset_at octets) || (not confidential && not (octets == 0))

  abbrev tx_spent : Bool
  tx_spent = is_spent c.spent_tx (tx_fingerprint (octets_of_key key))

  abbrev tx_full : Bool
  tx_full = nat_le max_spent (length c.spent_tx)

  abbrev tx_long : Bool
  tx_long = not (takes_key this_edition (octets_of_key key))

  abbrev tx_answer : Result Command Reason
  tx_answer = answer_or_refusal (refusal_of this_edition identity c tx_asked) tx_asked

  pub tx-no-start : (start == 0) ≡ true → Err (Named StartRange) ≡ tx_answer
  tx-no-start = by-start tx_asked (start == 0) tx_wrong false (is_some (c.tx an)) tx_spent tx_full tx_long

  module _ (above : (start == 0) ≡ false) where
    pub tx-no-offset : tx_wrong ≡ true → Err (Named OffsetChoice) ≡ tx_answer
    tx-no-offset = by-offset tx_asked (start == 0) tx_wrong false (is_some (c.tx an)) tx_spent tx_full tx_long above

    module _ (right : tx_wrong ≡ false) where
      pub tx-no-slot : is_some (c.tx an) ≡ true → Err (Named SlotTaken) ≡ tx_answer
      tx-no-slot =
          by-slot tx_asked (start == 0) tx_wrong false (is_some (c.tx an)) tx_spent tx_full tx_long above right refl

      module _ (free : is_some (c.tx an) ≡ false) where
        pub tx-no-key : (refusal : Refusal) → Some refusal ≡ key_refused tx_spent tx_full
            → Err (Named refusal) ≡ tx_answer
        tx-no-key = by-key tx_asked (start == 0) tx_wrong false (is_some (c.tx an)) tx_spent tx_full tx_long above
            right refl free

        pub tx-passes : tx_long ≡ false → None ≡ key_refused tx_spent tx_full → Ok tx_asked ≡ tx_answer
        tx-passes = by-none tx_asked (start == 0) tx_wrong false (is_some (c.tx an)) tx_spent tx_full tx_long above
            right refl free

module _ (an : ℕ) (sa : TxSa) (start : ℕ) where
  -- what was judged of it
  pub tx-judged : (fingerprint : List ℕ) → 0 < start → fingerprint ≡ tx_fingerprint sa.key
      → IsJudged (judged.TxInstall an sa start fingerprint)
  tx-judged fingerprint above is = (
    ap Some (is ∙ ap tx_fingerprint (sym (octets-back sa.key))),
    a-start start above,
    right-protection sa.protection,
  )

  -- its key is taken
  pub tx-short : (length sa.key ≡ 16) ⊎ (length sa.key ≡ 32)
      → not (takes_key this_edition (octets_of_key (key_of_octets sa.key))) ≡ false
  tx-short size = key-taken sa.key (each-taken sa.key size)

  -- the command that asked for it
  pub tx-asked : (key : Key) → HasItsLength key → (from : ℕ) (confidential : Bool) (octets : ℕ)
      → sa.key ≡ octets_of_key key → start ≡ from
      → confidential ≡ is_confidential sa.protection → octets ≡ octets_of (offset_of sa.protection)
      → tx_install an sa start ≡ TxInstall an key from confidential octets
  tx-asked key size from confidential octets of first hidden clear =
      let back = ap key_of_octets of ∙ key_of_octets-octets_of_key key size in
      λ i. TxInstall an (back i) (first i) (sym hidden i) (sym clear i)

-- ---- a receive install

module _ (identity : Identity) (c : Config) (sci : List ℕ) (an : ℕ) (key : Key) (start octets : ℕ) where
  abbrev rx_asked : Command
  rx_asked = RxInstall sci an key start octets

  abbrev rx_spent : Bool
  rx_spent = is_spent c.spent_rx (rx_fingerprint sci (octets_of_key key))

  abbrev rx_full : Bool
  rx_full = nat_le max_spent (length c.spent_rx)

  abbrev rx_long : Bool
  rx_long = not (takes_key this_edition (octets_of_key key))

  abbrev rx_none : Bool
  rx_none = not (has_channel c sci)

  abbrev rx_answer : Result Command Reason
  rx_answer = answer_or_refusal (refusal_of this_edition identity c rx_asked) rx_asked

  pub rx-no-start : (start == 0) ≡ true → Err (Named StartRange) ≡ rx_answer
  rx-no-start = by-start rx_asked (start == 0) (is_none (offset_at octets)) rx_none (is_some (c.rx sci an)) rx_spent
      rx_full rx_long

  module _ (above : (start == 0) ≡ false) where
    pub rx-no-offset : is_none (offset_at octets) ≡ true → Err (Named OffsetChoice) ≡ rx_answer
    rx-no-offset = by-offset rx_asked (start == 0) (is_none (offset_at octets)) rx_none (is_some (c.rx sci an)) rx_spent
        rx_full rx_long above

    module _ (right : is_none (offset_at octets) ≡ false) where
      pub rx-no-channel : rx_none ≡ true → Err (Named NoChannel) ≡ rx_answer
      rx-no-channel = by-channel rx_asked (start == 0) (is_none (offset_at octets)) rx_none (is_some (c.rx sci an))
          rx_spent rx_full rx_long above right

      module _ (there : rx_none ≡ false) where
        pub rx-no-slot : is_some (c.rx sci an) ≡ true → Err (Named SlotTaken) ≡ rx_answer
        rx-no-slot = by-slot rx_asked (start == 0) (is_none (offset_at octets)) rx_none (is_some (c.rx sci an)) rx_spent
            rx_full rx_long above right there

        module _ (free : is_some (c.rx sci an) ≡ false) where
          pub rx-no-key : (refusal : Refusal) → Some refusal ≡ key_refused rx_spent rx_full
              → Err (Named refusal) ≡ rx_answer
          rx-no-key = by-key rx_asked (start == 0) (is_none (offset_at octets)) rx_none (is_some (c.rx sci an)) rx_spent
              rx_full rx_long above right there free

          pub rx-passes : rx_long ≡ false → None ≡ key_refused rx_spent rx_full → Ok rx_asked ≡ rx_answer
          rx-passes = by-none rx_asked (start == 0) (is_none (offset_at octets)) rx_none (is_some (c.rx sci an))
              rx_spent rx_full rx_long above right there free

module _ (sci : List ℕ) (an : ℕ) (sa : RxSa) (start : ℕ) where
  -- what was judged of it
  pub rx-judged : (fingerprint : List ℕ) → 0 < start → fingerprint ≡ rx_fingerprint sci sa.key
      → IsJudged (judged.RxInstall sci an sa start fingerprint)
  rx-judged fingerprint above is = (
    ap Some (is ∙ ap (rx_fingerprint sci) (sym (octets-back sa.key))),
    a-start start above,
    right-offset sa.offset,
  )

  -- its key is taken
  pub rx-short : (length sa.key ≡ 16) ⊎ (length sa.key ≡ 32)
      → not (takes_key this_edition (octets_of_key (key_of_octets sa.key))) ≡ false
  rx-short size = key-taken sa.key (each-taken sa.key size)

  -- the command that asked for it
  pub rx-asked : (key : Key) → HasItsLength key → (from octets : ℕ) → sa.key ≡ octets_of_key key → start ≡ from
      → octets ≡ octets_of sa.offset
      → rx_install sci an sa start ≡ RxInstall sci an key from octets
  rx-asked key size from octets of first clear =
      let back = ap key_of_octets of ∙ key_of_octets-octets_of_key key size in
      λ i. RxInstall sci an (back i) (first i) (sym clear i)
