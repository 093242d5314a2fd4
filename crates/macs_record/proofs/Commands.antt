-- Commands that install, as records.
use Rattle.std.proofs.Common.{◌≡◌, ◌↔◌, ◌==◌, ◌∙◌, ◌||◌, ◌&&◌, ◌<◌, ℕ, Bool, true, false, not, if◌then◌else◌, List}
use Rattle.std.proofs.Common.{Option, Some, None, is_none, refl, sym, ap, arith}
use Rattle.std.proofs.lemmas.Bool.{eq-eqb, ne_eqb}
use Rattle.macs_fields.specs.Fields.{octets_of}
use Rattle.macs_fields.specs.declared.fields.Offset.{Offset}
use Rattle.macs_fields.specs.declared.fields.Offset.TheVariants.{Zero, Thirty, Fifty}
use Rattle.macs_config.specs.Apply.{has_wrong_offset, has_wrong_start, offset_or_zero, offset_at}
use Rattle.macs_aes.specs.Keys.{octets_of_key}
use Rattle.macs_aes.specs.declared.keys.Key.{Key}
use Rattle.macs_config.specs.Association.{is_confidential, offset_of, protection_of}
use Rattle.macs_config.specs.declared.association.Protection.{Protection}
use Rattle.macs_config.specs.declared.association.Protection.TheVariants.{Confidentiality, Integrity}
use Rattle.macs_config.specs.Judged.{IsJudged, asked_by, judged_of, judged_of-asked_by}
use Rattle.macs_config.specs.declared.checked.Judged.{Judged}
use Rattle.macs_config.specs.declared.command.Command.{Command}
use Rattle.macs_config.specs.declared.command.Command.TheVariants as command
use Rattle.macs_record.specs.Commands.{record_judged, record_of, record_of_accepted}
use Rattle.macs_record.specs.declared.record.Record.{Record}
use Rattle.macs_record.specs.declared.record.Record.TheVariants.{RxInstall, TxInstall}

-- what a start that is no packet number, and one that is, say of the test
pub start_zero : (start : ℕ) → (0 < start → ⊥) → (start == 0) ≡ true
start_zero start is = eq-eqb start 0 (omega arith)

pub start_more : (start : ℕ) → 0 < start → (start == 0) ≡ false
start_more start is = ne_eqb start 0 (λ e. omega arith)

refused : {X : Type 0} (zero : Bool) (x : X) → None ≡ (if zero || true then None else Some x)
refused false x = refl
refused true x = refl

-- ---- what the protection says

abbrev is_wrong : Bool → ℕ → Bool
is_wrong confidential octets = not confidential && not (octets == 0)

abbrev Says : Option Protection → Bool → Offset → Type 0
Says result confidential offset =
    (protection : Protection)
    → (result ≡ Some protection) ↔ ((confidential ≡ is_confidential protection) × (offset ≡ offset_of protection))

protection_is : (confidential : Bool) (offset : Offset) (result made : Option Protection) → made ≡ result
    → Says result confidential offset
    → result ≡ (if is_wrong confidential (octets_of offset) then None else Some (protection_of confidential offset))
protection_is true offset result made is says = (says (Confidentiality offset)).1 (refl, refl)
protection_is false Zero result made is says = (says Integrity).1 (refl, refl)
protection_is false Thirty result None is says = sym is
protection_is false Thirty result (Some Integrity) is says = let said = (says Integrity).0 (sym is) in
    let e = said.1 in cc
protection_is false Thirty result (Some (Confidentiality offset)) is says = let said =
    (says (Confidentiality offset)).0 (sym is) in let e = said.0 in cc
protection_is false Fifty result None is says = sym is
protection_is false Fifty result (Some Integrity) is says = let said = (says Integrity).0 (sym is) in
    let e = said.1 in cc
protection_is false Fifty result (Some (Confidentiality offset)) is says = let said =
    (says (Confidentiality offset)).0 (sym is) in let e = said.0 in cc

wrong_if_none : {X : Type 0} (wrong : Bool) (x : X) → None ≡ (if wrong then None else Some x) → wrong ≡ true
wrong_if_none false x e = cc
wrong_if_none true x e = refl

right_if_some : {X : Type 0} (wrong : Bool) (p x : X) → Some p ≡ (if wrong then None else Some x)
    → (wrong ≡ false) × (p ≡ x)
right_if_some false p x e = (refl, cc)
right_if_some true p x e = cc

-- ---- transmit associations

module _ (an : ℕ) (key : Key) (start : ℕ) (confidential : Bool) (octets : ℕ) where
  abbrev tx_asked : Option Record
  tx_asked = record_of (command.TxInstall an key start confidential octets)

  tx_value : (o : Option Offset) (zero wrong : Bool) → offset_at octets ≡ o → (start == 0) ≡ zero
      → is_wrong confidential octets ≡ wrong
      → tx_asked ≡ (if zero || (is_none o || wrong) then None
      else Some (TxInstall an
      (record { key = octets_of_key key; protection = protection_of confidential (offset_or_zero o) }) start))
  tx_value o zero wrong e z w =
      λ i. if z i || (is_none (e i) || w i) then None else Some (TxInstall an
      (record { key = octets_of_key key; protection = protection_of confidential (offset_or_zero (e i)) }) start)

  pub tx_no_offset : None ≡ offset_at octets → None ≡ tx_asked
  tx_no_offset e = refused (start == 0) _
      ∙ sym (tx_value None (start == 0) (is_wrong confidential octets) (sym e) refl refl)

  pub tx_no_start : (start == 0) ≡ true → None ≡ tx_asked
  tx_no_start z = sym (tx_value (offset_at octets) true (is_wrong confidential octets) refl z refl)

  module _ (offset : Offset) (e : Some offset ≡ offset_at octets) (same : octets ≡ octets_of offset) where
    pub tx_no_protection : Says None confidential offset → None ≡ tx_asked
    tx_no_protection says =
        let wrong = ap (is_wrong confidential) same
        ∙ wrong_if_none _ _ (protection_is confidential offset None None refl says) in
        refused (start == 0) _ ∙ sym (tx_value (Some offset) (start == 0) true (sym e) refl wrong)

    module _ (p : Protection) (says : Says (Some p) confidential offset) (z : (start == 0) ≡ false) where
      right : (is_wrong confidential octets ≡ false) × (p ≡ protection_of confidential offset)
      right =
          let here = right_if_some _ _ _ (protection_is confidential offset (Some p) (Some p) refl says) in
          (ap (is_wrong confidential) same ∙ here.0, here.1)

      pub tx_record : (octets_of : List ℕ) → octets_of ≡ octets_of_key key
          → Some (TxInstall an (record { key = octets_of; protection = p }) start) ≡ tx_asked
      tx_record octets_of k =
          (λ i. Some (TxInstall an (record { key = k i; protection = right.1 i }) start))
          ∙ sym (tx_value (Some offset) false false (sym e) z right.0)

-- ---- receive associations

module _ (sci : List ℕ) (an : ℕ) (key : Key) (start octets : ℕ) where
  abbrev rx_asked : Option Record
  rx_asked = record_of (command.RxInstall sci an key start octets)

  rx_value : (o : Option Offset) (zero : Bool) → offset_at octets ≡ o → (start == 0) ≡ zero
      → rx_asked ≡ (if zero || is_none o then None
      else Some (RxInstall sci an (record { key = octets_of_key key; offset = offset_or_zero o }) start))
  rx_value o zero e z =
      λ i. if z i || is_none (e i) then None
      else Some (RxInstall sci an (record { key = octets_of_key key; offset = offset_or_zero (e i) }) start)

  pub rx_no_offset : None ≡ offset_at octets → None ≡ rx_asked
  rx_no_offset e = refused (start == 0) _ ∙ sym (rx_value None (start == 0) (sym e) refl)

  pub rx_no_start : (start == 0) ≡ true → None ≡ rx_asked
  rx_no_start z = sym (rx_value (offset_at octets) true refl z)

  module _ (offset : Offset) (e : Some offset ≡ offset_at octets) (z : (start == 0) ≡ false) where
    pub rx_record : (octets_of : List ℕ) → octets_of ≡ octets_of_key key
        → Some (RxInstall sci an (record { key = octets_of; offset = offset }) start) ≡ rx_asked
    rx_record octets_of k = (λ i. Some (RxInstall sci an (record { key = k i; offset = offset }) start))
        ∙ sym (rx_value (Some offset) false (sym e) z)

-- ---- commands that were judged

recorded-as : (asked : Command) → record_of_accepted asked ≡ record_judged (judged_of asked)
recorded-as (command.SetValidate validate) = refl
recorded-as (command.SetReplay on window) = refl
recorded-as (command.SetSciMode mode) = refl
recorded-as (command.TxInstall an key start confidential offset) = refl
recorded-as (command.TxUse an) = refl
recorded-as (command.TxRemove an) = refl
recorded-as (command.RxAdd sci) = refl
recorded-as (command.RxDrop sci) = refl
recorded-as (command.RxInstall sci an key start offset) = refl
recorded-as (command.RxRemove sci an) = refl

right-recorded : (start offset : Bool) (r : Record) → start ≡ false → offset ≡ false
    → Some r ≡ (if start || offset then None else Some r)
right-recorded start offset r s o = sym (λ i. if s i || o i then None else Some r)

-- what was judged has the record of its command
pub judged-recorded : (j : Judged) → IsJudged j → Some (record_judged j) ≡ record_of (asked_by j)
judged-recorded j is =
    ap (λ (j : Judged). Some (record_judged j)) (sym (judged_of-asked_by j is))
    ∙ ap (λ (r : Record). Some r) (sym (recorded-as (asked_by j)))
    ∙ right-recorded (has_wrong_start (asked_by j)) (has_wrong_offset (asked_by j))
    (record_of_accepted (asked_by j)) is.1 is.2
