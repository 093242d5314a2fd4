-- The channels follow a command that is accepted: what installing an association asks then holds, and they become those
-- of the standing after it.
use Rattle.std.proofs.Common.{◌≡◌, ◌∙◌, ◌≤◌, ◌^◌, ◌⊎◌, inl, inr, ℕ, Bool, List, Option, Some, None, is_some, IsSome}
use Rattle.std.proofs.Common.{IfSome, Result, Ok, Err, refl, ap, sym, subst, arith}
use Rattle.std.specs.Option.{option_map}
use Rattle.std.proofs.Math.Nat.{max-eq_left}
use Rattle.std.proofs.Math.Path.{fun_ext}
use Rattle.macs_aes.specs.Keys.{octets_of_key}
use Rattle.macs_aes.specs.declared.keys.Key.{Key}
use Rattle.macs_fields.specs.declared.fields.Offset.{Offset}
use Rattle.macs_config.specs.Apply.{Reason, apply, config_after, offset_or_zero, offset_at, refusal_of}
use Rattle.macs_config.specs.Association.{is_confidential, offset_of, protection_of}
use Rattle.macs_config.specs.Config.{Config}
use Rattle.macs_config.specs.Tables.{put, put_at}
use Rattle.macs_config.specs.declared.association.Protection.{Protection}
use Rattle.macs_config.specs.declared.association.Protection.TheVariants.{Confidentiality, Integrity}
use Rattle.macs_config.specs.declared.association.RxSa.{RxSa}
use Rattle.macs_config.specs.declared.association.TxSa.{TxSa}
use Rattle.macs_config.specs.declared.command.Command.{Command}
use Rattle.macs_config.specs.declared.command.Command.TheVariants.{RxInstall, SetReplay, SetValidate, TxInstall}
use Rattle.macs_config.specs.declared.command.Replay.{Replay}
use Rattle.macs_config.specs.declared.command.Validate.{Validate}
use Rattle.macs_config.proofs.Kept.{applied_by}
use Rattle.macs_config.proofs.Tables.{put-here, put_rx-here}
use Rattle.macs_txsc.specs.Transmit.{TxSide}
use Rattle.macs_txsc.specs.Value as txsc
use Rattle.macs_txsc.specs.declared.channel.Tx.{Tx}
use Rattle.macs_rxsc.specs.Receive.{AreOrdered, Numbers, RxSide, IsNumbered, put_numbers, first_numbers}
use Rattle.macs_rxsc.specs.Receive.{numbers_under_window}
use Rattle.macs_rxsc.specs.Value as rxsc
use Rattle.macs_config.specs.Numbers.{block_beyond}
use Rattle.macs_store.specs.Standing.{Standing, accept, standing_or_refusal, ceilings_after}
use Rattle.macs_endpoint.specs.Value.{AreChannels}
use Rattle.macs_endpoint.specs.State.{rx_side_with, tx_side_with}
use Rattle.macs_endpoint.specs.Step.{numbers_after}

-- ---- a command that is accepted

-- the standing after it
abbrev with_config : Standing → Command → Config → Standing
with_config s command config = record s { config = config; ceilings = ceilings_after s.identity command s.ceilings }

abbrev made : Standing → Command → Standing
made s command = with_config s command (config_after s.config command)

accepted_by : (s : Standing) (command : Command) (outcome : Result Config Reason) (after : Standing)
    → standing_or_refusal s command outcome ≡ Ok after
    → (config : Config) × (outcome ≡ Ok config) × (with_config s command config ≡ after)
accepted_by s command (Ok config) after is = (config, refl, cc)
accepted_by s command (Err refusal) after is = cc

made-is : (s : Standing) (command : Command) (after : Standing) → accept s command ≡ Ok after → made s command ≡ after
made-is s command after done =
    let by_config = accepted_by s command (apply s.edition s.identity s.config command) after done in
    let by_tests = applied_by (refusal_of s.edition s.identity s.config command) (config_after s.config command)
    by_config.0 by_config.1 in
    ap (with_config s command) by_tests.1 ∙ by_config.2

-- ---- the same window

same_numbers : (window : ℕ) (sa : Option RxSa) (n : Option Numbers) (ceiling : Option ℕ)
    → IsNumbered window sa n ceiling → option_map (numbers_under_window window) n ≡ n
same_numbers window sa None ceiling stands = refl
same_numbers window None (Some n) None stands = absurd stands
same_numbers window None (Some n) (Some ceiling) stands = absurd stands
same_numbers window (Some sa) (Some n) None stands = absurd stands
same_numbers window (Some sa) (Some n) (Some ceiling) stands =
    ap (λ (lowest : ℕ). Some (record n { lowest = lowest })) (max-eq_left stands.windowed)

-- under another window
abbrev all_windowed : (List ℕ → ℕ → Option Numbers) → ℕ → List ℕ → ℕ → Option Numbers
all_windowed numbers window sci an = option_map (numbers_under_window window) (numbers sci an)

pub window-same : (side new : RxSide) (ceilings : List ℕ → ℕ → Option ℕ) (validate : Validate) (replay : Replay)
    → ((sci : List ℕ) (an : ℕ) → AreOrdered side ceilings sci an)
    → new ≡ record side { validate = validate; replay = replay; numbers = all_windowed side.numbers replay.window }
    → side.replay.window ≡ replay.window → new.numbers ≡ side.numbers
window-same side new ceilings validate replay ordered is same =
    ap (λ (r : RxSide). r.numbers) is ∙ ap (all_windowed side.numbers) (sym same)
    ∙ fun_ext (λ sci. fun_ext (λ an.
    same_numbers side.replay.window (side.rx sci an) (side.numbers sci an) (ceilings sci an) (ordered sci an)))

-- ---- associations from a store

protection_made : (protection : Protection)
    → protection_of (is_confidential protection) (offset_of protection) ≡ protection
protection_made Integrity = refl
protection_made (Confidentiality offset) = refl

-- a side with an association installed
abbrev pub with_tx : TxSide → ℕ → ℕ → Option TxSa → TxSide
with_tx side an start sa = record side { tx = put side.tx an sa; next = put side.next an (Some start) }

abbrev pub with_rx : RxSide → List ℕ → ℕ → ℕ → Option RxSa → RxSide
with_rx side sci an start sa = record side {
  rx = put_at side.rx sci (put (side.rx sci) an sa);
  numbers = put_numbers side.numbers sci an (Some (first_numbers start));
}

abbrev protected_so : List ℕ → Protection → Option TxSa
protected_so key protection = Some (record { key = key; protection = protection })

-- the association that is installed is the one that was found
pub tx_made : (sa : TxSa) (key : List ℕ) (confidential : Bool) (offset : Offset) (found stands : Option TxSa)
    → key ≡ sa.key
    → confidential ≡ is_confidential sa.protection
    → offset ≡ offset_of sa.protection → found ≡ Some sa → found ≡ stands
    → Some (record { key = key; protection = protection_of confidential offset }) ≡ stands
tx_made sa key confidential offset found stands alike secret from is same =
    ap (λ (k : List ℕ). protected_so k (protection_of confidential offset)) alike
    ∙ ap (λ (b : Bool). protected_so sa.key (protection_of b offset)) secret
    ∙ ap (λ (o : Offset). protected_so sa.key (protection_of (is_confidential sa.protection) o)) from
    ∙ ap (protected_so sa.key) (protection_made sa.protection) ∙ sym is ∙ same

abbrev keyed_so : RxSa → List ℕ → Option RxSa
keyed_so sa key = Some (record { key = key; offset = sa.offset })

pub rx_made : (sa : RxSa) (key : List ℕ) (found stands : Option RxSa) → key ≡ sa.key → found ≡ Some sa → found ≡ stands
    → Some (record { key = key; offset = sa.offset }) ≡ stands
rx_made sa key found stands alike is same = ap (keyed_so sa) alike ∙ sym is ∙ same

-- ---- sides that follow

module _ (before after : Standing) (tx : Tx) (rx : rxsc.RxValue) (are : AreChannels tx rx before) where
  abbrev Accepts : Command → Type 0
  Accepts command = accept before command ≡ Ok after

  -- what the transmit side becomes
  tx_follows : (command : Command) (tx' : Tx) (f : TxSide → TxSide) → txsc.tx_side_of tx' ≡ f (txsc.tx_side_of tx)
      → ((next : ℕ → Option ℕ) → f (tx_side_with before.identity before.config next)
      ≡ tx_side_with (made before command).identity (made before command).config
      (f (tx_side_with before.identity before.config next)).next)
      → txsc.tx_side_of tx'
      ≡ tx_side_with (made before command).identity (made before command).config (txsc.tx_side_of tx').next
  tx_follows command tx' f is fits =
      let side = is ∙ ap f are.tx_is in
      side ∙ fits (txsc.tx_side_of tx).next
      ∙ ap (λ (t : TxSide). tx_side_with (made before command).identity (made before command).config t.next) (sym side)

  -- and the receive side
  rx_follows : (command : Command) (rx' : rxsc.RxValue) (f : RxSide → RxSide)
      → rxsc.rx_side_of rx' ≡ f (rxsc.rx_side_of rx)
      → ((numbers : List ℕ → ℕ → Option Numbers) → f (rx_side_with before.config numbers)
      ≡ rx_side_with (made before command).config (f (rx_side_with before.config numbers)).numbers)
      → rxsc.rx_side_of rx' ≡ rx_side_with (made before command).config (rxsc.rx_side_of rx').numbers
  rx_follows command rx' f is fits =
      let side = is ∙ ap f are.rx_is in
      side ∙ fits (rxsc.rx_side_of rx).numbers
      ∙ ap (λ (r : RxSide). rx_side_with (made before command).config r.numbers) (sym side)

  -- the window stays where it is not set
  window-kept : (validate : Validate) → Accepts (SetValidate validate)
      → (rxsc.rx_side_of rx).replay.window ≡ after.config.replay.window
  window-kept validate done =
      ap (λ (r : RxSide). r.replay.window) are.rx_is
      ∙ ap (λ (s : Standing). s.config.replay.window) (made-is before (SetValidate validate) after done)

  -- a policy that is set
  pub numbers-after : (command : Command) → Accepts command → (numbers : List ℕ → ℕ → Option Numbers)
      → ((validate : Validate) × (command ≡ SetValidate validate))
      ⊎ ((on : Bool) × (window : ℕ) × (command ≡ SetReplay on window))
      → numbers ≡ all_windowed (rxsc.rx_side_of rx).numbers after.config.replay.window
      → ((rxsc.rx_side_of rx).replay.window ≡ after.config.replay.window → numbers ≡ (rxsc.rx_side_of rx).numbers)
      → numbers ≡ numbers_after command (rxsc.rx_side_of rx).numbers
  numbers-after command done numbers (inl set) is same =
      let done' = subst (λ (x : Command). accept before x ≡ Ok after) set.1 done in
      same (window-kept set.0 done') ∙ ap (λ (x : Command). numbers_after x (rxsc.rx_side_of rx).numbers) (sym set.1)
  numbers-after command done numbers (inr set) is same =
      let done' = subst (λ (x : Command). accept before x ≡ Ok after) set.2 done in
      is ∙ ap (λ (s : Standing). all_windowed (rxsc.rx_side_of rx).numbers s.config.replay.window)
      (sym (made-is before (SetReplay set.0 set.1) after done'))
      ∙ ap (λ (x : Command). numbers_after x (rxsc.rx_side_of rx).numbers) (sym set.2)

  -- ---- an association is installed

  module _ (an : ℕ) (key : Key) (start : ℕ) (confidential : Bool) (offset : ℕ)
      (done : Accepts (TxInstall an key start confidential offset)) where
    abbrev tx_install : Command
    tx_install = TxInstall an key start confidential offset

    abbrev tx_sa : TxSa
    tx_sa =
        record { key = octets_of_key key; protection = protection_of confidential (offset_or_zero (offset_at offset)) }

    tx_found : after.config.tx an ≡ Some tx_sa
    tx_found = ap (λ (s : Standing). s.config.tx an) (sym (made-is before tx_install after done))
        ∙ put-here before.config.tx an (Some tx_sa)

    tx_ceiling : after.ceilings.tx an ≡ Some (block_beyond start before.identity.tx_block)
    tx_ceiling =
        ap (λ (s : Standing). s.ceilings.tx an) (sym (made-is before tx_install after done))
        ∙ put-here before.ceilings.tx an (Some (block_beyond start before.identity.tx_block))

    pub tx-stands : IsSome (after.config.tx an)
    tx-stands = ap is_some tx_found

    pub tx-ordered : (next : ℕ) → next ≡ start → start ≤ 2 ^ 32
        → IfSome (after.ceilings.tx an) (λ ceiling. next ≤ ceiling)
    tx-ordered next is small =
        let below : next ≤ block_beyond start before.identity.tx_block = omega arith in
        subst (λ (o : Option ℕ). IfSome o (λ ceiling. next ≤ ceiling)) (sym tx_ceiling) below

    pub tx-installed : (next : ℕ) (tx' : Tx)
        → txsc.tx_side_of tx' ≡ with_tx (txsc.tx_side_of tx) an next (after.config.tx an)
        → txsc.ceilings_of tx' ≡ put (txsc.ceilings_of tx) an (after.ceilings.tx an) → AreChannels tx' rx after
    tx-installed next tx' side ceilings =
        subst (λ (s : Standing). AreChannels tx' rx s) (made-is before tx_install after done) (record {
          tx_is = tx_follows tx_install tx' (λ t. with_tx t an next (Some tx_sa))
              (side ∙ ap (with_tx (txsc.tx_side_of tx) an next) tx_found) (λ n. refl);
          rx_is = are.rx_is;
          tx_ceilings = ceilings ∙ ap (put (txsc.ceilings_of tx) an) tx_ceiling
              ∙ ap (λ (f : ℕ → Option ℕ). put f an (Some (block_beyond start before.identity.tx_block)))
              are.tx_ceilings;
          rx_ceilings = are.rx_ceilings;
        })

  module _ (sci : List ℕ) (an : ℕ) (key : Key) (start offset : ℕ)
      (done : Accepts (RxInstall sci an key start offset)) where
    abbrev rx_install : Command
    rx_install = RxInstall sci an key start offset

    abbrev rx_sa : RxSa
    rx_sa = record { key = octets_of_key key; offset = offset_or_zero (offset_at offset) }

    rx_found : after.config.rx sci an ≡ Some rx_sa
    rx_found =
        ap (λ (s : Standing). s.config.rx sci an) (sym (made-is before rx_install after done))
        ∙ put_rx-here before.config.rx sci an (Some rx_sa)

    rx_ceiling : after.ceilings.rx sci an ≡ Some start
    rx_ceiling =
        ap (λ (s : Standing). s.ceilings.rx sci an) (sym (made-is before rx_install after done))
        ∙ put_rx-here before.ceilings.rx sci an (Some start)

    pub rx-stands : IsSome (after.config.rx sci an)
    rx-stands = ap is_some rx_found

    pub rx-ordered : (next : ℕ) → next ≡ start → IfSome (after.ceilings.rx sci an) (λ ceiling. next ≤ ceiling)
    rx-ordered next is =
        let below : next ≤ start = omega arith in
        subst (λ (o : Option ℕ). IfSome o (λ ceiling. next ≤ ceiling)) (sym rx_ceiling) below

    pub rx-installed : (next : ℕ) (rx' : rxsc.RxValue)
        → rxsc.rx_side_of rx' ≡ with_rx (rxsc.rx_side_of rx) sci an next (after.config.rx sci an)
        → rxsc.ceilings_of rx' ≡ put_at (rxsc.ceilings_of rx) sci
        (put (rxsc.ceilings_of rx sci) an (after.ceilings.rx sci an)) → AreChannels tx rx' after
    rx-installed next rx' side ceilings =
        let table = λ (f : List ℕ → ℕ → Option ℕ) (ceiling : Option ℕ). put_at f sci (put (f sci) an ceiling) in
        subst (λ (s : Standing). AreChannels tx rx' s) (made-is before rx_install after done) (record {
          tx_is = are.tx_is;
          rx_is = rx_follows rx_install rx' (λ r. with_rx r sci an next (Some rx_sa))
              (side ∙ ap (with_rx (rxsc.rx_side_of rx) sci an next) rx_found) (λ n. refl);
          tx_ceilings = are.tx_ceilings;
          rx_ceilings = ceilings ∙ ap (table (rxsc.ceilings_of rx)) rx_ceiling
              ∙ ap (λ (f : List ℕ → ℕ → Option ℕ). table f (Some start)) are.rx_ceilings;
        })
