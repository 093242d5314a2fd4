-- What it says of a command that it is accepted.
use Rattle.std.proofs.Common.{◌≡◌, ℕ, Bool, true, false, cond, bytes_eq, List, [], ◌∷◌, ◌++◌, Option, Some, None, Ok}
use Rattle.std.proofs.Common.{is_ok, refl, sym, ◌∙◌}
use Rattle.std.proofs.lemmas.Bool.{false≢true, or_left}
use Rattle.macs_aes.specs.Keys.{octets_of_key}
use Rattle.macs_aes.specs.declared.keys.Key.{Key}
use Rattle.macs_fields.specs.First.{first}
use Rattle.macs_config.specs.Apply.{Reason, answer_or_refusal, apply, config_after, has_wrong_offset, has_wrong_start}
use Rattle.macs_config.specs.Apply.{is_slot_taken, is_wrong_end_station, offset_at, offset_or_zero, refusal_of}
use Rattle.macs_config.specs.Apply.{refusals}
use Rattle.macs_config.specs.Association.{protection_of}
use Rattle.macs_config.specs.Config.{Config, Edition, is_spent, rx_fingerprint, tx_fingerprint}
use Rattle.macs_config.specs.Identity.{Identity}
use Rattle.macs_config.specs.declared.association.TxSa.{TxSa}
use Rattle.macs_config.specs.declared.command.Command.{Command}
use Rattle.macs_config.specs.declared.command.Command.TheVariants.{RxInstall, TxInstall}
use Rattle.macs_config.proofs.Channels.{bytes_eq-itself}
use Rattle.macs_config.proofs.Kept.{applied_by}
use Rattle.macs_config.proofs.Spent.{among-behind}

-- none of these tests holds
abbrev pub NoTest : {R : Type 0} → List (R × Bool) → Type 0
NoTest [] = Unit {0}
NoTest (row ∷ rows) = (row.1 ≡ false) × NoTest rows

no_test_by : {R : Type 0} (refusal : R) (test : Bool) (rows : List (R × Bool)) → (first rows ≡ None → NoTest rows)
    → cond test (Some refusal) (first rows) ≡ None → (test ≡ false) × NoTest rows
no_test_by refusal true rows later is = absurd (cc)
no_test_by refusal false rows later is = (refl, later is)

pub no-test : {R : Type 0} (rows : List (R × Bool)) → first rows ≡ None → NoTest rows
no-test [] is = tt
no-test (row ∷ rows) is = no_test_by row.0 row.1 rows (no-test rows) is

-- it is not refused, and makes this of the configuration
pub accepted : (edition : Edition) (identity : Identity) (c : Config) (command : Command) (new : Config)
    → apply edition identity c command ≡ Ok new
    → (refusal_of edition identity c command ≡ None) × (new ≡ config_after c command)
accepted edition identity c command new is =
    let made = applied_by (refusal_of edition identity c command) (config_after c command) new is in
    (made.0, sym made.1)

accepted_by : (why : Option Reason) (config : Config) → is_ok (answer_or_refusal why config) ≡ true → why ≡ None
accepted_by None config is = refl
accepted_by (Some refusal) config is = absurd (cc)

-- no reason holds to refuse it
pub no-refusal : (edition : Edition) (identity : Identity) (c : Config) (command : Command)
    → is_ok (apply edition identity c command) ≡ true
    → refusal_of edition identity c command ≡ None
no-refusal edition identity c command is =
    accepted_by (refusal_of edition identity c command) (config_after c command) is

module _ (edition : Edition) (identity : Identity) (c : Config) (command : Command)
    (is : refusal_of edition identity c command ≡ None) where
  tests : NoTest (refusals edition identity c command)
  tests = no-test (refusals edition identity c command) is

  -- an association does not begin with packet number 0
  pub right-start : has_wrong_start command ≡ false
  right-start = tests.0

  -- the offset of an install is one of 0, 30 and 50, and 0 without confidentiality
  pub right-offset : has_wrong_offset command ≡ false
  right-offset = tests.1.0

  -- the mode of an end station is set only where the port is 00-01
  pub right-mode : is_wrong_end_station identity command ≡ false
  right-mode = tests.1.1.1.0

  -- the place of an install is free
  pub free-slot : is_slot_taken c command ≡ false
  free-slot = tests.1.1.1.1.1.1.1.0

-- the transmit association that an install asks for
abbrev pub tx_of : Key → Bool → ℕ → TxSa
tx_of key confidential offset =
    record { key = octets_of_key key; protection = protection_of confidential (offset_or_zero (offset_at offset)) }

-- the key of an install was not spent on its side
pub tx-unspent : (edition : Edition) (identity : Identity) (c : Config) (an : ℕ) (key : Key) (start : ℕ)
    (confidential : Bool) (offset : ℕ)
    → refusal_of edition identity c (TxInstall an key start confidential offset) ≡ None
    → ¬ (is_spent c.spent_tx (tx_fingerprint (octets_of_key key)) ≡ true)
tx-unspent edition identity c an key start confidential offset is here =
    let none : NoTest (refusals edition identity c (TxInstall an key start confidential offset)) =
    no-test (refusals edition identity c (TxInstall an key start confidential offset)) is in
    false≢true (sym none.1.1.1.1.1.1.1.1.1.1.0 ∙ here)

pub rx-unspent : (edition : Edition) (identity : Identity) (c : Config) (sci : List ℕ) (an : ℕ) (key : Key)
    (start offset : ℕ)
    → refusal_of edition identity c (RxInstall sci an key start offset) ≡ None
    → ¬ (is_spent c.spent_rx (rx_fingerprint sci (octets_of_key key)) ≡ true)
rx-unspent edition identity c sci an key start offset is here =
    let none : NoTest (refusals edition identity c (RxInstall sci an key start offset)) =
    no-test (refusals edition identity c (RxInstall sci an key start offset)) is in
    false≢true (sym none.1.1.1.1.1.1.1.1.1.1.0 ∙ here)

-- and is spent then
pub spent-pushed : (spent : List (List ℕ)) (print : List ℕ) → is_spent (spent ++ print ∷ []) print ≡ true
spent-pushed spent print =
    among-behind spent (print ∷ []) print (or_left (bytes_eq print print) false (bytes_eq-itself print))
