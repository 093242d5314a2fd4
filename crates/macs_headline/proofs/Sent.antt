-- The transmit side: no packet number twice under a key.
use Rattle.std.proofs.Common.{◌≡◌, ◌≢◌, ◌<◌, ◌+◌, inl, inr, ℕ, refl, sym, ◌∙◌, ap, subst, arith, List, [], ◌∷◌}
use Rattle.std.specs.Prelude.{AllPairs, Contains, Option, Some, None}
use Rattle.std.proofs.lemmas.Bool.{cases_eq}
use Rattle.macs_aes.specs.Keys.{octets_of_key}
use Rattle.macs_config.specs.Apply.{config_after, refusal_of}
use Rattle.macs_config.specs.Config.{Config, Edition, tx_fingerprint}
use Rattle.macs_config.specs.Tables.{put}
use Rattle.macs_config.specs.declared.association.TxSa.{TxSa}
use Rattle.macs_config.specs.declared.command.Command.{Command}
use Rattle.macs_config.specs.declared.command.Command.TheVariants.{TxInstall, TxRemove}
use Rattle.macs_config.proofs.Spent.{among-before}
use Rattle.macs_endpoint.specs.State.{Use}
use Rattle.macs_headline.proofs.Lists.{contains-cases, none-twice}
use Rattle.macs_headline.proofs.Ledger.{IsLedger, ledger-installed, ledger-kept, ledger-logged, some_one}
use Rattle.macs_headline.proofs.Places.{put-that, put-this}
use Rattle.macs_headline.proofs.Accepted.{accepted, spent-pushed, tx-unspent}
use Rattle.macs_headline.proofs.Effects.{Commanded, Core, Effect, Given, Held, NoEffect, Sent, core_after_command}
use Rattle.macs_headline.proofs.Effects.{core_after_frame, use_of}

abbrev pub key_of : Option TxSa → Option (List ℕ)
key_of None = None
key_of (Some sa) = Some sa.key

-- the keys of associations, by AN
abbrev pub tx_keys : (ℕ → Option TxSa) → ℕ → Option (List ℕ)
tx_keys tx an = key_of (tx an)

-- this number was used under this key
abbrev pub IsUsed : List Use → List ℕ → ℕ → Type 0
IsUsed used key pn = Contains used (use_of key pn)

pub record IsSoundTx (c : Core) : Type 0 where
  pub apart : AllPairs {X = Use} (λ a b. a ≢ b) c.used
  pub ledger : IsLedger tx_fingerprint (tx_keys c.config.tx) c.config.spent_tx c.next (IsUsed c.used)

module _ (edition : Edition) where
  by_command : (old : Core) (c : Command) → refusal_of edition old.identity old.config c ≡ None → IsSoundTx old
      → IsSoundTx (core_after_command old c (config_after old.config c))
  by_command old (TxInstall an key start confidential offset) ok is = record {
    apart = is.apart;
    ledger = ledger-installed tx_fingerprint (tx_keys old.config.tx) _ old.config.spent_tx _ old.next _
        (IsUsed old.used) an (octets_of_key key) start
        (tx-unspent edition old.identity old.config an key start confidential offset ok)
        (λ print here. among-before old.config.spent_tx (tx_fingerprint (octets_of_key key) ∷ []) print here)
        (spent-pushed old.config.spent_tx (tx_fingerprint (octets_of_key key)))
        (λ p. elim (cases_eq p an) [
          | inl same ↦ inl (same, ap key_of (put-this old.config.tx an p _ same), put-this old.next an p _ same)
          | inr apart ↦ inr (ap key_of (put-that old.config.tx an p _ apart), put-that old.next an p _ apart)
        ])
        is.ledger;
  }
  by_command old (TxRemove an) ok is =
      let gone : (p : ℕ) → p ≡ an
      → key_of (put old.config.tx an None p) ≡ None = λ p same. ap key_of (put-this old.config.tx an p None same) in
      record {
        apart = is.apart;
        ledger = ledger-kept tx_fingerprint (tx_keys old.config.tx) (tx_keys (put old.config.tx an None))
            old.config.spent_tx old.config.spent_tx
            old.next (put old.next an None) (IsUsed old.used)
            (λ p k has. elim (cases_eq p an) [
              | inl same ↦ let none = gone p same in absurd (cc)
              | inr apart ↦ sym (ap key_of (put-that old.config.tx an p None apart)) ∙ has
            ])
            (λ print here. here)
            (λ p k m has before. elim (cases_eq p an) [
              | inl same ↦ let none = gone p same in absurd (cc)
              | inr apart ↦ (m, put-that old.next an p None apart ∙ before, omega arith)
            ])
            is.ledger;
      }
  by_command old c ok is = record { apart = is.apart; ledger = is.ledger }

  by_frame : (old : Core) (an : ℕ) (sa : TxSa) (pn : ℕ) → old.config.tx an ≡ Some sa → old.next an ≡ Some pn
      → IsSoundTx old
      → IsSoundTx (core_after_frame old an sa pn)
  by_frame old an sa pn is_sa is_pn is =
      let keys = tx_keys old.config.tx in
      let later = put old.next an (Some (pn + 1)) in
      let is_key : keys an ≡ Some sa.key = ap key_of is_sa in
      let raised =
      ledger-kept tx_fingerprint keys keys old.config.spent_tx old.config.spent_tx old.next later (IsUsed old.used)
      (λ p k has. has)
      (λ print here. here)
      (λ p k m has before. elim (cases_eq p an) [
        | inl same ↦
            let there : old.next an ≡ Some m = ap old.next (sym same) ∙ before in
            let is_m : m ≡ pn = some_one (old.next an) m pn there is_pn in
            (pn + 1, put-this old.next an p _ same, omega (arith, is_m))
        | inr apart ↦ (m, put-that old.next an p _ apart ∙ before, omega arith)
      ])
      is.ledger in
      let here = is.ledger.below an sa.key is_key in
      record {
        apart = none-twice (use_of sa.key pn) old.used
            (λ was.
            let low : pn < here.0 = here.2 pn was in
            let is_m : here.0 ≡ pn = some_one (old.next an) here.0 pn here.1 is_pn in
            omega (arith, low, is_m))
            is.apart;
        ledger = ledger-logged tx_fingerprint keys old.config.spent_tx later (IsUsed old.used)
            (IsUsed (use_of sa.key pn ∷ old.used)) an sa.key pn (pn + 1)
            is_key (put-this old.next an an _ refl) (omega arith)
            (λ k i used. elim (contains-cases (use_of sa.key pn) old.used (use_of k i) used) [
              | inl now ↦ inl (ap (λ (u : Use). u.key) now, ap (λ (u : Use). u.pn) now)
              | inr earlier ↦ inr earlier
            ])
            raised;
      }

  pub tx-effect : (old new : Core) → Effect edition old new → IsSoundTx old → IsSoundTx new
  tx-effect old new (NoEffect same) is = subst IsSoundTx (sym same) is
  tx-effect old new (Commanded c config ok same) is =
      let a = accepted edition old.identity old.config c config ok in
      subst IsSoundTx (sym (same ∙ ap (λ (config : Config). core_after_command old c config) a.1))
      (by_command old c a.0 is)
  tx-effect old new (Sent an sa pn is_sa is_pn same) is =
      subst IsSoundTx (sym same) (by_frame old an sa pn is_sa is_pn is)
  tx-effect old new (Held sci an n pn is_n same) is =
      subst IsSoundTx (sym same) (record { apart = is.apart; ledger = is.ledger })
  tx-effect old new (Given sci an sa n pn is_sa is_n in_time same) is =
      subst IsSoundTx (sym same) (record { apart = is.apart; ledger = is.ledger })
