-- The lowest number is not above the next one, and no further below it than the window.
use Rattle.std.proofs.Common.{◌≡◌, ◌≤◌, ◌+◌, ◌∙◌, inl, inr, ℕ, refl, sym, ap, subst, arith, List}
use Rattle.std.specs.Prelude.{Option, Some, None}
use Rattle.std.specs.Option.{option_map}
use Rattle.macs_config.specs.Apply.{config_after}
use Rattle.macs_config.specs.Config.{Config, Edition}
use Rattle.macs_config.specs.Tables.{put_at}
use Rattle.macs_config.specs.declared.command.Command.{Command}
use Rattle.macs_config.specs.declared.command.Command.TheVariants.{RxDrop, RxInstall, RxRemove, SetReplay}
use Rattle.macs_rxsc.specs.Receive.{Numbers, first_numbers, numbers_after_delivery, numbers_after_hold}
use Rattle.macs_rxsc.specs.Receive.{numbers_under_window}
use Rattle.macs_headline.proofs.Ledger.{some_one}
use Rattle.macs_headline.proofs.Places.{cases_place, cases_sci, put_at-that, put_at-this, put_rx, put_rx-that}
use Rattle.macs_headline.proofs.Places.{put_rx-this}
use Rattle.macs_headline.proofs.Accepted.{accepted}
use Rattle.macs_headline.proofs.Effects.{Commanded, Core, Effect, Given, Held, NoEffect, Sent, core_after_command}

-- The lowest acceptable number is at most the next one, and no further below it than the window (IEEE Std 802.1AE-2018,
-- 10.6).
abbrev pub IsWithinWindow : ℕ → Numbers → Type 0
IsWithinWindow window n = (n.lowest ≤ n.next) × (n.next ≤ n.lowest + window)

-- that of each association
abbrev pub AreWithinWindow : ℕ → (List ℕ → ℕ → Option Numbers) → Type 0
AreWithinWindow window numbers = (sci : List ℕ) (an : ℕ) (n : Numbers) → numbers sci an ≡ Some n
    → IsWithinWindow window n

abbrev pub IsSoundWindow : Core → Type 0
IsSoundWindow c = AreWithinWindow c.config.replay.window c.numbers

within_put : (window : ℕ) (numbers : List ℕ → ℕ → Option Numbers) (sci : List ℕ) (an : ℕ) (later : Numbers)
    → IsWithinWindow window later
    → AreWithinWindow window numbers → AreWithinWindow window (put_rx numbers sci an (Some later))
within_put window numbers sci an later here are s a n is = elim (cases_place s a sci an) [
  | inl same ↦
      let one : later ≡ n = some_one (put_rx numbers sci an (Some later) s a) later n
      (put_rx-this numbers sci an s a (Some later) same.0 same.1) is in
      subst (λ (n : Numbers). IsWithinWindow window n) one here
  | inr apart ↦ are s a n (sym (put_rx-that numbers sci an s a (Some later) apart) ∙ is)
]

-- another window is set
within_set : (old window : ℕ) (o : Option Numbers) (n : Numbers) → ((m : Numbers) → o ≡ Some m → IsWithinWindow old m)
    → option_map (numbers_under_window window) o ≡ Some n → IsWithinWindow window n
within_set old window None n are is = absurd (cc)
within_set old window (Some m) n are is =
    let one : numbers_under_window window m ≡ n = cc in
    let ordered : m.lowest ≤ m.next = (are m refl).0 in
    subst (λ (n : Numbers). IsWithinWindow window n) one (omega (arith, ordered), omega arith)

by_command : (old : Core) (c : Command) → IsSoundWindow old
    → IsSoundWindow (core_after_command old c (config_after old.config c))
by_command old (SetReplay on window) are =
    λ sci an n is. within_set old.config.replay.window window (old.numbers sci an) n (are sci an) is
by_command old (RxDrop sci) are = λ s a n is. elim (cases_sci s sci) [
  | inl same ↦ let gone : put_at old.numbers sci (λ an. None) s a ≡ None =
      ap (λ (f : ℕ → Option Numbers). f a) (put_at-this old.numbers sci s _ same) in absurd (cc)
  | inr apart ↦ are s a n (sym (ap (λ (f : ℕ → Option Numbers). f a) (put_at-that old.numbers sci s _ apart)) ∙ is)
]
by_command old (RxInstall sci an key start offset) are =
    within_put old.config.replay.window old.numbers sci an (first_numbers start) (omega arith, omega arith) are
by_command old (RxRemove sci an) are = λ s a n is. elim (cases_place s a sci an) [
  | inl same ↦ let gone : put_rx old.numbers sci an None s a ≡ None =
      put_rx-this old.numbers sci an s a None same.0 same.1 in absurd (cc)
  | inr apart ↦ are s a n (sym (put_rx-that old.numbers sci an s a None apart) ∙ is)
]
by_command old c are = are

module _ (edition : Edition) where
  pub window-effect : (old new : Core) → Effect edition old new → IsSoundWindow old → IsSoundWindow new
  window-effect old new (NoEffect same) are = subst IsSoundWindow (sym same) are
  window-effect old new (Commanded c config ok same) are =
      let a = accepted edition old.identity old.config c config ok in
      subst IsSoundWindow (sym (same ∙ ap (λ (config : Config). core_after_command old c config) a.1))
      (by_command old c are)
  window-effect old new (Sent an sa pn is_sa is_pn same) are = subst IsSoundWindow (sym same) are
  window-effect old new (Held sci an n pn is_n same) are =
      let here : IsWithinWindow old.config.replay.window n = are sci an n is_n in
      subst IsSoundWindow (sym same)
      (within_put old.config.replay.window old.numbers sci an (numbers_after_hold n pn) here are)
  window-effect old new (Given sci an sa n pn is_sa is_n in_time same) are =
      let ordered : n.lowest ≤ n.next = (are sci an n is_n).0 in
      subst IsSoundWindow (sym same)
      (within_put old.config.replay.window old.numbers sci an (numbers_after_delivery old.config.replay.window n pn)
      (omega (arith, ordered), omega arith) are)
