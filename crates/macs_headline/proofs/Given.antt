-- The receive side: what was delivered is below the numbers of its association.
use Rattle.std.proofs.Common.{◌≡◌, ◌≤◌, inl, inr, ℕ, refl, sym, ◌∙◌, ap, subst, arith, List, [], ◌∷◌}
use Rattle.std.specs.Prelude.{Contains, Option, Some, None}
use Rattle.std.specs.Option.{option_map}
use Rattle.macs_aes.specs.Keys.{octets_of_key}
use Rattle.macs_config.specs.Apply.{config_after, offset_at, offset_or_zero, refusal_of}
use Rattle.macs_config.specs.Config.{Config, Edition, rx_fingerprint}
use Rattle.macs_config.specs.Tables.{put_at}
use Rattle.macs_config.specs.declared.association.RxSa.{RxSa}
use Rattle.macs_config.specs.declared.command.Command.{Command}
use Rattle.macs_config.specs.declared.command.Command.TheVariants.{RxDrop, RxInstall, RxRemove, SetReplay}
use Rattle.macs_config.proofs.Spent.{among-before}
use Rattle.macs_rxsc.specs.Receive.{Numbers, delivery_kind, first_numbers, numbers_after_delivery, numbers_after_hold}
use Rattle.macs_rxsc.specs.Receive.{numbers_under_window}
use Rattle.macs_rxsc.specs.declared.verdict.Kind.{Kind}
use Rattle.macs_endpoint.specs.State.{Delivery}
use Rattle.macs_headline.proofs.Lists.{contains-cases}
use Rattle.macs_headline.proofs.Ledger.{IsLedger, ledger-installed, ledger-kept, ledger-logged, some_one}
use Rattle.macs_headline.proofs.Places.{cases_place, cases_sci, put_at-that, put_at-this, put_rx, put_rx-that}
use Rattle.macs_headline.proofs.Places.{put_rx-this}
use Rattle.macs_headline.proofs.Accepted.{accepted, rx-unspent, spent-pushed}
use Rattle.macs_headline.proofs.Effects.{Commanded, Core, Effect, Given, Held, NoEffect, Sent, core_after_command}
use Rattle.macs_headline.proofs.Effects.{core_after_delivery}

-- ---- associations by SCI and number

-- the SCI and the key of an association
abbrev pub pair_of : List ℕ → Option RxSa → Option (List ℕ × List ℕ)
pair_of sci None = None
pair_of sci (Some sa) = Some (sci, sa.key)

abbrev pub print_of : List ℕ × List ℕ → List ℕ
print_of k = rx_fingerprint k.0 k.1

abbrev pub rx_keys : (List ℕ → ℕ → Option RxSa) → List ℕ × ℕ → Option (List ℕ × List ℕ)
rx_keys rx p = pair_of p.0 (rx p.0 p.1)

-- a bound on the numbers of each association
abbrev pub rx_bounds : (Numbers → ℕ) → (List ℕ → ℕ → Option Numbers) → List ℕ × ℕ → Option ℕ
rx_bounds b numbers p = option_map b (numbers p.0 p.1)

-- this number was delivered under this SCI and key
abbrev pub IsGiven : List Delivery → List ℕ × List ℕ → ℕ → Type 0
IsGiven given k pn = (kind : Kind) × Contains given (record { sci = k.0; key = k.1; pn = pn; kind = kind })

-- the receive side by one of its bounds, with a log
abbrev pub IsRxLedger : (Numbers → ℕ) → (List ℕ × List ℕ → ℕ → Type 0) → Core → Type 0
IsRxLedger b log c = IsLedger print_of (rx_keys c.config.rx) c.config.spent_rx (rx_bounds b c.numbers) log

-- ---- bounds

-- a bound that begins with the association, and never falls while it exists
pub record IsBound (b : Numbers → ℕ) : Type 0 where
  pub begins : (start : ℕ) → b (first_numbers start) ≡ start
  pub under_window : (window : ℕ) (n : Numbers) → b n ≤ b (numbers_under_window window n)
  pub after_hold : (n : Numbers) (pn : ℕ) → b n ≤ b (numbers_after_hold n pn)
  pub after_delivery : (window : ℕ) (n : Numbers) (pn : ℕ) → b n ≤ b (numbers_after_delivery window n pn)

pub next-bound : IsBound (λ n. n.next)
next-bound = record {
  begins = λ start. refl;
  under_window = λ window n. omega arith;
  after_hold = λ n pn. omega arith;
  after_delivery = λ window n pn. omega arith;
}

pub lowest-bound : IsBound (λ n. n.lowest)
lowest-bound = record {
  begins = λ start. refl;
  under_window = λ window n. omega arith;
  after_hold = λ n pn. omega arith;
  after_delivery = λ window n pn. omega arith;
}

lifted : (b : Numbers → ℕ) (f : Numbers → Numbers) → ((n : Numbers) → b n ≤ b (f n)) → (o : Option Numbers) (m : ℕ)
    → option_map b o ≡ Some m
    → (l : ℕ) × (option_map b (option_map f o) ≡ Some l) × (m ≤ l)
lifted b f up None m is = absurd (cc)
lifted b f up (Some n) m is =
    let same : b n ≡ m = cc in
    let higher : b n ≤ b (f n) = up n in
    (b (f n), refl, omega (arith, same, higher))

same_place : (p : List ℕ × ℕ) (sci : List ℕ) (an : ℕ) → p.0 ≡ sci → p.1 ≡ an → p ≡ (sci, an)
same_place p sci an is same = λ i. (is i, same i)

-- numbers of one association change, and its bound does not fall
rises : (b : Numbers → ℕ) (log : List ℕ × List ℕ → ℕ → Type 0) (c : Core) (sci : List ℕ) (an : ℕ) (n later : Numbers)
    → c.numbers sci an ≡ Some n → b n ≤ b later
    → IsRxLedger b log c → IsLedger print_of (rx_keys c.config.rx) c.config.spent_rx
    (rx_bounds b (put_rx c.numbers sci an (Some later))) log
rises b log c sci an n later is_n up is =
    ledger-kept print_of (rx_keys c.config.rx) (rx_keys c.config.rx) c.config.spent_rx c.config.spent_rx
    (rx_bounds b c.numbers) (rx_bounds b (put_rx c.numbers sci an (Some later))) log
    (λ p k has. has)
    (λ print here. here)
    (λ p k m has before. elim (cases_place p.0 p.1 sci an) [
      | inl same ↦
          let there : c.numbers p.0 p.1 ≡ c.numbers sci an = (λ i. c.numbers (same.0 i) (same.1 i)) in
          let is_m : m ≡ b n =
          some_one (option_map b (c.numbers p.0 p.1)) m (b n) before (ap (option_map b) (there ∙ is_n)) in (
            b later,
            ap (option_map b) (put_rx-this c.numbers sci an p.0 p.1 (Some later) same.0 same.1),
            omega (arith, is_m, up),
          )
      | inr apart ↦
          (m, ap (option_map b) (put_rx-that c.numbers sci an p.0 p.1 (Some later) apart) ∙ before, omega arith)
    ])
    is

-- ---- with a log that stays

module _ (edition : Edition) (b : Numbers → ℕ) (is_b : IsBound b) (log : List ℕ × List ℕ → ℕ → Type 0) where
  by_command : (old : Core) (c : Command) → refusal_of edition old.identity old.config c ≡ None → IsRxLedger b log old
      → IsRxLedger b log (core_after_command old c (config_after old.config c))
  by_command old (SetReplay on window) ok is =
      ledger-kept print_of (rx_keys old.config.rx) (rx_keys old.config.rx) old.config.spent_rx old.config.spent_rx
      (rx_bounds b old.numbers)
      (rx_bounds b (λ sci an. option_map (numbers_under_window window) (old.numbers sci an))) log
      (λ p k has. has)
      (λ print here. here)
      (λ p k m has before.
      lifted b (numbers_under_window window) (is_b.under_window window) (old.numbers p.0 p.1) m before)
      is
  by_command old (RxDrop sci) ok is =
      let later = put_at old.config.rx sci (λ an. None) in
      let gone : (p : List ℕ × ℕ) → p.0 ≡ sci → rx_keys later p ≡ None =
      λ p same. ap (λ (f : ℕ → Option RxSa). pair_of p.0 (f p.1)) (put_at-this old.config.rx sci p.0 _ same) in
      ledger-kept print_of (rx_keys old.config.rx) (rx_keys later) old.config.spent_rx old.config.spent_rx
      (rx_bounds b old.numbers) (rx_bounds b (put_at old.numbers sci (λ an. None))) log
      (λ p k has. elim (cases_sci p.0 sci) [
        | inl same ↦ let none = gone p same in absurd (cc)
        | inr apart ↦
            sym (ap (λ (f : ℕ → Option RxSa). pair_of p.0 (f p.1)) (put_at-that old.config.rx sci p.0 _ apart)) ∙ has
      ])
      (λ print here. here)
      (λ p k m has before. elim (cases_sci p.0 sci) [
        | inl same ↦ let none = gone p same in absurd (cc)
        | inr apart ↦ (
          m,
          ap (λ (f : ℕ → Option Numbers). option_map b (f p.1))
              (put_at-that old.numbers sci p.0 _ apart) ∙ before,
          omega arith,
        )
      ])
      is
  by_command old (RxInstall sci an key start offset) ok is =
      let octets = octets_of_key key in
      let sa : RxSa = record { key = octets; offset = offset_or_zero (offset_at offset) } in
      ledger-installed print_of (rx_keys old.config.rx) (rx_keys (put_rx old.config.rx sci an (Some sa)))
      old.config.spent_rx _
      (rx_bounds b old.numbers) (rx_bounds b (put_rx old.numbers sci an (Some (first_numbers start)))) log (sci, an)
      (sci, octets) start
      (rx-unspent edition old.identity old.config sci an key start offset ok)
      (λ print here. among-before old.config.spent_rx (rx_fingerprint sci octets ∷ []) print here)
      (spent-pushed old.config.spent_rx (rx_fingerprint sci octets))
      (λ p. elim (cases_place p.0 p.1 sci an) [
        | inl same ↦ inl (
          same_place p sci an same.0 same.1,
          ap (pair_of p.0) (put_rx-this old.config.rx sci an p.0 p.1 (Some sa) same.0 same.1)
              ∙ ap (λ (s : List ℕ). Some (s, octets)) same.0,
          ap (option_map b) (put_rx-this old.numbers sci an p.0 p.1 (Some (first_numbers start)) same.0 same.1)
              ∙ ap Some (is_b.begins start),
        )
        | inr apart ↦ inr (
          ap (pair_of p.0) (put_rx-that old.config.rx sci an p.0 p.1 (Some sa) apart),
          ap (option_map b) (put_rx-that old.numbers sci an p.0 p.1 (Some (first_numbers start)) apart),
        )
      ])
      is
  by_command old (RxRemove sci an) ok is =
      let later = put_rx old.config.rx sci an None in
      let gone : (p : List ℕ × ℕ) → p.0 ≡ sci → p.1 ≡ an → rx_keys later p ≡ None =
      λ p is same. ap (pair_of p.0) (put_rx-this old.config.rx sci an p.0 p.1 None is same) in
      ledger-kept print_of (rx_keys old.config.rx) (rx_keys later) old.config.spent_rx old.config.spent_rx
      (rx_bounds b old.numbers) (rx_bounds b (put_rx old.numbers sci an None)) log
      (λ p k has. elim (cases_place p.0 p.1 sci an) [
        | inl same ↦ let none = gone p same.0 same.1 in absurd (cc)
        | inr apart ↦ sym (ap (pair_of p.0) (put_rx-that old.config.rx sci an p.0 p.1 None apart)) ∙ has
      ])
      (λ print here. here)
      (λ p k m has before. elim (cases_place p.0 p.1 sci an) [
        | inl same ↦ let none = gone p same.0 same.1 in absurd (cc)
        | inr apart ↦ (m, ap (option_map b) (put_rx-that old.numbers sci an p.0 p.1 None apart) ∙ before, omega arith)
      ])
      is
  by_command old c ok is = is

  pub rx-effect : (old new : Core) → Effect edition old new → IsRxLedger b log old → IsRxLedger b log new
  rx-effect old new (NoEffect same) is = subst (IsRxLedger b log) (sym same) is
  rx-effect old new (Commanded c config ok same) is =
      let a = accepted edition old.identity old.config c config ok in
      subst (IsRxLedger b log) (sym (same ∙ ap (λ (config : Config). core_after_command old c config) a.1))
      (by_command old c a.0 is)
  rx-effect old new (Sent an sa pn is_sa is_pn same) is = subst (IsRxLedger b log) (sym same) is
  rx-effect old new (Held sci an n pn is_n same) is =
      subst (IsRxLedger b log) (sym same)
      (rises b log old sci an n (numbers_after_hold n pn) is_n (is_b.after_hold n pn) is)
  rx-effect old new (Given sci an sa n pn is_sa is_n in_time same) is =
      let window = old.config.replay.window in
      subst (IsRxLedger b log) (sym same)
      (rises b log old sci an n (numbers_after_delivery window n pn) is_n (is_b.after_delivery window n pn) is)

-- ---- with the log of what was delivered

abbrev pub IsSoundRx : Core → Type 0
IsSoundRx c = IsRxLedger (λ n. n.next) (IsGiven c.given) c

module _ (edition : Edition) where
  by_delivery : (old : Core) (sci : List ℕ) (an : ℕ) (sa : RxSa) (n : Numbers) (pn : ℕ) → old.config.rx sci an ≡ Some sa
      → old.numbers sci an ≡ Some n
      → IsSoundRx old → IsSoundRx (core_after_delivery old sci an sa n pn)
  by_delivery old sci an sa n pn is_sa is_n is =
      let more = numbers_after_delivery old.config.replay.window n pn in
      let numbers = put_rx old.numbers sci an (Some more) in
      let d : Delivery = record { sci = sci; key = sa.key; pn = pn; kind = delivery_kind n pn } in
      ledger-logged print_of (rx_keys old.config.rx) old.config.spent_rx (rx_bounds (λ n. n.next) numbers)
      (IsGiven old.given) (IsGiven (d ∷ old.given))
      (sci, an) (sci, sa.key) pn more.next
      (ap (pair_of sci) is_sa)
      (ap (option_map (λ (n : Numbers). n.next)) (put_rx-this old.numbers sci an sci an (Some more) refl refl))
      (omega arith)
      (λ k i was. elim (contains-cases d old.given (record { sci = k.0; key = k.1; pn = i; kind = was.0 }) was.1) [
        | inl now ↦ inl ((λ j. ((now j).sci, (now j).key)), ap (λ (d : Delivery). d.pn) now)
        | inr earlier ↦ inr (was.0, earlier)
      ])
      (rises (λ n. n.next) (IsGiven old.given) old sci an n more is_n (omega arith) is)

  -- the log stays
  same_log : (old new : Core) → new.given ≡ old.given → Effect edition old new → IsSoundRx old → IsSoundRx new
  same_log old new same effect is =
      subst (λ (given : List Delivery). IsRxLedger (λ n. n.next) (IsGiven given) new) (sym same)
      (rx-effect edition (λ n. n.next) next-bound (IsGiven old.given) old new effect is)

  pub given-effect : (old new : Core) → Effect edition old new → IsSoundRx old → IsSoundRx new
  given-effect old new (NoEffect same) is = subst IsSoundRx (sym same) is
  given-effect old new (Commanded c config ok same) is =
      same_log old new (ap (λ (c : Core). c.given) same) (Commanded c config ok same) is
  given-effect old new (Sent an sa pn is_sa is_pn same) is = subst IsSoundRx (sym same) is
  given-effect old new (Held sci an n pn is_n same) is =
      same_log old new (ap (λ (c : Core). c.given) same) (Held sci an n pn is_n same) is
  given-effect old new (Given sci an sa n pn is_sa is_n in_time same) is =
      subst IsSoundRx (sym same) (by_delivery old sci an sa n pn is_sa is_n is)
