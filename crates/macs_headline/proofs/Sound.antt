-- What holds of every state of every life: through calls, and through restarts.
use Rattle.std.proofs.Common.{◌≡◌, ◌≤◌, ◌+◌, ◌/◌, ◌∷◌, inl, inr, ℕ, refl, sym, ap, subst, arith, List, []}
use Rattle.std.specs.Prelude.{Option, Some, None}
use Rattle.std.specs.Option.{option_map}
use Rattle.macs_config.specs.Config.{Edition, tx_fingerprint}
use Rattle.macs_config.specs.Identity.{Identity}
use Rattle.macs_rxsc.specs.Receive.{Numbers, first_numbers}
use Rattle.macs_endpoint.specs.State.{Call, State}
use Rattle.macs_endpoint.specs.Step.{Exchange, Steps}
use Rattle.macs_endpoint.specs.Restart.{Restart, Resumes, RxRises, TxRises}
use Rattle.macs_headline.specs.History.{formatted_state, state_at_end}
use Rattle.macs_headline.proofs.Lists.{contains-none, pairs-none}
use Rattle.macs_headline.proofs.Ledger.{ledger-kept, some_one}
use Rattle.macs_headline.proofs.LifeEnds.{by-end}
use Rattle.macs_headline.proofs.Effects.{Commanded, Core, Effect, core, effect-of}
use Rattle.macs_headline.proofs.Sent.{IsSoundTx, IsUsed, tx-effect, tx_keys}
use Rattle.macs_headline.proofs.Given.{IsGiven, IsSoundRx, given-effect, print_of, rx_bounds, rx_keys}
use Rattle.macs_headline.proofs.Windows.{IsSoundWindow, IsWithinWindow, window-effect}

pub record IsSound (c : Core) : Type 0 where
  pub tx : IsSoundTx c
  pub rx : IsSoundRx c
  pub window : IsSoundWindow c

-- ---- calls

pub sound-effect : (edition : Edition) (old new : Core) → Effect edition old new → IsSound old → IsSound new
sound-effect edition old new effect is = record {
  tx = tx-effect edition old new effect is.tx;
  rx = given-effect edition old new effect is.rx;
  window = window-effect edition old new effect is.window;
}

pub sound-steps : (old : State) (exchanges : List Exchange) (new : State) → Steps old exchanges new → IsSound (core old)
    → IsSound (core new)
sound-steps old [] new steps is = subst (λ (s : State). IsSound (core s)) (sym steps) is
sound-steps old (e ∷ es) new steps is =
    let mid = steps.0 in
    sound-steps mid es new steps.2
    (sound-effect old.edition (core old) (core mid) (effect-of old e.call e.reply mid steps.1) is)

-- a command that is under way changes nothing else
pub end-core : (s : State) (cut : Option Call) → core (state_at_end s cut) ≡ core s
end-core s cut = by-end (λ t. core t ≡ core s) s refl cut (λ c taken. refl)

pub end-edition : (s : State) (cut : Option Call) → (state_at_end s cut).edition ≡ s.edition
end-edition s cut = by-end (λ t. t.edition ≡ s.edition) s refl cut (λ c taken. refl)

-- ---- numbers rise

pub tx-rise : (block : ℕ) (old new : Option ℕ) (m : ℕ) → TxRises block old new → old ≡ Some m
    → (l : ℕ) × (new ≡ Some l) × (m ≤ l) × (l ≤ m + (block + block / 2))
tx-rise block None new m up is = absurd (cc)
tx-rise block (Some n) new m up is =
    let one : n ≡ m = cc in
    let low : n ≤ up.0 = up.2 in
    let high : up.0 ≤ n + (block + block / 2) = up.3 in
    (up.0, up.1, omega (arith, one, low), omega (arith, one, high))

rx_rise : (block : ℕ) (old new : Option Numbers) (m : ℕ) → RxRises block old new
    → option_map (λ (n : Numbers). n.next) old ≡ Some m
    → (l : ℕ) × (option_map (λ (n : Numbers). n.next) new ≡ Some l) × (m ≤ l)
rx_rise block None new m up is = absurd (cc)
rx_rise block (Some n) new m up is =
    let one : n.next ≡ m = cc in
    let low : n.next ≤ up.0 = up.2 in
    (up.0, ap (option_map (λ (n : Numbers). n.next)) up.1, omega (arith, one, low))

rx_level : (block window : ℕ) (old new : Option Numbers) (n : Numbers) → RxRises block old new → new ≡ Some n
    → IsWithinWindow window n
rx_level block window None new n up is = absurd (cc)
rx_level block window (Some m) new n up is =
    let one : first_numbers up.0 ≡ n = some_one new _ n up.1 is in
    subst (λ (n : Numbers). IsWithinWindow window n) one (omega arith, omega arith)

raised : (c : Core) (next : ℕ → Option ℕ) (numbers : List ℕ → ℕ → Option Numbers)
    → ((an : ℕ) → TxRises c.identity.tx_block (c.next an) (next an))
    → ((sci : List ℕ) (an : ℕ) → RxRises c.identity.rx_block (c.numbers sci an) (numbers sci an))
    → IsSound c → IsSound (record c { next = next; numbers = numbers })
raised c next numbers tx rx is = record {
  tx = record {
    apart = is.tx.apart;
    ledger = ledger-kept tx_fingerprint (tx_keys c.config.tx) (tx_keys c.config.tx) c.config.spent_tx c.config.spent_tx
        c.next next (IsUsed c.used)
        (λ p k has. has)
        (λ print here. here)
        (λ p k m has before. let up = tx-rise c.identity.tx_block (c.next p) (next p) m (tx p) before in
        (up.0, up.1, up.2))
        is.tx.ledger;
  };
  rx = ledger-kept print_of (rx_keys c.config.rx) (rx_keys c.config.rx) c.config.spent_rx c.config.spent_rx
      (rx_bounds (λ n. n.next) c.numbers) (rx_bounds (λ n. n.next) numbers) (IsGiven c.given)
      (λ p k has. has)
      (λ print here. here)
      (λ p k m has before. rx_rise c.identity.rx_block (c.numbers p.0 p.1) (numbers p.0 p.1) m (rx p.0 p.1) before)
      is.rx;
  window = λ sci an n has.
      rx_level c.identity.rx_block c.config.replay.window (c.numbers sci an) (numbers sci an) n (rx sci an) has;
}

-- ---- restarts

sound_resumes : (old new : State) → Resumes old new → IsSound (core old) → IsSound (core new)
sound_resumes old new up is =
    let same : core new ≡ record {
      identity = old.identity;
      config = old.config;
      next = new.next;
      numbers = new.numbers;
      used = old.logs.used;
      given = old.logs.given;
    } =
    (λ i. record {
      identity = up.identity i;
      config = up.config i;
      next = new.next;
      numbers = new.numbers;
      used =
          (up.logs i).used;
      given = (up.logs i).given;
    }) in
    subst IsSound (sym same) (raised (core old) new.next new.numbers up.next up.numbers is)

pub sound-restart : (old new : State) → Restart old new → IsSound (core old) → IsSound (core new)
sound-restart old new (inl up) is = sound_resumes old new up is
sound-restart old new (inr (c, mid, hand, makes, up)) is =
    sound_resumes mid new up
    (sound-effect old.edition (core old) (core mid) (Commanded c makes.0 makes.1 (ap core makes.2)) is)

-- ---- a disk that was formatted just now

pub sound-formatted : (edition : Edition) (identity : Identity) → IsSound (core (formatted_state edition identity))
sound-formatted edition identity = record {
  tx = record {
    apart = pairs-none;
    ledger = record {
      below = λ p k has. absurd (cc);
      logged = λ k n here. absurd (contains-none _ here);
      placed = λ p k has. absurd (cc);
      once = λ p q k has also. absurd (cc);
    };
  };
  rx = record {
    below = λ p k has. absurd (cc);
    logged = λ k n was. absurd (contains-none _ was.1);
    placed = λ p k has. absurd (cc);
    once = λ p q k has also. absurd (cc);
  };
  window = λ sci an n has. absurd (cc);
}
