-- What an observer knows is so of the endpoint.
use Rattle.std.proofs.Common.{◌≡◌, ◌++◌, inl, inr, ℕ, Bool, Option, List, [], ◌∷◌, Some, None, Ok, refl, sym, ◌∙◌, ap}
use Rattle.std.proofs.Common.{subst, true, false}
use Rattle.std.specs.Option.{option_or}
use Rattle.std.specs.List.{AllByRecursion}
use Rattle.std.specs.Prelude.{Contains}
use Rattle.std.proofs.lemmas.List.Elements.{Contains-append_cases}
use Rattle.macs_aes.specs.Keys.{octets_of_key}
use Rattle.macs_config.specs.Config.{Config, Edition, is_spent, rx_fingerprint, tx_fingerprint}
use Rattle.macs_config.specs.Identity.{Identity}
use Rattle.macs_config.specs.declared.command.Command.TheVariants.{RxInstall, TxInstall}
use Rattle.macs_config.specs.Apply.{apply, config_after, refusal_of}
use Rattle.macs_config.specs.declared.command.Command.{Command}
use Rattle.macs_config.proofs.Spent.{among-before}
use Rattle.macs_endpoint.specs.Queue.{first_command}
use Rattle.macs_endpoint.specs.State.{Call, Delivery, State, state_after_fault, state_with_under_way}
use Rattle.macs_endpoint.specs.Step.{next_after, numbers_after, state_after_command, state_without_first}
use Rattle.macs_endpoint.specs.declared.queue.Waiting.{Waiting}
use Rattle.macs_headline.specs.History.{Blank, Formatted, Past}
use Rattle.macs_headline.proofs.Accepted.{accepted, rx-unspent, spent-pushed, tx-unspent}
use Rattle.macs_headline.proofs.Lists.{contains-cases, contains-none}
use Rattle.macs_headline.proofs.Ledger.{none_some, some_one}
use Rattle.macs_theorem.specs.Shown.{settings_of}
use Rattle.macs_theorem.specs.Observer.{IsNew, Observer, after_command, begin, begun_in, fail, install_of, new_observer}
use Rattle.macs_theorem.specs.Observer.{settings_after, unrested}
use Rattle.macs_theorem.proofs.Settings.{settings-follow}

-- a key is spent on its side
abbrev pub is_spent_in : Config → Option (List ℕ) × List ℕ → Bool
is_spent_in c (None, key) = is_spent c.spent_tx (tx_fingerprint key)
is_spent_in c (Some sci, key) = is_spent c.spent_rx (rx_fingerprint sci key)

-- these keys are
abbrev pub AreSpent : Config → List (Option (List ℕ) × List ℕ) → Type 0
AreSpent c installed = (it : Option (List ℕ) × List ℕ) → Contains installed it → is_spent_in c it ≡ true

pub none-spent : (c : Config) → AreSpent c []
none-spent c it has = absurd (contains-none it has)

-- It is so of a state, in a life before which these were delivered.
pub record Matches (earlier : List Delivery) (s : State) (o : Observer) : Type 0 where
  pub formatted : o.formatted ≡ Some s.identity
  pub settings : o.settings ≡ settings_of s.config
  pub installed : AreSpent s.config o.installed
  pub next : o.next ≡ s.next
  pub numbers : o.numbers ≡ s.numbers
  pub waiting : o.waiting ≡ s.waiting
  pub tickets : o.tickets ≡ s.tickets
  pub stopped : o.stopped ≡ s.stopped
  pub sent : o.sent ≡ s.logs.used
  pub delivered : o.delivered ≡ s.logs.given
  pub before : o.before ≡ earlier
  pub hand : (c : Command) → s.under_way ≡ Some c → o.begun ≡ Some c

-- and of what is past
abbrev pub MatchesPast : Past → Observer → Type 0
MatchesPast (Blank identities) o = o ≡ record new_observer { tried = identities }
MatchesPast (Formatted s) o = Matches o.before s o

-- While an endpoint runs, a command whose work may have begun is the first that waits.
abbrev pub BeginsFirst : State → Observer → Type 0
BeginsFirst s o = (c : Command) → o.begun ≡ Some c → s.stopped ≡ false → first_command o.waiting ≡ Some c

-- both, of an endpoint
pub record Follows (earlier : List Delivery) (s : State) (o : Observer) : Type 0 where
  pub matches : Matches earlier s o
  pub begins : BeginsFirst s o

-- whether the last call was a rest does not matter here
pub rest-matters-not : (earlier : List Delivery) (s : State) (o : Observer) (rested : Bool) → Matches earlier s o
    → Matches earlier s (record o { rested = rested })
rest-matters-not earlier s o rested m = record {
  formatted = m.formatted;
  settings = m.settings;
  installed = m.installed;
  next = m.next;
  numbers = m.numbers;
  waiting = m.waiting;
  tickets = m.tickets;
  stopped = m.stopped;
  sent = m.sent;
  delivered = m.delivered;
  before = m.before;
  hand = m.hand;
}

pub follows-rested : (earlier : List Delivery) (s : State) (o : Observer) (rested : Bool) → Follows earlier s o
    → Follows earlier s (record o { rested = rested })
follows-rested earlier s o rested f = record {
  matches = rest-matters-not earlier s o rested f.matches;
  begins = f.begins;
}

pub past-unrested : (past : Past) (o : Observer) → MatchesPast past o → MatchesPast past (unrested o)
past-unrested (Blank identities) o m = ap unrested m
past-unrested (Formatted s) o m = rest-matters-not o.before s o false m

-- where none may have begun
pub none-begins : (s : State) (o : Observer) → o.begun ≡ None → BeginsFirst s o
none-begins s o none c is running = absurd (none_some c (sym none ∙ is))

-- one that may have begun stays the one
pub stays-begun : (begun new : Option Command) (c : Command) → begun ≡ Some c → option_or begun new ≡ Some c
stays-begun None new c is = absurd (none_some c is)
stays-begun (Some d) new c is = is

-- ---- keys

-- what is spent stays so
still_spent : (c : Config) (command : Command) (it : Option (List ℕ) × List ℕ) → is_spent_in c it ≡ true
    → is_spent_in (config_after c command) it ≡ true
still_spent c (TxInstall an key start confidential offset) (None, was) is =
    among-before c.spent_tx (tx_fingerprint (octets_of_key key) ∷ []) (tx_fingerprint was) is
still_spent c (RxInstall sci an key start offset) (Some from, was) is =
    among-before c.spent_rx (rx_fingerprint sci (octets_of_key key) ∷ []) (rx_fingerprint from was) is
still_spent c (TxInstall an key start confidential offset) (Some from, was) is = is
still_spent c (RxInstall sci an key start offset) (None, was) is = is
still_spent c command it is = is

-- what a command installs is spent then
now_spent : (c : Config) (command : Command) → AreSpent (config_after c command) (install_of command)
now_spent c (TxInstall an key start confidential offset) it has =
    elim (contains-cases (None, octets_of_key key) [] it has) [
      | inl same ↦ subst (λ (it : Option (List ℕ) × List ℕ).
          is_spent_in (config_after c (TxInstall an key start confidential offset)) it ≡ true) (sym same)
          (spent-pushed c.spent_tx (tx_fingerprint (octets_of_key key)))
      | inr none ↦ absurd (contains-none it none)
    ]
now_spent c (RxInstall sci an key start offset) it has =
    elim (contains-cases (Some sci, octets_of_key key) [] it has) [
      | inl same ↦ subst (λ (it : Option (List ℕ) × List ℕ).
          is_spent_in (config_after c (RxInstall sci an key start offset)) it ≡ true) (sym same)
          (spent-pushed c.spent_rx (rx_fingerprint sci (octets_of_key key)))
      | inr none ↦ absurd (contains-none it none)
    ]
now_spent c command it has = absurd (contains-none it has)

-- and was not before
installs_new : (edition : Edition) (identity : Identity) (c : Config) (command : Command)
    (installed : List (Option (List ℕ) × List ℕ))
    → refusal_of edition identity c command ≡ None → AreSpent c installed
    → AllByRecursion (λ (it : Option (List ℕ) × List ℕ). ¬ Contains installed it) (install_of command)
installs_new edition identity c (TxInstall an key start confidential offset) installed ok spent = (
  λ has. tx-unspent edition identity c an key start confidential offset ok (spent (None, octets_of_key key) has),
  tt,
)
installs_new edition identity c (RxInstall sci an key start offset) installed ok spent = (
  λ has. rx-unspent edition identity c sci an key start offset ok (spent (Some sci, octets_of_key key) has),
  tt,
)
installs_new edition identity c command installed ok spent = tt

spent-on : (edition : Edition) (identity : Identity) (c : Config) (command : Command) (new : Config)
    → apply edition identity c command ≡ Ok new → (installed : List (Option (List ℕ) × List ℕ)) → AreSpent c installed
    → AreSpent new (install_of command ++ installed)
spent-on edition identity c command new ok installed spent it has =
    let made = (accepted edition identity c command new ok).1 in
    subst (λ (c : Config). is_spent_in c it ≡ true) (sym made)
    (elim (Contains-append_cases (install_of command) installed it has) [
      | inl now ↦ now_spent c command it now
      | inr was ↦ still_spent c command it (spent it was)
    ])

module _ (earlier : List Delivery) where
  -- a command that takes effect installs no key again
  pub is-new : (s : State) (o : Observer) (c : Command) (config : Config)
      → apply s.edition s.identity s.config c ≡ Ok config → Matches earlier s o → IsNew c o
  is-new s o c config ok m = installs_new s.edition s.identity s.config c o.installed
      (accepted s.edition s.identity s.config c config ok).0 m.installed

  pub same-state : (old new : State) (o : Observer) → new ≡ old → Matches earlier old o → Matches earlier new o
  same-state old new o is m = subst (λ (s : State). Matches earlier s o) (sym is) m

  -- a device call failed
  pub after-fault : (s : State) (o : Observer) → Matches earlier s o
      → Matches earlier (state_after_fault s) (fail o)
  after-fault s o m = record {
    formatted = m.formatted;
    settings = m.settings;
    installed = m.installed;
    next = m.next;
    numbers = m.numbers;
    waiting = m.waiting;
    tickets = m.tickets;
    stopped = refl;
    sent = m.sent;
    delivered = m.delivered;
    before = m.before;
    hand = m.hand;
  }

  -- a command takes effect
  pub after-command : (s : State) (o : Observer) (c : Command) (config : Config)
      → apply s.edition s.identity s.config c ≡ Ok config → Matches earlier s o
      → Matches earlier (state_after_command s c config) (after_command c o)
  after-command s o c config ok m = record {
    formatted = m.formatted;
    installed = spent-on s.edition s.identity s.config c config ok o.installed m.installed;
    settings = ap (settings_after c) m.settings ∙ sym (settings-follow s.edition s.identity s.config c config ok);
    next = ap (next_after c) m.next;
    numbers = ap (numbers_after c) m.numbers;
    waiting = m.waiting;
    tickets = m.tickets;
    stopped = m.stopped;
    sent = m.sent;
    delivered = m.delivered;
    before = m.before;
    hand = λ d is. absurd (none_some d is);
  }

  -- work may begin in a call
  pub may-begin : (s : State) (o : Observer) (call : Call) → Matches earlier s o → Matches earlier s (begin call o)
  may-begin s o call m = record {
    formatted = m.formatted;
    settings = m.settings;
    installed = m.installed;
    next = m.next;
    numbers = m.numbers;
    waiting = m.waiting;
    tickets = m.tickets;
    stopped = m.stopped;
    sent = m.sent;
    delivered = m.delivered;
    before = m.before;
    hand = λ c is. stays-begun o.begun (begun_in o.stopped call o.waiting) c (m.hand c is);
  }

  -- a command is under way
  pub with-hand : (s : State) (o : Observer) (c : Command) → o.begun ≡ Some c → Matches earlier s o
      → Matches earlier (state_with_under_way s c) o
  with-hand s o c begun m = record {
    formatted = m.formatted;
    settings = m.settings;
    installed = m.installed;
    next = m.next;
    numbers = m.numbers;
    waiting = m.waiting;
    tickets = m.tickets;
    stopped = m.stopped;
    sent = m.sent;
    delivered = m.delivered;
    before = m.before;
    hand = λ d is. begun ∙ ap (λ (x : Command). Some x) (some_one (Some c) c d refl is);
  }

  -- the first that waits is done with
  pub without-first : (s : State) (o : Observer) (rest : List Waiting) → Matches earlier s o
      → Matches earlier (state_without_first s rest) (record o { waiting = rest })
  without-first s o rest m = record {
    formatted = m.formatted;
    settings = m.settings;
    installed = m.installed;
    next = m.next;
    numbers = m.numbers;
    waiting = refl;
    tickets = m.tickets;
    stopped = m.stopped;
    sent = m.sent;
    delivered = m.delivered;
    before = m.before;
    hand = λ d is. absurd (none_some d is);
  }

  -- and took no effect
  pub none-under-way : (s : State) (o : Observer) (rest : List Waiting) → Matches earlier s o
      → Matches earlier (state_without_first s rest) (record o { waiting = rest; begun = None })
  none-under-way s o rest m = record {
    formatted = m.formatted;
    settings = m.settings;
    installed = m.installed;
    next = m.next;
    numbers = m.numbers;
    waiting = refl;
    tickets = m.tickets;
    stopped = m.stopped;
    sent = m.sent;
    delivered = m.delivered;
    before = m.before;
    hand = λ d is. absurd (none_some d is);
  }
