-- The headline on packet numbers.
use Rattle.std.proofs.Common.{◌≡◌, ◌<◌, ◌≤◌, ◌+◌, inl, inr, ℕ, refl, sym, ◌∙◌, ap, subst, arith, List, [], ◌∷◌, length}
use Rattle.std.proofs.Common.{true, false}
use Rattle.std.specs.Prelude.{◌^◌, Bool, Option, Some, None, IsSome, IsSomeAnd, is_some, max, min, nat_lt}
use Rattle.std.specs.Option.{option_map}
use Rattle.std.proofs.lemmas.Bool.{cases_eq, cases_lt, false≢true}
use Rattle.std.proofs.lemmas.Bool.Decides.{nat_tests}
use Rattle.macs_aes.specs.declared.keys.Key.{Key}
use Rattle.macs_config.specs.Apply.{config_after, is_slot_taken, refusal_of}
use Rattle.macs_config.specs.Config.{Config, Edition}
use Rattle.macs_config.specs.Identity.{Identity}
use Rattle.macs_config.specs.declared.association.RxSa.{RxSa}
use Rattle.macs_config.specs.declared.association.TxSa.{TxSa}
use Rattle.macs_config.specs.declared.command.Command.{Command}
use Rattle.macs_config.specs.declared.command.Command.TheVariants.{RxDrop, RxInstall, RxRemove, SetReplay, TxInstall}
use Rattle.macs_config.specs.declared.command.Command.TheVariants.{TxRemove}
use Rattle.macs_rxsc.specs.Receive.{Numbers, delivery_kind, first_numbers, numbers_under_window}
use Rattle.macs_rxsc.specs.declared.verdict.Kind.TheVariants.{Ok as AsOk, Delayed}
use Rattle.macs_store.specs.Standing.{Standing}
use Rattle.macs_endpoint.specs.State.{Delivery, Logs, State}
use Rattle.macs_endpoint.specs.Step.{Exchange, Steps, next_after, numbers_after}
use Rattle.macs_endpoint.specs.Restart.{Restart, Resumes, RxRises, TxRises, opened_state, rx_limit}
use Rattle.macs_headline.specs.History.{Blank, Formatted, Past, logs_of}
use Rattle.macs_headline.specs.Moments.{IsFoundAfter, WasGiven, WasUsed}
use Rattle.macs_headline.specs.Numbers.{BeginAsAsked, GivenApart, GivenBelow, HasNoneTwice, IsBeyondRx, IsBeyondTx}
use Rattle.macs_headline.specs.Numbers.{IsMoved, IsSkipped, OkApart, SkipsFew, SkipsFewReceived, UsedBelow, UsedOnce}
use Rattle.macs_headline.specs.Numbers.{UsedOnceAtEnd}
use Rattle.macs_headline.proofs.Lists.{pairs-none}
use Rattle.macs_headline.proofs.Ledger.{ledger-kept, none_some, some_one}
use Rattle.macs_headline.proofs.Places.{cases_place, cases_sci, put-that, put-this, put_at-that, put_at-this}
use Rattle.macs_headline.proofs.Places.{put_rx-that, put_rx-this}
use Rattle.macs_headline.proofs.Accepted.{accepted, free-slot}
use Rattle.macs_headline.proofs.Effects.{Commanded, Core, Effect, Given, Held, NoEffect, Sent, core, effect-of}
use Rattle.macs_headline.proofs.Sent.{key_of}
use Rattle.macs_headline.proofs.Given.{IsGiven, IsRxLedger, IsSoundRx, lowest-bound, pair_of, print_of, rx-effect}
use Rattle.macs_headline.proofs.Given.{rx_bounds, rx_keys}
use Rattle.macs_headline.proofs.Sound.{IsSound}
use Rattle.macs_headline.proofs.Histories.{IsSoundPast, fits-restart, sound-history, sound-moment, sound-opened}
use Rattle.macs_headline.proofs.Histories.{sound-opening}

-- ---- a delivery

no_cycle : {X : Type 0} (x : X) (xs : List X) → xs ≡ x ∷ xs → ⊥
no_cycle x xs is = let sizes : length xs ≡ length (x ∷ xs) = ap length is in omega (arith, sizes)

-- a delivery that a call added
record IsAdded (old : Core) (d : Delivery) : Type 0 where
  an : ℕ
  sa : RxSa
  n : Numbers
  is_sa : old.config.rx d.sci an ≡ Some sa
  is_key : sa.key ≡ d.key
  is_n : old.numbers d.sci an ≡ Some n
  in_time : old.config.replay.on ≡ true → n.lowest ≤ d.pn
  is_kind : d.kind ≡ delivery_kind n d.pn

not_added : (old new : Core) (d : Delivery) → new.given ≡ old.given → new.given ≡ d ∷ old.given → ⊥
not_added old new d same more = no_cycle d old.given (sym same ∙ more)

added : (edition : Edition) (old new : Core) (d : Delivery) → Effect edition old new → new.given ≡ d ∷ old.given
    → IsAdded old d
added edition old new d (NoEffect is) more = absurd (not_added old new d (ap (λ (c : Core). c.given) is) more)
added edition old new d (Commanded c config ok is) more =
    absurd (not_added old new d (ap (λ (c : Core). c.given) is) more)
added edition old new d (Sent an sa pn is_sa is_pn is) more =
    absurd (not_added old new d (ap (λ (c : Core). c.given) is) more)
added edition old new d (Held sci an n pn is_n is) more =
    absurd (not_added old new d (ap (λ (c : Core). c.given) is) more)
added edition old new d (Given sci an sa n pn is_sa is_n in_time is) more =
    let one : record { sci = sci; key = sa.key; pn = pn; kind = delivery_kind n pn } ≡ d =
    (let both = sym (ap (λ (c : Core). c.given) is) ∙ more in cc) in
    subst (IsAdded old) one (record {
      an = an;
      sa = sa;
      n = n;
      is_sa = is_sa;
      is_key = refl;
      is_n = is_n;
      in_time =
          in_time;
      is_kind = refl;
    })

-- the pair under which it was
pair_is : (old : Core) (d : Delivery) (a : IsAdded old d) → rx_keys old.config.rx (d.sci, a.an) ≡ Some (d.sci, d.key)
pair_is old d a = ap (pair_of d.sci) a.is_sa ∙ ap (λ (k : List ℕ). Some (d.sci, k)) a.is_key

ok_above : (n : Numbers) (pn : ℕ) → delivery_kind n pn ≡ AsOk → n.lowest ≤ pn
ok_above n pn is = elim (cases_lt pn n.lowest) [
  | inl below ↦ let test : nat_lt pn n.lowest ≡ true = grind (arith, nat_tests) in
      let late : Delayed ≡ AsOk = rw test at is in absurd (cc)
  | inr over ↦ over
]

-- ---- the lowest numbers of a life

level : (o : Option ℕ) (m : ℕ) → option_map (λ (n : Numbers). n.next) (option_map first_numbers o) ≡ Some m
    → (l : ℕ) × (option_map (λ (n : Numbers). n.lowest) (option_map first_numbers o) ≡ Some l) × (m ≤ l)
level None m is = absurd (cc)
level (Some c) m is = (m, is, omega arith)

-- no number that was delivered before this life is at or above a lowest number, at its opening
pub floor-opening : (found : Standing) (logs : Logs) → IsSoundRx (core (opened_state found logs))
    → IsRxLedger (λ n. n.lowest) (IsGiven logs.given) (core (opened_state found logs))
floor-opening found logs is =
    let numbers = λ (sci : List ℕ) (an : ℕ). option_map first_numbers (found.ceilings.rx sci an) in
    ledger-kept print_of (rx_keys found.config.rx) (rx_keys found.config.rx) found.config.spent_rx found.config.spent_rx
    (rx_bounds (λ n. n.next) numbers) (rx_bounds (λ n. n.lowest) numbers) (IsGiven logs.given)
    (λ p k has. has)
    (λ print here. here)
    (λ p k m has before. level (found.ceilings.rx p.0 p.1) m before)
    is

-- and later
pub floor-steps : (log : List ℕ × List ℕ → ℕ → Type 0) (old : State) (exchanges : List Exchange) (new : State)
    → Steps old exchanges new
    → IsRxLedger (λ n. n.lowest) log (core old) → IsRxLedger (λ n. n.lowest) log (core new)
floor-steps log old [] new steps is = subst (λ (s : State). IsRxLedger (λ n. n.lowest) log (core s)) (sym steps) is
floor-steps log old (e ∷ es) new steps is =
    let mid = steps.0 in
    floor-steps log mid es new steps.2
    (rx-effect old.edition (λ n. n.lowest) lowest-bound log (core old) (core mid)
    (effect-of old e.call e.reply mid steps.1) is)

-- ---- what is found

some_and : (o : Option ℕ) (m pn : ℕ) → o ≡ Some m → pn < m → IsSomeAnd o (λ next. pn < next)
some_and o m pn is below = subst (λ (o : Option ℕ). IsSomeAnd o (λ next. pn < next)) (sym is) below

pub ceiling-is : (o : Option ℕ) (m : ℕ) → option_map (λ (n : Numbers). n.next) (option_map first_numbers o) ≡ Some m
    → o ≡ Some m
ceiling-is None m is = absurd (cc)
ceiling-is (Some c) m is = is

pub beyond_tx : (found : Standing) (logs : Logs) → IsSound (core (opened_state found logs)) → (key : List ℕ) (pn : ℕ)
    → WasUsed logs key pn → IsBeyondTx found key pn
beyond_tx found logs is key pn used = record {
  spent = is.tx.ledger.logged key pn used;
  below = λ an sa is_sa is_key.
      let here = is.tx.ledger.below an key (ap key_of is_sa ∙ ap Some is_key) in
      some_and (found.ceilings.tx an) here.0 pn here.1 (here.2 pn used);
}

pub beyond_rx : (found : Standing) (logs : Logs) → IsSound (core (opened_state found logs))
    → (sci key : List ℕ) (pn : ℕ) → WasGiven logs sci key pn
    → IsBeyondRx found sci key pn
beyond_rx found logs is sci key pn was = record {
  spent = is.rx.logged (sci, key) pn was;
  below = λ an sa is_sa is_key.
      let here =
      is.rx.below (sci, an) (sci, key) (ap (pair_of sci) is_sa ∙ ap (λ (k : List ℕ). Some (sci, k)) is_key) in
      some_and (found.ceilings.rx sci an) here.0 pn (ceiling-is (found.ceilings.rx sci an) here.0 here.1)
      (here.2 pn was);
}

-- ---- what is skipped

-- the numbers of a transmit association that stays, over the command under way
next_stays : (edition : Edition) (identity : Identity) (old : Config) (c : Command) (next : ℕ → Option ℕ) (an : ℕ)
    (before after : TxSa)
    → refusal_of edition identity old c ≡ None → old.tx an ≡ Some before → (config_after old c).tx an ≡ Some after
    → next_after c next an ≡ next an
next_stays edition identity old (TxInstall at key start confidential offset) next an before after ok is js =
    elim (cases_eq an at) [
      | inl same ↦
          let command = TxInstall at key start confidential offset in
          let free : is_slot_taken old command ≡ false = free-slot edition identity old command ok in
          let there : old.tx at ≡ Some before = ap old.tx (sym same) ∙ is in
          let both : true ≡ false = rw there at free in
          absurd (cc)
      | inr apart ↦ put-that next at an (Some start) apart
    ]
next_stays edition identity old (TxRemove at) next an before after ok is js = elim (cases_eq an at) [
  | inl same ↦ let gone = put-this old.tx at an None same in absurd (cc)
  | inr apart ↦ put-that next at an None apart
]
next_stays edition identity old c next an before after ok is js = refl

-- what may be found of an association that has this next number
skipped : (block next : ℕ) (found : Option ℕ) → TxRises block (Some next) found
    → IsSomeAnd found (λ later. IsSkipped block next later × (later ≤ 2 ^ 32))
skipped block next found (later, is_later, low, high, most) =
    subst (λ (o : Option ℕ). IsSomeAnd o (λ later. IsSkipped block next later × (later ≤ 2 ^ 32))) (sym is_later)
    ((low, high), most)

-- and of a state that resumes one with that next number
found_of : (s mid new : State) (an next : ℕ) → mid.identity ≡ s.identity → mid.next an ≡ Some next → Resumes mid new
    → IsSomeAnd (new.next an) (λ later. IsSkipped s.identity.tx_block next later × (later ≤ 2 ^ 32))
found_of s mid new an next same is up =
    skipped s.identity.tx_block next (new.next an)
    (subst (λ (i : Identity). TxRises i.tx_block (Some next) (new.next an)) same
    (subst (λ (o : Option ℕ). TxRises mid.identity.tx_block o (new.next an)) is (up.next an)))

skips : (s new : State) (an : ℕ) (before after : TxSa) (next : ℕ) → Restart s new → s.config.tx an ≡ Some before
    → new.config.tx an ≡ Some after
    → s.next an ≡ Some next
    → IsSomeAnd (new.next an) (λ later. IsSkipped s.identity.tx_block next later × (later ≤ 2 ^ 32))
skips s new an before after next (inl up) is js is_next =
    found_of s s new an next refl is_next up
skips s new an before after next (inr (c, mid, hand, makes, up)) is js is_next =
    let a = accepted s.edition s.identity s.config c makes.0 makes.1 in
    let config : new.config ≡ config_after s.config c = up.config ∙ ap (λ (s : State). s.config) makes.2 ∙ a.1 in
    let there : (config_after s.config c).tx an ≡ Some after = ap (λ (c : Config). c.tx an) (sym config) ∙ js in
    let mid_next : mid.next an ≡ Some next =
    ap (λ (s : State). s.next an) makes.2
    ∙ next_stays s.edition s.identity s.config c s.next an before after a.0 is there ∙ is_next in
    found_of s mid new an next (ap (λ (s : State). s.identity) makes.2) mid_next up

-- the numbers of a receive association that stays, over the command under way: a new window moves the lowest alone
numbers_stay : (edition : Edition) (identity : Identity) (old : Config) (c : Command) (numbers : List ℕ → ℕ
    → Option Numbers) (sci : List ℕ) (an : ℕ)
    (before after : RxSa) (n : Numbers) → refusal_of edition identity old c ≡ None → old.rx sci an ≡ Some before
    → (config_after old c).rx sci an ≡ Some after
    → numbers sci an ≡ Some n
    → (m : Numbers) × (numbers_after c numbers sci an ≡ Some m) × (m.next ≡ n.next) × (m.seen ≡ n.seen)
numbers_stay edition identity old (SetReplay on window) numbers sci an before after n ok is js here =
    (numbers_under_window window n, ap (option_map (numbers_under_window window)) here, refl, refl)
numbers_stay edition identity old (RxDrop at) numbers sci an before after n ok is js here = elim (cases_sci sci at) [
  | inl same ↦
      let gone : (config_after old (RxDrop at)).rx sci an ≡ None =
      ap (λ (f : ℕ → Option RxSa). f an) (put_at-this old.rx at sci (λ an. None) same) in
      absurd (none_some _ (sym gone ∙ js))
  | inr apart ↦ (n, ap (λ (f : ℕ → Option Numbers). f an) (put_at-that numbers at sci _ apart) ∙ here, refl, refl)
]
numbers_stay edition identity old (RxInstall at number key start offset) numbers sci an before after n ok is js here =
    elim (cases_place sci an at number) [
      | inl same ↦
          let free : is_slot_taken old (RxInstall at number key start offset) ≡ false =
          free-slot edition identity old (RxInstall at number key start offset) ok in
          let there : old.rx at number ≡ Some before = (λ i. old.rx (sym same.0 i) (sym same.1 i)) ∙ is in
          let both : true ≡ false = rw there at free in
          absurd (cc)
      | inr apart ↦ (n, put_rx-that numbers at number sci an (Some (first_numbers start)) apart ∙ here, refl, refl)
    ]
numbers_stay edition identity old (RxRemove at number) numbers sci an before after n ok is js here =
    elim (cases_place sci an at number) [
      | inl same ↦
          let gone : (config_after old (RxRemove at number)).rx sci an ≡ None =
          put_rx-this old.rx at number sci an None same.0 same.1 in
          absurd (none_some _ (sym gone ∙ js))
      | inr apart ↦ (n, put_rx-that numbers at number sci an None apart ∙ here, refl, refl)
    ]
numbers_stay edition identity old c numbers sci an before after n ok is js here = (n, here, refl, refl)

-- what may be found of an association that has these numbers
moved_to : (block : ℕ) (old : Numbers) (later : ℕ) → old.next ≤ later → later ≤ rx_limit block old.next old.seen
    → IsMoved block old (first_numbers later)
moved_to block old later low high = record {
  level = refl;
  rises = low;
  unseen = λ none. let most : later ≤ old.next =
      subst (λ (seen : Option ℕ). later ≤ rx_limit block old.next seen) none high in omega (arith, low, most);
  seen = λ last is_last. subst (λ (seen : Option ℕ). later ≤ rx_limit block old.next seen) is_last high;
  fresh = refl;
}

moved : (block : ℕ) (old : Numbers) (found : Option Numbers) → RxRises block (Some old) found
    → IsSomeAnd found (λ new. IsMoved block old new)
moved block old found (later, is_later, low, high) =
    subst (λ (o : Option Numbers). IsSomeAnd o (λ new. IsMoved block old new)) (sym is_later)
    (moved_to block old later low high)

-- over numbers whose lowest alone changed
moved_on : (block : ℕ) (old mid new : Numbers) → mid.next ≡ old.next → mid.seen ≡ old.seen → IsMoved block mid new
    → IsMoved block old new
moved_on block old mid new next seen is = record {
  level = is.level;
  rises = subst (λ (n : ℕ). n ≤ new.next) next is.rises;
  unseen = λ none. is.unseen (seen ∙ none) ∙ next;
  seen = λ last is_last.
      subst (λ (n : ℕ). new.next ≤ max n (min (last + block) (2 ^ 32))) next (is.seen last (seen ∙ is_last));
  fresh = is.fresh;
}

moved_through : (block : ℕ) (old mid : Numbers) (found : Option Numbers) → mid.next ≡ old.next → mid.seen ≡ old.seen
    → IsSomeAnd found (λ new. IsMoved block mid new) → IsSomeAnd found (λ new. IsMoved block old new)
moved_through block old mid None next seen is = absurd is
moved_through block old mid (Some new) next seen is = moved_on block old mid new next seen is

skips_received : (s found : State) (sci : List ℕ) (an : ℕ) (before after : RxSa) (old : Numbers) → Restart s found
    → s.config.rx sci an ≡ Some before
    → found.config.rx sci an ≡ Some after → s.numbers sci an ≡ Some old
    → IsSomeAnd (found.numbers sci an) (λ new. IsMoved s.identity.rx_block old new)
skips_received s found sci an before after old (inl up) is js is_old =
    moved s.identity.rx_block old (found.numbers sci an)
    (subst (λ (n : Option Numbers). RxRises s.identity.rx_block n (found.numbers sci an)) is_old (up.numbers sci an))
skips_received s found sci an before after old (inr (c, mid, hand, makes, up)) is js is_old =
    let a = accepted s.edition s.identity s.config c makes.0 makes.1 in
    let config : found.config ≡ config_after s.config c = up.config ∙ ap (λ (s : State). s.config) makes.2 ∙ a.1 in
    let there : (config_after s.config c).rx sci an ≡ Some after = ap (λ (c : Config). c.rx sci an) (sym config) ∙ js in
    let stay = numbers_stay s.edition s.identity s.config c s.numbers sci an before after old a.0 is there is_old in
    let mid_is : mid.numbers sci an ≡ Some stay.0 = ap (λ (s : State). s.numbers sci an) makes.2 ∙ stay.1 in
    let block : mid.identity ≡ s.identity = ap (λ (s : State). s.identity) makes.2 in
    let rises : RxRises s.identity.rx_block (Some stay.0) (found.numbers sci an) =
    subst (λ (i : Identity). RxRises i.rx_block (Some stay.0) (found.numbers sci an)) block
    (subst (λ (n : Option Numbers). RxRises mid.identity.rx_block n (found.numbers sci an)) mid_is
    (up.numbers sci an)) in
    moved_through s.identity.rx_block old stay.0 (found.numbers sci an) stay.2 stay.3
    (moved s.identity.rx_block stay.0 (found.numbers sci an) rises)

-- ---- what the command under way installs

none_there : {X : Type 0} (o : Option X) → o ≡ None → IsSome o → ⊥
none_there {X} o none is = false≢true (sym (ap (λ (x : Option X). is_some x) none) ∙ is)

begins_tx : (s new : State) (an : ℕ) (key : Key) (start : ℕ) (confidential : Bool) (offset : ℕ) → Restart s new
    → s.under_way ≡ Some (TxInstall an key start confidential offset) → s.config.tx an ≡ None
    → IsSome (new.config.tx an)
    → IsSomeAnd (new.next an) (λ later. IsSkipped s.identity.tx_block start later × (later ≤ 2 ^ 32))
begins_tx s new an key start confidential offset (inl up) asked free is =
    absurd (none_there (new.config.tx an) (ap (λ (c : Config). c.tx an) up.config ∙ free) is)
begins_tx s new an key start confidential offset (inr (c, mid, hand, makes, up)) asked free is =
    let one : c ≡ TxInstall an key start confidential offset =
    some_one s.under_way c (TxInstall an key start confidential offset) hand asked in
    let mid_next : mid.next an ≡ Some start =
    ap (λ (s : State). s.next an) makes.2 ∙ ap (λ (c : Command). next_after c s.next an) one
    ∙ put-this s.next an an (Some start) refl in
    found_of s mid new an start (ap (λ (s : State). s.identity) makes.2) mid_next up

-- nothing was seen on an association that is new, so that its numbers do not move
first_stay : (block start : ℕ) (found : Option Numbers) → RxRises block (Some (first_numbers start)) found
    → found ≡ Some (first_numbers start)
first_stay block start found (later, is_later, low, high) =
    let above : start ≤ later = low in
    let below : later ≤ start = high in
    let same : later ≡ start = omega (arith, above, below) in
    is_later ∙ ap (λ (n : ℕ). Some (first_numbers n)) same

begins_rx : (s found : State) (sci : List ℕ) (an : ℕ) (key : Key) (start offset : ℕ) → Restart s found
    → s.under_way ≡ Some (RxInstall sci an key start offset)
    → s.config.rx sci an ≡ None → IsSome (found.config.rx sci an) → found.numbers sci an ≡ Some (first_numbers start)
begins_rx s found sci an key start offset (inl up) asked free is =
    absurd (none_there (found.config.rx sci an) (ap (λ (c : Config). c.rx sci an) up.config ∙ free) is)
begins_rx s found sci an key start offset (inr (c, mid, hand, makes, up)) asked free is =
    let one : c ≡ RxInstall sci an key start offset =
    some_one s.under_way c (RxInstall sci an key start offset) hand asked in
    let mid_is : mid.numbers sci an ≡ Some (first_numbers start) =
    ap (λ (s : State). s.numbers sci an) makes.2 ∙ ap (λ (c : Command). numbers_after c s.numbers sci an) one
    ∙ put_rx-this s.numbers sci an sci an (Some (first_numbers start)) refl refl in
    first_stay mid.identity.rx_block start (found.numbers sci an)
    (subst (λ (n : Option Numbers). RxRises mid.identity.rx_block n (found.numbers sci an)) mid_is (up.numbers sci an))

-- ---- the laws

past_apart : (past : Past) → IsSoundPast past → HasNoneTwice (logs_of past).used
past_apart (Blank identities) is = pairs-none
past_apart (Formatted s) is = is.tx.apart

module _ (sectors : ℕ) where
  pub used-once : UsedOnce sectors
  used-once s m = (sound-moment sectors s m).tx.apart

  pub used-once-at-end : UsedOnceAtEnd sectors
  used-once-at-end lives past history = past_apart past (sound-history sectors lives past history)

  pub given-apart : GivenApart sectors
  given-apart s m on zero_window call reply new d step grows was =
      let is = sound-moment sectors s m in
      let a = added s.edition (core s) (core new) d (effect-of s call reply new step) grows in
      let here = is.rx.below (d.sci, a.an) (d.sci, d.key) (pair_is (core s) d a) in
      let is_m : here.0 ≡ a.n.next =
      some_one (option_map (λ (n : Numbers). n.next) (s.numbers d.sci a.an)) here.0 a.n.next here.1
      (ap (option_map (λ (n : Numbers). n.next)) a.is_n) in
      let low : d.pn < here.0 = here.2 d.pn was in
      let near : a.n.next ≤ a.n.lowest + s.config.replay.window = (is.window d.sci a.an a.n a.is_n).1 in
      let over : a.n.lowest ≤ d.pn = a.in_time on in
      omega (arith, is_m, low, near, over, zero_window)

  pub ok-apart : OkApart sectors
  ok-apart s m call reply new d step grows ok was =
      let logs = logs_of m.past in
      let opened = opened_state m.life.found logs in
      let floor = floor-steps (IsGiven logs.given) opened m.exchanges s m.life.steps
      (floor-opening m.life.found logs (sound-opened sectors s m).rx) in
      let a = added s.edition (core s) (core new) d (effect-of s call reply new step) grows in
      let here = floor.below (d.sci, a.an) (d.sci, d.key) (pair_is (core s) d a) in
      let is_m : here.0 ≡ a.n.lowest =
      some_one (option_map (λ (n : Numbers). n.lowest) (s.numbers d.sci a.an)) here.0 a.n.lowest here.1
      (ap (option_map (λ (n : Numbers). n.lowest)) a.is_n) in
      let low : d.pn < here.0 = here.2 d.pn was in
      let over : a.n.lowest ≤ d.pn = ok_above a.n d.pn (sym a.is_kind ∙ ok) in
      omega (arith, is_m, low, over)

  found_sound : (past : Past) (found : Standing) → IsFoundAfter sectors past found
      → IsSound (core (opened_state found (logs_of past)))
  found_sound past found is = sound-opening sectors past is.edition is.image found is.fits is.is_found
      (sound-history sectors is.lives past is.history)

  pub used-below : UsedBelow sectors
  used-below past found is = beyond_tx found (logs_of past) (found_sound past found is)

  pub given-below : GivenBelow sectors
  given-below past found is = beyond_rx found (logs_of past) (found_sound past found is)

  pub skips-few : SkipsFew sectors
  skips-few s edition image found fits is an before after next is_before is_after is_next =
      skips s (opened_state found s.logs) an before after next (fits-restart edition sectors image s found fits is)
      is_before is_after is_next

  pub skips-few-received : SkipsFewReceived sectors
  skips-few-received s edition image found fits is sci an before after old is_before is_after is_old =
      skips_received s (opened_state found s.logs) sci an before after old
      (fits-restart edition sectors image s found fits is) is_before is_after is_old

  pub begin-as-asked : BeginAsAsked sectors
  begin-as-asked s edition image found fits is =
      let restart = fits-restart edition sectors image s found fits is in (
        λ an key start confidential offset asked free there.
            begins_tx s (opened_state found s.logs) an key start confidential offset restart asked free there,
        λ sci an key start offset asked free there.
            begins_rx s (opened_state found s.logs) sci an key start offset restart asked free there,
      )
