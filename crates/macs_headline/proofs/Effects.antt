-- What a call does to the part of the state that the laws speak of.
use Rattle.std.proofs.Common.{◌≡◌, ◌≤◌, ◌<◌, ◌+◌, inl, inr, ℕ, ap, sym, ◌∙◌, refl, subst, List, ◌∷◌, true, Ok}
use Rattle.std.specs.Prelude.{Option, Some, None, IsSomeAnd}
use Rattle.std.specs.Option.{option_and_then}
use Rattle.std.proofs.lemmas.Bool.{cases_lt}
use Rattle.macs_frame.specs.Tag.{tag_of}
use Rattle.macs_config.specs.Apply.{apply}
use Rattle.macs_config.specs.Config.{Config, Edition}
use Rattle.macs_config.specs.Identity.{Identity}
use Rattle.macs_config.specs.Tables.{put}
use Rattle.macs_config.specs.declared.association.RxSa.{RxSa}
use Rattle.macs_config.specs.declared.association.TxSa.{TxSa}
use Rattle.macs_config.specs.declared.command.Command.{Command}
use Rattle.macs_txsc.specs.Transmit.{Outgoing, TxSide, outgoing_at, outgoing_with}
use Rattle.macs_rxsc.specs.Receive.{Arrival, Arrives, Numbers, RxSide, delivery_kind, numbers_after_delivery}
use Rattle.macs_rxsc.specs.Receive.{numbers_after_hold, numbers_of}
use Rattle.macs_endpoint.specs.State.{Call, Delivery, Reply, State, Use, rx_side, tx_side}
use Rattle.macs_endpoint.specs.Step.{Step, TakesUp, next_after, numbers_after}
use Rattle.macs_headline.proofs.Changes.{Begins, BeginsAndStops, Breaks, Change, Completes, Delivers, Drops, HoldsBack}
use Rattle.macs_headline.proofs.Changes.{Obeys, Queues, Sends, Stays, Stops, change-of}
use Rattle.macs_headline.proofs.Places.{put_rx}

-- the state but for its edition, for whether it is stopped, and for what is under way or waits
pub record Core : Type 0 where
  pub identity : Identity
  pub config : Config
  pub next : ℕ → Option ℕ
  pub numbers : List ℕ → ℕ → Option Numbers
  pub used : List Use
  pub given : List Delivery

abbrev pub core : State → Core
core s = record {
  identity = s.identity;
  config = s.config;
  next = s.next;
  numbers = s.numbers;
  used = s.logs.used;
  given = s.logs.given;
}

abbrev pub use_of : List ℕ → ℕ → Use
use_of key pn = record { key = key; pn = pn }

-- after a command that made this configuration
abbrev pub core_after_command : Core → Command → Config → Core
core_after_command old c config =
    record old { config = config; next = next_after c old.next; numbers = numbers_after c old.numbers }

-- after a frame went out
abbrev pub core_after_frame : Core → ℕ → TxSa → ℕ → Core
core_after_frame old an sa pn =
    record old { next = put old.next an (Some (pn + 1)); used = use_of sa.key pn ∷ old.used }

-- after a frame was held back
abbrev pub core_after_hold : Core → List ℕ → ℕ → Numbers → ℕ → Core
core_after_hold old sci an n pn = record old { numbers = put_rx old.numbers sci an (Some (numbers_after_hold n pn)) }

-- after a frame was delivered
abbrev pub core_after_delivery : Core → List ℕ → ℕ → RxSa → Numbers → ℕ → Core
core_after_delivery old sci an sa n pn = record old {
  numbers = put_rx old.numbers sci an (Some (numbers_after_delivery old.config.replay.window n pn));
  given = record { sci = sci; key = sa.key; pn = pn; kind = delivery_kind n pn } ∷ old.given;
}

-- The five things that a call may do. A command takes effect; a frame goes out with the next number of its association;
-- a frame that verified is held back, or delivered, which is not late where replay protection is on.
pub data Effect (edition : Edition) (old new : Core) : Type 0 where
  NoEffect : new ≡ old → Effect edition old new
  Commanded : (c : Command) (config : Config) → apply edition old.identity old.config c ≡ Ok config
      → new ≡ core_after_command old c config
      → Effect edition old new
  Sent : (an : ℕ) (sa : TxSa) (pn : ℕ) → old.config.tx an ≡ Some sa → old.next an ≡ Some pn
      → new ≡ core_after_frame old an sa pn
      → Effect edition old new
  Held : (sci : List ℕ) (an : ℕ) (n : Numbers) (pn : ℕ) → old.numbers sci an ≡ Some n
      → new ≡ core_after_hold old sci an n pn → Effect edition old new
  Given : (sci : List ℕ) (an : ℕ) (sa : RxSa) (n : Numbers) (pn : ℕ) → old.config.rx sci an ≡ Some sa
      → old.numbers sci an ≡ Some n
      → (old.config.replay.on ≡ true → n.lowest ≤ pn) → new ≡ core_after_delivery old sci an sa n pn
      → Effect edition old new

-- ---- what goes out

-- the association that frames go out under exists, with its next number
pub record IsOutgoing (side : TxSide) (encoding : Option ℕ) (o : Outgoing) : Type 0 where
  pub encoding_is : encoding ≡ Some o.an
  pub sa_is : side.tx o.an ≡ Some o.sa
  pub next_is : side.next o.an ≡ Some o.pn

outgoing_by : (side : TxSide) (an : ℕ) (sa : Option TxSa) (next : Option ℕ) (o : Outgoing) → side.tx an ≡ sa
    → side.next an ≡ next
    → outgoing_with an sa next ≡ Some o → IsOutgoing side (Some an) o
outgoing_by side an None None o has numbered is = absurd (cc)
outgoing_by side an None (Some pn) o has numbered is = absurd (cc)
outgoing_by side an (Some sa) None o has numbered is = absurd (cc)
outgoing_by side an (Some sa) (Some pn) o has numbered is =
    let same : record { an = an; sa = sa; pn = pn } ≡ o = cc in
    subst (λ (o : Outgoing). IsOutgoing side (Some an) o) same
    (record { encoding_is = refl; sa_is = has; next_is = numbered })

pub outgoing_is : (side : TxSide) (encoding : Option ℕ) (o : Outgoing) → outgoing_at side encoding ≡ Some o
    → IsOutgoing side encoding o
outgoing_is side None o is = absurd (cc)
outgoing_is side (Some an) o is = outgoing_by side an (side.tx an) (side.next an) o refl refl is

-- ---- what comes in

-- a frame that arrives is not late where replay protection is on
pub arrives-in-time : (side : RxSide) (frame : List ℕ) (a : Arrival) → Arrives side frame a → side.replay.on ≡ true
    → a.numbers.lowest ≤ a.pn
arrives-in-time side frame a there on =
    let not_late = there.unsettled.1.1.1.1.1.1.1.0 in
    let are : numbers_of side frame ≡ Some a.numbers =
    ap (option_and_then (λ sci. side.numbers sci (tag_of frame).an)) there.is_channel
    ∙ ap (λ (an : ℕ). side.numbers a.sci an) (sym there.is_an) ∙ there.are_numbers in
    elim (cases_lt a.pn a.numbers.lowest) [
      | inl below ↦
          let late : (tag_of frame).pn < a.numbers.lowest =
          subst (λ (pn : ℕ). pn < a.numbers.lowest) there.is_pn below in
          absurd
          (not_late (on, subst (λ n. IsSomeAnd n (λ (m : Numbers). (tag_of frame).pn < m.lowest)) (sym are) late))
      | inr over ↦ over
    ]

-- ---- calls

taken_up : (old new : State) → TakesUp old new → core new ≡ core old
taken_up old new (first, rest, waiting, idle, accepts, is) = ap core is

by_change : (old : State) (call : Call) (reply : Reply) (new : State) → Change old call reply new
    → Effect old.edition (core old) (core new)
by_change old call reply new (Stays is) = NoEffect (ap core is)
by_change old call reply new (Stops is) = NoEffect (ap core is)
by_change old call reply new (Obeys c asked none makes) = Commanded c makes.0 makes.1 (ap core makes.2)
by_change old call reply new (Breaks c asked told none accepts is) = NoEffect (ap core is)
by_change old call reply new (Queues c asked is) = NoEffect (ap core is)
by_change old call reply new (Begins asked takes) = NoEffect (taken_up old new takes)
by_change old call reply new (BeginsAndStops asked mid takes is) = NoEffect (ap core is ∙ taken_up old mid takes)
by_change old call reply new (Completes asked first rest waiting makes) =
    Commanded first.command makes.0 makes.1 (ap core makes.2)
by_change old call reply new (Drops asked first rest waiting is) = NoEffect (ap core is)
by_change old call reply new (Sends plain asked pn out (none, (o, is_o, is_pn, is_out, is))) =
    let there = outgoing_is (tx_side old) old.config.encoding o is_o in
    Sent o.an o.sa o.pn there.sa_is there.next_is (ap core is)
by_change old call reply new (HoldsBack frame asked a there is) =
    Held a.sci a.an a.numbers a.pn there.are_numbers (ap core is)
by_change old call reply new (Delivers frame asked a there is) =
    Given a.sci a.an a.sa a.numbers a.pn there.is_association there.are_numbers
    (arrives-in-time (rx_side old) frame a there) (ap core is)

pub effect-of : (old : State) (call : Call) (reply : Reply) (new : State) → Step old call reply new
    → Effect old.edition (core old) (core new)
effect-of old call reply new (inl (stopped, answer, is)) = NoEffect (ap core is)
effect-of old call reply new (inr (running, h)) = by_change old call reply new (change-of old new call reply h)
