-- The headline on packet numbers.
use Rattle.std.specs.Prelude.{◌≡◌, ◌≢◌, ◌<◌, ◌≤◌, ◌+◌, ◌/◌, ◌^◌, ◌++◌, ℕ, Bool, max, min, true, List, ◌∷◌, AllPairs}
use Rattle.std.specs.Prelude.{Some, None, IsSome, IsSomeAnd, Ok}
use Rattle.macs_aes.specs.declared.keys.Key.{Key}
use Rattle.macs_config.specs.Config.{Edition, is_spent, rx_fingerprint, tx_fingerprint}
use Rattle.macs_config.specs.declared.association.RxSa.{RxSa}
use Rattle.macs_config.specs.declared.association.TxSa.{TxSa}
use Rattle.macs_config.specs.declared.command.Command.TheVariants.{RxInstall, TxInstall}
use Rattle.macs_disk.specs.States.{Image}
use Rattle.macs_rxsc.specs.Receive.{Numbers}
use Rattle.macs_rxsc.specs.declared.verdict.Kind.TheVariants.{Ok as AsOk}
use Rattle.macs_store.specs.Found.{StandingIs}
use Rattle.macs_store.specs.Standing.{Standing}
use Rattle.macs_endpoint.specs.Restart.{Fits, opened_state}
use Rattle.macs_endpoint.specs.State.{Call, Delivery, Logs, Reply, State, Use}
use Rattle.macs_endpoint.specs.Step.{Step}
use Rattle.macs_headline.specs.History.{IsHistory, LeadOn, Life, Past, logs_of}
use Rattle.macs_headline.specs.Moments.{IsFoundAfter, Moment, WasGiven, WasUsed}

-- ---- nothing is forgotten

-- All that was used and delivered is in later logs, followed by what came later.
pub record AreHeldIn (old new : Logs) : Type 0 where
  pub used_since : List Use
  pub used : used_since ++ old.used ≡ new.used
  pub given_since : List Delivery
  pub given : given_since ++ old.given ≡ new.given

-- no life, and no moment of one, forgets what was used and delivered before
abbrev pub NothingForgotten : ℕ → Type 0
NothingForgotten sectors = (old new : Past) (lives : List Life) → LeadOn sectors old lives new
    → AreHeldIn (logs_of old) (logs_of new)

-- ---- no number twice

-- no two of these have the same key and packet number
abbrev pub HasNoneTwice : List Use → Type 0
HasNoneTwice used = AllPairs {X = Use} (λ a b. a ≢ b) used

-- at each moment of each life, no two frames that were written in all lives have the same key and packet number
abbrev pub UsedOnce : ℕ → Type 0
UsedOnce sectors = (s : State) → Moment sectors s → HasNoneTwice s.logs.used

-- nor at the end of a history; the frame of an interrupted `protect` is in no list
abbrev pub UsedOnceAtEnd : ℕ → Type 0
UsedOnceAtEnd sectors = (lives : List Life) (past : Past) → IsHistory sectors lives past
    → HasNoneTwice (logs_of past).used

-- If replay protection is on with window 0, no call delivers as Ok or Delayed what was delivered as Ok or Delayed in
-- any life on an association with the same SCI and key.
abbrev pub GivenApart : ℕ → Type 0
GivenApart sectors = (s : State) → Moment sectors s → s.config.replay.on ≡ true → s.config.replay.window ≡ 0
    → (call : Call) (reply : Reply) (new : State) (d : Delivery) → Step s call reply new
    → new.logs.given ≡ d ∷ s.logs.given
    → ¬ WasGiven s.logs d.sci d.key d.pn

-- For any window, no call delivers as Ok what was delivered before this life on an association with the same SCI and
-- key.
abbrev pub OkApart : ℕ → Type 0
OkApart sectors = (s : State) (m : Moment sectors s) (call : Call) (reply : Reply) (new : State) (d : Delivery)
    → Step s call reply new → new.logs.given ≡ d ∷ s.logs.given → d.kind ≡ AsOk
    → ¬ WasGiven (logs_of m.past) d.sci d.key d.pn

-- ---- what is found is greater than what was used

-- The key is spent on the transmit side, and each association with that key begins above this number.
pub record IsBeyondTx (found : Standing) (key : List ℕ) (pn : ℕ) : Type 0 where
  pub spent : is_spent found.config.spent_tx (tx_fingerprint key) ≡ true
  pub below : (an : ℕ) (sa : TxSa) → found.config.tx an ≡ Some sa → sa.key ≡ key
      → IsSomeAnd (found.ceilings.tx an) (λ next. pn < next)

-- in every image, of each number that was used before
abbrev pub UsedBelow : ℕ → Type 0
UsedBelow sectors = (past : Past) (found : Standing) → IsFoundAfter sectors past found
    → (key : List ℕ) (pn : ℕ) → WasUsed (logs_of past) key pn → IsBeyondTx found key pn

-- The key is spent for this SCI on the receive side, and each association of the SCI with that key begins above this
-- number.
pub record IsBeyondRx (found : Standing) (sci key : List ℕ) (pn : ℕ) : Type 0 where
  pub spent : is_spent found.config.spent_rx (rx_fingerprint sci key) ≡ true
  pub below : (an : ℕ) (sa : RxSa) → found.config.rx sci an ≡ Some sa → sa.key ≡ key
      → IsSomeAnd (found.ceilings.rx sci an) (λ next. pn < next)

-- in every image, of each number that was delivered before
abbrev pub GivenBelow : ℕ → Type 0
GivenBelow sectors = (past : Past) (found : Standing) → IsFoundAfter sectors past found
    → (sci key : List ℕ) (pn : ℕ) → WasGiven (logs_of past) sci key pn → IsBeyondRx found sci key pn

-- ---- and not much greater

-- How a restart changes the next packet number of a transmit association: it does not fall, and at most a block and a
-- half of its numbers are skipped.
abbrev pub IsSkipped : ℕ → ℕ → ℕ → Type 0
IsSkipped block next later = (next ≤ later) × (later ≤ next + (block + block / 2))

-- This holds of each transmit association that a restart keeps, for every state of which it is a restart: it has a next
-- packet number again, which is at most 2^32, one more than the last packet number.
abbrev pub SkipsFew : ℕ → Type 0
SkipsFew sectors = (s : State) (edition : Edition) (image : Image) (found : Standing) → Fits edition sectors image s
    → StandingIs edition sectors image (Ok found) → (an : ℕ) (before after : TxSa) (next : ℕ)
    → s.config.tx an ≡ Some before → found.config.tx an ≡ Some after → s.next an ≡ Some next
    → IsSomeAnd ((opened_state found s.logs).next an)
    (λ later. IsSkipped s.identity.tx_block next later × (later ≤ 2 ^ 32))

-- How a restart changes the numbers of a receive association: next and lowest become one number. It is no smaller than
-- next was, and at most that or, if it is greater, a block beyond the greatest number seen, limited to 2^32, one more
-- than the last packet number; if none was seen it is what next was. None is seen yet.
pub record IsMoved (block : ℕ) (old new : Numbers) : Type 0 where
  pub level : new.lowest ≡ new.next
  pub rises : old.next ≤ new.next
  pub unseen : old.seen ≡ None → new.next ≡ old.next
  pub seen : (last : ℕ) → old.seen ≡ Some last → new.next ≤ max old.next (min (last + block) (2 ^ 32))
  pub fresh : new.seen ≡ None

-- This holds of each receive association that a restart keeps, for every state of which it is a restart: it has numbers
-- again.
abbrev pub SkipsFewReceived : ℕ → Type 0
SkipsFewReceived sectors = (s : State) (edition : Edition) (image : Image) (found : Standing)
    → Fits edition sectors image s
    → StandingIs edition sectors image (Ok found) → (sci : List ℕ) (an : ℕ) (before after : RxSa) (old : Numbers)
    → s.config.rx sci an ≡ Some before → found.config.rx sci an ≡ Some after → s.numbers sci an ≡ Some old
    → IsSomeAnd ((opened_state found s.logs).numbers sci an) (λ new. IsMoved s.identity.rx_block old new)

-- An association that the command under way installs, and that an opening finds, begins as the command requests: a
-- transmit association with that next packet number, or one at most a block and a half greater, and at most 2^32; a
-- receive association with next and lowest there, and nothing seen.
abbrev pub BeginAsAsked : ℕ → Type 0
BeginAsAsked sectors = (s : State) (edition : Edition) (image : Image) (found : Standing) → Fits edition sectors image s
    → StandingIs edition sectors image (Ok found)
    → ((an : ℕ) (key : Key) (start : ℕ) (confidential : Bool) (offset : ℕ)
    → s.under_way ≡ Some (TxInstall an key start confidential offset)
    → s.config.tx an ≡ None → IsSome (found.config.tx an)
    → IsSomeAnd ((opened_state found s.logs).next an)
    (λ later. IsSkipped s.identity.tx_block start later × (later ≤ 2 ^ 32)))
    × ((sci : List ℕ) (an : ℕ) (key : Key) (start offset : ℕ) → s.under_way ≡ Some (RxInstall sci an key start offset)
    → s.config.rx sci an ≡ None → IsSome (found.config.rx sci an)
    → (opened_state found s.logs).numbers sci an ≡ Some (record { next = start; lowest = start; seen = None }))
