-- What a power loss leaves fits the state: what is on the disk is a restart of it.
use Rattle.std.proofs.Common.{◌≡◌, ◌≤◌, ◌<◌, ◌^◌, ◌==◌, ◌&&◌, ◌∷◌, ◌∙◌, [], ℕ, zero, suc, Bool, true, false, not, cond}
use Rattle.std.proofs.Common.{if◌then◌else◌, inl, inr, List, bytes_eq, Option, Some, None, Result, Ok, Err, is_ok, refl}
use Rattle.std.proofs.Common.{sym, ap, subst, arith}
use Rattle.std.specs.Option.{option_map}
use Rattle.macs_config.specs.Apply.{IsCommand, Reason, apply, has_wrong_start}
use Rattle.macs_config.specs.Config.{Config, Edition}
use Rattle.macs_config.specs.Identity.{Identity}
use Rattle.macs_config.specs.Tables.{put, put_at}
use Rattle.macs_config.specs.declared.command.Command.{Command}
use Rattle.macs_config.specs.declared.command.Command.TheVariants.{SetValidate, SetReplay, SetSciMode, TxInstall, TxUse}
use Rattle.macs_config.specs.declared.command.Command.TheVariants.{TxRemove, RxAdd, RxDrop, RxInstall, RxRemove}
use Rattle.macs_config.proofs.Tables.{put_all}
use Rattle.macs_disk.specs.States.{Image}
use Rattle.macs_journal.specs.Areas.{least_sectors}
use Rattle.macs_txsc.specs.Value as txsc
use Rattle.macs_txsc.specs.declared.channel.Tx.{Tx}
use Rattle.macs_rxsc.specs.Receive.{Numbers, put_numbers, first_numbers, numbers_under_window}
use Rattle.macs_rxsc.specs.Value as rxsc
use Rattle.macs_store.specs.Found.{CommitLeaves, StandsFor}
use Rattle.macs_store.specs.Value.{standing_in}
use Rattle.macs_config.specs.Numbers.{block_beyond}
use Rattle.macs_store.specs.Standing.{Ceilings, Standing, accept, standing_or_refusal, ceilings_after}
use Rattle.macs_store.proofs.Keeping.{accepted-in_range}
use Rattle.macs_endpoint.specs.Value.{AreChannels, AreWithin, IsSoundEndpoint, IsRxWithin, IsTxWithin, EndpointValue}
use Rattle.macs_endpoint.specs.Restart.{Fits, Resumes, RxRises, TxRises, opened_state, state_during, state_taking}
use Rattle.macs_endpoint.specs.Restart.{state_taking_alone, state_taking_first}
use Rattle.macs_endpoint.specs.State.{Advances, Commands, State, state_with_under_way}
use Rattle.macs_endpoint.specs.Step.{next_after, numbers_after}
use Rattle.macs_endpoint.specs.declared.queue.Waiting.{Waiting}

-- ---- numbers and their ceilings

-- each association has its numbers and a ceiling that is not too far ahead, and a receive channel has four associations
-- at most
pub record AreAhead (identity : Identity) (next : ℕ → Option ℕ) (numbers : List ℕ → ℕ → Option Numbers)
    (c : Ceilings) : Type 0 where
  pub tx_ahead : (an : ℕ) → IsTxWithin identity.tx_block (next an) (c.tx an)
  pub rx_ahead : (sci : List ℕ) (an : ℕ) → IsRxWithin identity.rx_block (numbers sci an) (c.rx sci an)
  pub few : (sci : List ℕ) (an : ℕ) → 4 ≤ an → numbers sci an ≡ None

-- those of channels, and of the standing
pub channels-ahead : (tx : Tx) (rx : rxsc.RxValue) (s : Standing) → AreChannels tx rx s → AreWithin tx rx s.identity
    → AreAhead s.identity (txsc.tx_side_of tx).next (rxsc.rx_side_of rx).numbers s.ceilings
channels-ahead tx rx s channels within = record {
  tx_ahead =
      subst (λ (c : ℕ → Option ℕ). (an : ℕ) → IsTxWithin s.identity.tx_block ((txsc.tx_side_of tx).next an) (c an))
      channels.tx_ceilings within.tx_within;
  rx_ahead = subst (λ (c : List ℕ → ℕ → Option ℕ). (sci : List ℕ) (an : ℕ)
      → IsRxWithin s.identity.rx_block ((rxsc.rx_side_of rx).numbers sci an) (c sci an)) channels.rx_ceilings
      within.rx_within;
  few = within.few;
}

pub ahead-within : (tx : Tx) (rx : rxsc.RxValue) (s : Standing) → AreChannels tx rx s
    → AreAhead s.identity (txsc.tx_side_of tx).next (rxsc.rx_side_of rx).numbers s.ceilings → AreWithin tx rx s.identity
ahead-within tx rx s channels are = record {
  tx_within =
      subst (λ (c : ℕ → Option ℕ). (an : ℕ) → IsTxWithin s.identity.tx_block ((txsc.tx_side_of tx).next an) (c an))
      (sym channels.tx_ceilings) are.tx_ahead;
  rx_within = subst (λ (c : List ℕ → ℕ → Option ℕ). (sci : List ℕ) (an : ℕ)
      → IsRxWithin s.identity.rx_block ((rxsc.rx_side_of rx).numbers sci an) (c sci an)) (sym channels.rx_ceilings)
      are.rx_ahead;
  few = are.few;
}

pub kept-ahead : {D : Type 0} (e : EndpointValue D) → IsSoundEndpoint e
    → AreAhead (standing_in e.store).identity (txsc.tx_side_of e.tx).next (rxsc.rx_side_of e.rx).numbers
    (standing_in e.store).ceilings
kept-ahead e kept = channels-ahead e.tx e.rx (standing_in e.store) kept.channels kept.within

-- ---- one place changed

tx_by : (block : ℕ) (b : Bool) (n m c d : Option ℕ) → IsTxWithin block n c → IsTxWithin block m d
    → IsTxWithin block (cond b n m) (cond b c d)
tx_by block true n m c d here there = here
tx_by block false n m c d here there = there

pub tx-put : (block : ℕ) (next c : ℕ → Option ℕ) (at : ℕ) (n ceiling : Option ℕ) → IsTxWithin block n ceiling
    → ((an : ℕ) → IsTxWithin block (next an) (c an)) → (an : ℕ)
    → IsTxWithin block (put next at n an) (put c at ceiling an)
tx-put block next c at n ceiling here all an = tx_by block (an == at) n (next an) ceiling (c an) here (all an)

rx_by : (block : ℕ) (b : Bool) (n m : Option Numbers) (c d : Option ℕ) → IsRxWithin block n c → IsRxWithin block m d
    → IsRxWithin block (cond b n m) (cond b c d)
rx_by block true n m c d here there = here
rx_by block false n m c d here there = there

rx_of : (block : ℕ) (b : Bool) (n m : ℕ → Option Numbers) (c d : ℕ → Option ℕ) (an : ℕ) → IsRxWithin block (n an) (c an)
    → IsRxWithin block (m an) (d an)
    → IsRxWithin block ((cond b n m) an) ((cond b c d) an)
rx_of block true n m c d an here there = here
rx_of block false n m c d an here there = there

-- all associations of a channel
pub rx-put_all : (block : ℕ) (numbers : List ℕ → ℕ → Option Numbers) (c : List ℕ → ℕ → Option ℕ) (at : List ℕ) (n : ℕ
    → Option Numbers) (d : ℕ → Option ℕ)
    → ((an : ℕ) → IsRxWithin block (n an) (d an))
    → ((sci : List ℕ) (an : ℕ) → IsRxWithin block (numbers sci an) (c sci an))
    → (sci : List ℕ) (an : ℕ) → IsRxWithin block (put_at numbers at n sci an) (put_at c at d sci an)
rx-put_all block numbers c at n d here all sci an =
    rx_of block (bytes_eq sci at) n (numbers sci) d (c sci) an (here an) (all sci an)

-- and one of them
pub rx-put : (block : ℕ) (numbers : List ℕ → ℕ → Option Numbers) (c : List ℕ → ℕ → Option ℕ) (at : List ℕ) (number : ℕ)
    (n : Option Numbers) (ceiling : Option ℕ)
    → IsRxWithin block n ceiling → ((sci : List ℕ) (an : ℕ) → IsRxWithin block (numbers sci an) (c sci an))
    → (sci : List ℕ) (an : ℕ)
    → IsRxWithin block (put_numbers numbers at number n sci an) (put_at c at (put (c at) number ceiling) sci an)
rx-put block numbers c at number n ceiling here all =
    rx-put_all block numbers c at (put (numbers at) number n) (put (c at) number ceiling)
    (λ an. rx_by block (an == number) n (numbers at an) ceiling (c at an) here (all at an)) all

rx_windowed : (block window : ℕ) (n : Option Numbers) (c : Option ℕ) → IsRxWithin block n c
    → IsRxWithin block (option_map (numbers_under_window window) n) c
rx_windowed block window None None within = tt
rx_windowed block window None (Some c) within = absurd within
rx_windowed block window (Some n) None within = absurd within
rx_windowed block window (Some n) (Some c) within = within

few_of : (b : Bool) (n m : ℕ → Option Numbers) (an : ℕ) → n an ≡ None → m an ≡ None → (cond b n m) an ≡ None
few_of true n m an here there = here
few_of false n m an here there = there

-- a channel has four associations at most
few-put_all : (numbers : List ℕ → ℕ → Option Numbers) (at : List ℕ) (n : ℕ → Option Numbers)
    → ((an : ℕ) → 4 ≤ an → n an ≡ None)
    → ((sci : List ℕ) (an : ℕ) → 4 ≤ an → numbers sci an ≡ None) → (sci : List ℕ) (an : ℕ) → 4 ≤ an
    → put_at numbers at n sci an ≡ None
few-put_all numbers at n here all sci an over =
    few_of (bytes_eq sci at) n (numbers sci) an (here an over) (all sci an over)

few-put : (numbers : List ℕ → ℕ → Option Numbers) (at : List ℕ) (number : ℕ) (x : Option Numbers) → number < 4
    → ((sci : List ℕ) (an : ℕ) → 4 ≤ an → numbers sci an ≡ None) → (sci : List ℕ) (an : ℕ) → 4 ≤ an
    → put_numbers numbers at number x sci an ≡ None
few-put numbers at number x below all =
    few-put_all numbers at (put (numbers at) number x)
    (λ an over. put_all (λ (n : Option Numbers). n ≡ None) (numbers at) number x an
    (λ same. absurd (omega (arith, below, over, same))) (λ other. all at an over)) all

-- ---- a command

pub from_one : (start : ℕ) → (start == 0) ≡ false → 1 ≤ start
from_one zero is = absurd cc
from_one (suc n) is = omega arith

started_tx : (block start : ℕ) → 1 ≤ start → start < 2 ^ 32
    → IsTxWithin block (Some start) (Some (block_beyond start block))
started_tx block start least below = (least, omega (arith, below), omega (arith, below), omega arith)

-- with the numbers that a command makes go the ceilings that it makes, where its start is not 0
pub command-ahead : (identity : Identity) (command : Command) (next : ℕ → Option ℕ) (numbers : List ℕ → ℕ
    → Option Numbers) (c : Ceilings)
    → IsCommand command → has_wrong_start command ≡ false → AreAhead identity next numbers c
    → AreAhead identity (next_after command next) (numbers_after command numbers) (ceilings_after identity command c)
command-ahead identity (SetValidate validate) next numbers c ranges numbered are = are
command-ahead identity (SetReplay on window) next numbers c ranges numbered are = record {
  tx_ahead = are.tx_ahead;
  rx_ahead = λ sci an. rx_windowed identity.rx_block window (numbers sci an) (c.rx sci an) (are.rx_ahead sci an);
  few = λ sci an over. ap (option_map (numbers_under_window window)) (are.few sci an over);
}
command-ahead identity (SetSciMode mode) next numbers c ranges numbered are = are
command-ahead identity (TxInstall an key start confidential offset) next numbers c ranges numbered are = record {
  tx_ahead = tx-put identity.tx_block next c.tx an (Some start) (Some (block_beyond start identity.tx_block))
      (started_tx identity.tx_block start (from_one start numbered) ranges.2) are.tx_ahead;
  rx_ahead = are.rx_ahead;
  few = are.few;
}
command-ahead identity (TxUse an) next numbers c ranges numbered are = are
command-ahead identity (TxRemove an) next numbers c ranges numbered are = record {
  tx_ahead = tx-put identity.tx_block next c.tx an None None tt are.tx_ahead;
  rx_ahead = are.rx_ahead;
  few = are.few;
}
command-ahead identity (RxAdd sci) next numbers c ranges numbered are = are
command-ahead identity (RxDrop sci) next numbers c ranges numbered are = record {
  tx_ahead = are.tx_ahead;
  rx_ahead = rx-put_all identity.rx_block numbers c.rx sci (λ an. None) (λ an. None) (λ an. tt) are.rx_ahead;
  few = few-put_all numbers sci (λ an. None) (λ an over. refl) are.few;
}
command-ahead identity (RxInstall sci an key start offset) next numbers c ranges numbered are = record {
  tx_ahead = are.tx_ahead;
  rx_ahead = rx-put identity.rx_block numbers c.rx sci an (Some (first_numbers start)) (Some start)
      (omega arith, omega arith) are.rx_ahead;
  few = few-put numbers sci an (Some (first_numbers start)) ranges.1 are.few;
}
command-ahead identity (RxRemove sci an) next numbers c ranges numbered are = record {
  tx_ahead = are.tx_ahead;
  rx_ahead = rx-put identity.rx_block numbers c.rx sci an None None tt are.rx_ahead;
  few = few-put numbers sci an None ranges.1 are.few;
}

accepted_parts : (s : Standing) (command : Command) (result : Result Config Reason) (made : Standing)
    → standing_or_refusal s command result ≡ Ok made
    → (config : Config) × (result ≡ Ok config)
    × (made ≡ record s { config = config; ceilings = ceilings_after s.identity command s.ceilings })
accepted_parts s command (Ok config) made is = (config, refl, cc)
accepted_parts s command (Err refusal) made is = absurd cc

-- what a command that is accepted makes of a configuration and its ceilings
pub accept-parts : (s : Standing) (command : Command) (made : Standing) → accept s command ≡ Ok made
    → (config : Config) × (apply s.edition s.identity s.config command ≡ Ok config)
    × (made ≡ record s { config = config; ceilings = ceilings_after s.identity command s.ceilings })
accept-parts s command made is = accepted_parts s command (apply s.edition s.identity s.config command) made is

-- ---- a restart

tx_rises : (block : ℕ) (next ceiling : Option ℕ) → IsTxWithin block next ceiling → TxRises block next ceiling
tx_rises block None None within = refl
tx_rises block None (Some ceiling) within = absurd within
tx_rises block (Some next) None within = absurd within
tx_rises block (Some next) (Some ceiling) within = (ceiling, refl, within.1, within.2, within.3)

rx_rises : (block : ℕ) (numbers : Option Numbers) (ceiling : Option ℕ) → IsRxWithin block numbers ceiling
    → RxRises block numbers (option_map first_numbers ceiling)
rx_rises block None None within = refl
rx_rises block None (Some ceiling) within = absurd within
rx_rises block (Some numbers) None within = absurd within
rx_rises block (Some numbers) (Some ceiling) within = (ceiling, refl, within.0, within.1)

-- an endpoint goes on from the ceilings of its packet numbers
pub resumed : (s : State) (c : Ceilings) → AreAhead s.identity s.next s.numbers c
    → Resumes s
    (opened_state (record { edition = s.edition; identity = s.identity; config = s.config; ceilings = c }) s.logs)
resumed s c are = record {
  edition = record { channels = omega arith; long_keys = λ is. is; format_two = λ is. is };
  identity = refl;
  config = refl;
  next = λ an. tx_rises s.identity.tx_block (s.next an) (c.tx an) (are.tx_ahead an);
  numbers = λ sci an. rx_rises s.identity.rx_block (s.numbers sci an) (c.rx sci an) (are.rx_ahead sci an);
  logs = refl;
  running = refl;
  idle = refl;
  waiting = refl;
  tickets = refl;
}

-- ---- what fits a state

-- the same configuration with these ceilings
abbrev pub standing_with : State → Ceilings → Standing
standing_with s c = record { edition = s.edition; identity = s.identity; config = s.config; ceilings = c }

fits-if : (edition : Edition) (s t : State) (b : Bool) → (sectors : ℕ) (image : Image) → Fits edition sectors image t
    → Fits edition sectors image s
    → Fits edition sectors image (if b then t else s)
fits-if edition s t true sectors image taken fits = taken
fits-if edition s t false sectors image taken fits = fits

module _ (sectors : ℕ) (image : Image) (size : least_sectors ≤ sectors) where
  -- ceilings that are not too far ahead
  pub fits-ahead : (s : State) (c : Ceilings) → AreAhead s.identity s.next s.numbers c
      → StandsFor s.edition image (standing_with s c) → Fits s.edition sectors image s
  fits-ahead s c are finds =
      record { found = standing_with s c; is_found = (size, finds); restart = inl (resumed s c are) }

  -- what the command under way makes of the configuration
  pub fits-command : (s : State) (c : Ceilings) (command : Command) (made : Standing)
      → AreAhead s.identity s.next s.numbers c
      → IsCommand command → s.under_way ≡ Some command → accept (standing_with s c) command ≡ Ok made
      → StandsFor s.edition image made
      → Fits s.edition sectors image s
  fits-command s c command made are ranges holds accepts finds =
      let parts = accept-parts (standing_with s c) command made accepts in
      let config = parts.0 in
      let mid : State = record s {
        config = config;
        next = next_after command s.next;
        numbers = numbers_after command s.numbers;
        under_way = None;
      } in
      let later : AreAhead mid.identity mid.next mid.numbers (ceilings_after s.identity command c) =
      command-ahead s.identity command s.next s.numbers c ranges
      (accepted-in_range (standing_with s c) command (ap is_ok accepts)).0 are in
      record {
        found = standing_with mid (ceilings_after s.identity command c);
        is_found = (size, subst (StandsFor s.edition image) parts.2 finds);
        restart =
            inr (command, mid, holds, (config, parts.1, refl), resumed mid (ceilings_after s.identity command c) later);
      }

  -- what a power loss leaves while the command under way is kept
  pub fits-commit : (s : State) (c : Ceilings) (command : Command) → AreAhead s.identity s.next s.numbers c
      → IsCommand command
      → s.under_way ≡ Some command → CommitLeaves (standing_with s c) command image → Fits s.edition sectors image s
  fits-commit s c command are ranges holds left = elim left.0 [
    | inl before ↦ fits-ahead s c are before
    | inr later ↦ fits-command s c command later.0 are ranges holds later.1 later.2
  ]

  -- a command under way leaves what fits
  pub fits-holding : (edition : Edition) (s : State) (command : Command) → s.under_way ≡ None
      → Fits edition sectors image s
      → Fits edition sectors image (state_with_under_way s command)
  fits-holding edition s command free fits = record {
    found = fits.found;
    is_found = fits.is_found;
    restart = elim fits.restart [
      | inl is ↦ inl (record {
        edition = is.edition;
        identity = is.identity;
        config = is.config;
        next = is.next;
        numbers = is.numbers;
        logs = is.logs;
        running = is.running;
        idle = is.idle;
        waiting = is.waiting;
        tickets = is.tickets;
      })
      | inr is ↦ absurd (let held : Some is.0 ≡ None = sym is.2 ∙ free in cc)
    ];
  }

  -- and where it may be taken
  pub fits-taking : (edition : Edition) (s : State) (command : Command) → s.under_way ≡ None
      → Fits edition sectors image s
      → Fits edition sectors image (state_taking s command)
  fits-taking edition s command free fits =
      fits-if edition s (state_with_under_way s command)
      (not s.stopped && is_ok (apply s.edition s.identity s.config command)) sectors image
      (fits-holding edition s command free fits) fits

  fits-first : (edition : Edition) (s : State) (under_way : Option Command) (waiting : List Waiting)
      → s.under_way ≡ under_way
      → Fits edition sectors image s
      → Fits edition sectors image (state_taking_first s under_way waiting)
  fits-first edition s None [] free fits = fits
  fits-first edition s None (first ∷ rest) free fits = fits-taking edition s first.command free fits
  fits-first edition s (Some command) waiting holds fits = fits

  -- what fits the state before a step fits it while the step is made
  pub fits-advancing : (edition : Edition) (s : State) → Fits edition sectors image s
      → Fits edition sectors image (state_during s Advances)
  fits-advancing edition s fits = fits-first edition s s.under_way s.waiting refl fits

  fits-alone : (edition : Edition) (s : State) (command : Command) (waiting : List Waiting) → s.under_way ≡ None
      → Fits edition sectors image s
      → Fits edition sectors image (state_taking_alone s command waiting)
  fits-alone edition s command [] free fits = fits-taking edition s command free fits
  fits-alone edition s command (first ∷ rest) free fits = fits

  -- and while a command is kept
  pub fits-commanding : (edition : Edition) (s : State) (command : Command) → s.under_way ≡ None
      → Fits edition sectors image s
      → Fits edition sectors image (state_during s (Commands command))
  fits-commanding edition s command free fits = fits-alone edition s command s.waiting free fits
