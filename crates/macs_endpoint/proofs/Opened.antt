-- The channels of a disk that was opened: tables filled number by number, and channel by channel.
use Rattle.std.proofs.Common.{◌≡◌, ◌∙◌, ◌≤◌, ◌<◌, ◌+◌, ℕ, zero, suc, Bool, true, false, cond, List, [], ◌∷◌, length}
use Rattle.std.proofs.Common.{take, get_or, Option, Some, None, is_some, IsSome, IfSome, bytes_eq, refl, ap, sym, subst}
use Rattle.std.proofs.Common.{arith}
use Rattle.std.specs.Option.{option_map}
use Rattle.std.proofs.lemmas.Bool.{or_left}
use Rattle.std.proofs.lemmas.List.{take_all}
use Rattle.std.proofs.Math.Path.{fun_ext}
use Rattle.macs_config.specs.Config.{Config, IsConfig, this_edition, is_among, is_ascending, put_among}
use Rattle.macs_config.specs.Identity.{Identity}
use Rattle.macs_config.specs.Tables.{put, put_at}
use Rattle.macs_config.specs.declared.association.RxSa.{RxSa}
use Rattle.macs_config.specs.declared.command.SciMode.{SciMode}
use Rattle.macs_config.proofs.Channels.{among-put_among, bytes_eq-itself}
use Rattle.macs_txsc.specs.Transmit as transmit
use Rattle.macs_txsc.specs.Transmit.{TxSide}
use Rattle.macs_txsc.specs.Value as txsc
use Rattle.macs_txsc.specs.declared.channel.Tx.{Tx}
use Rattle.macs_rxsc.specs.Counting as receive
use Rattle.macs_rxsc.specs.Counting.{no_channel_counts}
use Rattle.macs_rxsc.specs.Receive.{AreOrdered, Numbers, RxSide, IsNumbered, has_channel, new_rx_side, first_numbers}
use Rattle.macs_rxsc.specs.Receive.{numbers_under_window}
use Rattle.macs_rxsc.specs.Value as rxsc
use Rattle.macs_rxsc.specs.declared.counters.ChannelCounters.{ChannelCounters}
use Rattle.macs_store.specs.Standing.{IsStanding, Standing}
use Rattle.macs_store.proofs.Ascending.{IsNext, next-free, put-next}
use Rattle.macs_store.proofs.Filling.{among, among-all, among-more, below, below-all, below-more, below-next}
use Rattle.macs_store.proofs.Filling.{below-none, below-passed, filled-all, filled-more, filled-next}
use Rattle.macs_store.proofs.Filling.{filled-passed}
use Rattle.macs_endpoint.specs.Counting.{new_channel_counters}
use Rattle.macs_endpoint.specs.State.{rx_side_with, tx_side_with}
use Rattle.macs_endpoint.proofs.Following.{with_rx, with_tx}

-- ---- the channels in their order

-- the one that a loop over the channels of a configuration is at
pub is-next : (identity : Identity) (read stands : Config) (items : List (List ℕ)) (i : ℕ) (sci : List ℕ)
    → IsConfig this_edition identity read
    → items ≡ read.channels → read ≡ stands → i < length items → sci ≡ get_or items i sci → IsNext stands.channels i sci
is-next identity read stands items i sci is same_items same within there =
    let channels = same_items ∙ ap (λ (c : Config). c.channels) same in
    record {
      ascend = subst (λ (c : Config). is_ascending c.channels ≡ true) same is.channels_ascend;
      within = subst (λ (xs : List (List ℕ)). i < length xs) channels within;
      there = subst (λ (xs : List (List ℕ)). sci ≡ get_or xs i sci) channels there;
    }

-- ---- the standing is read

-- without an association there are no numbers, and no ceiling
pub none_numbered : (window : ℕ) (sa : Option RxSa) (n : Option Numbers) (ceiling : Option ℕ)
    → IsNumbered window sa n ceiling → sa ≡ None
    → (n ≡ None) × (ceiling ≡ None)
none_numbered window sa None None stands is = (refl, refl)
none_numbered window None (Some n) None stands is = absurd stands
none_numbered window None (Some n) (Some ceiling) stands is = absurd stands
none_numbered window None None (Some ceiling) stands is = absurd stands
none_numbered window (Some sa) n ceiling stands is = cc

-- two tables that agree on what is there
pub none_too : {A B : Type 0} (a : Option A) (b : Option B) → is_some a ≡ is_some b → b ≡ None → a ≡ None
none_too None b same none = refl
none_too (Some x) b same none = let there = same ∙ ap is_some none in cc

-- the numbers that a receive association begins with
abbrev pub beginning : Standing → List ℕ → ℕ → Option Numbers
beginning s sci an = option_map first_numbers (s.ceilings.rx sci an)

-- ---- sides

-- the transmit side with the associations below a number
abbrev pub tx_filled : Standing → ℕ → TxSide
tx_filled s n = record {
  sci = s.identity.sci;
  mode = s.config.mode;
  encoding = None;
  tx = below n s.config.tx;
  next = below n s.ceilings.tx;
}

-- a receive side with the associations of a channel below a number
abbrev pub rx_filled : RxSide → Standing → List ℕ → ℕ → RxSide
rx_filled old s sci n = record old {
  rx = put_at old.rx sci (below n (s.config.rx sci));
  numbers = put_at old.numbers sci (below n (beginning s sci));
}

-- a receive side with all associations of a channel
abbrev pub with_channel : Standing → List ℕ → RxSide → RxSide
with_channel s sci side =
    record side { rx = put_at side.rx sci (s.config.rx sci); numbers = put_at side.numbers sci (beginning s sci) }

-- the receive side with these channels
abbrev pub rx_opened : Standing → List (List ℕ) → RxSide
rx_opened s scis = record {
  validate = s.config.validate;
  replay = s.config.replay;
  channels = scis;
  rx = among scis s.config.rx (λ an. None);
  numbers = among scis (beginning s) (λ an. None);
}

-- what two tables that agree on what is there do not have
no_sa : {A B : Type 0} (ceiling : Option A) (sa : Option B) → is_some ceiling ≡ is_some sa → ceiling ≡ None → sa ≡ None
no_sa ceiling sa same none = none_too sa ceiling (sym same) none

-- the four numbers are at their own places
pub number_is : (numbers : List ℕ) (place d : ℕ) → numbers ≡ 0 ∷ 1 ∷ 2 ∷ 3 ∷ [] → place < 4
    → get_or numbers place d ≡ place
number_is numbers place d are within = ap (λ (ns : List ℕ). get_or ns place d) are ∙ at place within
  where
    at : (k : ℕ) → k < 4 → get_or (0 ∷ 1 ∷ 2 ∷ 3 ∷ []) k d ≡ k
    at zero below = refl
    at (suc zero) below = refl
    at (suc (suc zero)) below = refl
    at (suc (suc (suc zero))) below = refl
    at (suc (suc (suc (suc k)))) below = absurd (omega arith)

-- ---- the transmit channel

-- the associations below a number are installed
pub record IsTxFilled (s : Standing) (tx : Tx) (n : ℕ) : Type 0 where
  pub side : txsc.tx_side_of tx ≡ tx_filled s n
  pub ceilings : txsc.ceilings_of tx ≡ below n s.ceilings.tx
  pub counters : txsc.counters_of tx ≡ transmit.no_counts

module _ (s : Standing) (is : IsStanding s) (now : Tx) (n an : ℕ) (so_far : IsTxFilled s now n) (number : an ≡ n) where
  pub tx-next-empty : (txsc.tx_side_of now).tx an ≡ None
  tx-next-empty = ap (λ (t : TxSide). t.tx an) so_far.side ∙ ap (below n s.config.tx) number ∙ below-next s.config.tx n

  pub tx-one-more : (ceiling next : ℕ) (new : Tx) → Some ceiling ≡ s.ceilings.tx an → next ≡ ceiling
      → txsc.tx_side_of new ≡ with_tx (txsc.tx_side_of now) an next (s.config.tx an)
      → txsc.ceilings_of new ≡ put (txsc.ceilings_of now) an (s.ceilings.tx an)
      → txsc.counters_of new ≡ txsc.counters_of now → IsTxFilled s new (n + 1)
  tx-one-more ceiling next new found same added ceilings counters =
      let tx = below-more s.config.tx n (s.config.tx n) refl in
      let numbers =
      below-more s.ceilings.tx n (Some next) (ap s.ceilings.tx (sym number) ∙ sym found ∙ ap Some (sym same)) in
      let more : with_tx (tx_filled s n) n next (s.config.tx n) ≡ tx_filled s (n + 1) =
      λ i. record (tx_filled s n) { tx = tx i; next = numbers i } in
      record {
        side = added ∙ ap (λ (t : TxSide). with_tx t an next (s.config.tx an)) so_far.side
            ∙ ap (λ (k : ℕ). with_tx (tx_filled s n) k next (s.config.tx k)) number ∙ more;
        ceilings = ceilings ∙ ap (λ (f : ℕ → Option ℕ). put f an (s.ceilings.tx an)) so_far.ceilings
            ∙ ap (λ (k : ℕ). put (below n s.ceilings.tx) k (s.ceilings.tx k)) number
            ∙ below-more s.ceilings.tx n (s.ceilings.tx n) refl;
        counters = counters ∙ so_far.counters;
      }

  pub tx-passed : None ≡ s.ceilings.tx an → IsTxFilled s now (n + 1)
  tx-passed none =
      let no_ceiling : s.ceilings.tx n ≡ None = ap s.ceilings.tx (sym number) ∙ sym none in
      let tx = below-passed s.config.tx n (no_sa (s.ceilings.tx n) (s.config.tx n) (is.tx n) no_ceiling) in
      let numbers = below-passed s.ceilings.tx n no_ceiling in
      let more : tx_filled s n ≡ tx_filled s (n + 1) = λ i. record (tx_filled s n) { tx = tx i; next = numbers i } in
      record { side = so_far.side ∙ more; ceilings = so_far.ceilings ∙ numbers; counters = so_far.counters }

-- a new channel with this mode
pub tx-unfilled : (s : Standing) (sci : List ℕ) (mode : SciMode) (first tx : Tx) → sci ≡ s.identity.sci
    → mode ≡ s.config.mode
    → txsc.tx_side_of first ≡ transmit.new_tx_side sci
    → txsc.tx_side_of tx ≡ record (txsc.tx_side_of first) { mode = mode }
    → txsc.ceilings_of first ≡ (λ an. None) → txsc.ceilings_of tx ≡ txsc.ceilings_of first
    → txsc.counters_of first ≡ transmit.no_counts → txsc.counters_of tx ≡ txsc.counters_of first → IsTxFilled s tx 0
tx-unfilled s sci mode first tx same_sci same_mode new set no_ceilings ceilings none_counted counters =
    let sas = sym (below-none s.config.tx) in
    let numbers = sym (below-none s.ceilings.tx) in
    let begun : record (transmit.new_tx_side sci) { mode = mode } ≡ tx_filled s 0 =
    λ i. record { sci = same_sci i; mode = same_mode i; encoding = None; tx = sas i; next = numbers i } in
    record {
      side = set ∙ ap (λ (t : TxSide). record t { mode = mode }) new ∙ begun;
      ceilings = ceilings ∙ no_ceilings ∙ numbers;
      counters = counters ∙ none_counted;
    }

-- those of a standing have no number above 3
pub no_tx_ceiling : (s : Standing) → IsStanding s → ((an : ℕ) → 4 ≤ an → s.config.tx an ≡ None) → (an : ℕ) → 4 ≤ an
    → s.ceilings.tx an ≡ None
no_tx_ceiling s is none an past = none_too (s.ceilings.tx an) (s.config.tx an) (is.tx an) (none an past)

module _ (s : Standing) (is : IsStanding s) (tx : Tx) (n : ℕ) (filled : IsTxFilled s tx n) (end : 4 ≤ n)
    (none : (an : ℕ) → 4 ≤ an → s.config.tx an ≡ None) where
  -- the transmit side when all are installed
  abbrev all_tx : TxSide
  all_tx =
      record { sci = s.identity.sci; mode = s.config.mode; encoding = None; tx = s.config.tx; next = s.ceilings.tx }

  pub tx-all : txsc.tx_side_of tx ≡ all_tx
  tx-all =
      let sas = below-all s.config.tx n (λ k past. none k (omega arith)) in
      let numbers = below-all s.ceilings.tx n (λ k past. no_tx_ceiling s is none k (omega arith)) in
      let more : tx_filled s n ≡ all_tx = λ i. record (tx_filled s n) { tx = sas i; next = numbers i } in
      filled.side ∙ more

  -- and the one that frames go out under is selected
  pub tx-selected : (an : ℕ) (side : TxSide) → Some an ≡ s.config.encoding
      → side ≡ record (txsc.tx_side_of tx) { encoding = Some an }
      → side ≡ tx_side_with s.identity s.config s.ceilings.tx
  tx-selected an side same is =
      let more : record all_tx { encoding = Some an } ≡ tx_side_with s.identity s.config s.ceilings.tx =
      λ i. record all_tx { encoding = same i } in
      is ∙ ap (λ (t : TxSide). record t { encoding = Some an }) tx-all ∙ more

  pub tx-unselected : None ≡ s.config.encoding → txsc.tx_side_of tx ≡ tx_side_with s.identity s.config s.ceilings.tx
  tx-unselected same =
      let more : all_tx ≡ tx_side_with s.identity s.config s.ceilings.tx = λ i. record all_tx { encoding = same i } in
      tx-all ∙ more

  pub select-stands : (an : ℕ) → IfSome s.config.encoding (λ an. IsSome (s.config.tx an)) → Some an ≡ s.config.encoding
      → IsSome ((txsc.tx_side_of tx).tx an)
  select-stands an stands found =
      ap (λ (t : TxSide). is_some (t.tx an)) tx-all
      ∙ subst (λ (o : Option ℕ). IfSome o (λ an. IsSome (s.config.tx an))) (sym found) stands

  pub tx-all-ceilings : txsc.ceilings_of tx ≡ s.ceilings.tx
  tx-all-ceilings = filled.ceilings ∙ below-all s.ceilings.tx n (λ k past. no_tx_ceiling s is none k (omega arith))

-- ---- a receive channel

-- its associations below a number are installed
pub record IsRxFilled (s : Standing) (sci : List ℕ) (old new : rxsc.RxValue) (n : ℕ) : Type 0 where
  pub side : rxsc.rx_side_of new ≡ rx_filled (rxsc.rx_side_of old) s sci n
  pub ceilings : rxsc.ceilings_of new ≡ put_at (rxsc.ceilings_of old) sci (below n (s.ceilings.rx sci))
  pub counters : rxsc.counters_of new ≡ rxsc.counters_of old
  pub channel_counters : rxsc.channel_counters_of new ≡ rxsc.channel_counters_of old

module _ (s : Standing) (is : IsStanding s) (sci : List ℕ) (old now : rxsc.RxValue) (n an : ℕ)
    (so_far : IsRxFilled s sci old now n)
    (number : an ≡ n) where
  pub rx-next-empty : (rxsc.rx_side_of now).rx sci an ≡ None
  rx-next-empty =
      ap (λ (r : RxSide). r.rx sci an) so_far.side
      ∙ ap (put_at (rxsc.rx_side_of old).rx sci (below n (s.config.rx sci)) sci) number
      ∙ filled-next (s.config.rx sci) (rxsc.rx_side_of old).rx sci n

  pub rx-one-more : (ceiling next : ℕ) (new : rxsc.RxValue) → Some ceiling ≡ s.ceilings.rx sci an → next ≡ ceiling
      → rxsc.rx_side_of new ≡ with_rx (rxsc.rx_side_of now) sci an next (s.config.rx sci an)
      → rxsc.ceilings_of new
      ≡ put_at (rxsc.ceilings_of now) sci (put (rxsc.ceilings_of now sci) an (s.ceilings.rx sci an))
      → rxsc.counters_of new ≡ rxsc.counters_of now → rxsc.channel_counters_of new ≡ rxsc.channel_counters_of now
      → IsRxFilled s sci old new (n + 1)
  rx-one-more ceiling next new found same added ceilings counters channel_counters =
      let side = rxsc.rx_side_of old in
      let here : s.ceilings.rx sci n ≡ Some next = ap (s.ceilings.rx sci) (sym number) ∙ sym found
      ∙ ap Some (sym same) in
      let rx = filled-more (s.config.rx sci) side.rx sci n (s.config.rx sci n) refl in
      let numbers = filled-more (beginning s sci) side.numbers sci n (Some (first_numbers next))
      (ap (option_map first_numbers) here) in
      let more : with_rx (rx_filled side s sci n) sci n next (s.config.rx sci n) ≡ rx_filled side s sci (n + 1) =
      λ i. record side { rx = rx i; numbers = numbers i } in
      record {
        side = added ∙ ap (λ (r : RxSide). with_rx r sci an next (s.config.rx sci an)) so_far.side
            ∙ ap (λ (k : ℕ). with_rx (rx_filled side s sci n) sci k next (s.config.rx sci k)) number ∙ more;
        ceilings = ceilings
            ∙ ap (λ (f : List ℕ → ℕ → Option ℕ). put_at f sci (put (f sci) an (s.ceilings.rx sci an))) so_far.ceilings
            ∙ ap (λ (k : ℕ). put_at (put_at (rxsc.ceilings_of old) sci (below n (s.ceilings.rx sci))) sci
            (put (put_at (rxsc.ceilings_of old) sci (below n (s.ceilings.rx sci)) sci) k (s.ceilings.rx sci k))) number
            ∙ filled-more (s.ceilings.rx sci) (rxsc.ceilings_of old) sci n (s.ceilings.rx sci n) refl;
        counters = counters ∙ so_far.counters;
        channel_counters = channel_counters ∙ so_far.channel_counters;
      }

  pub rx-passed : None ≡ s.ceilings.rx sci an → IsRxFilled s sci old now (n + 1)
  rx-passed none =
      let side = rxsc.rx_side_of old in
      let no_ceiling : s.ceilings.rx sci n ≡ None = ap (s.ceilings.rx sci) (sym number) ∙ sym none in
      let rx = filled-passed (s.config.rx sci) side.rx sci n
      (no_sa (s.ceilings.rx sci n) (s.config.rx sci n) (is.rx sci n) no_ceiling) in
      let numbers = filled-passed (beginning s sci) side.numbers sci n (ap (option_map first_numbers) no_ceiling) in
      let more : rx_filled side s sci n ≡ rx_filled side s sci (n + 1) =
      λ i. record side { rx = rx i; numbers = numbers i } in
      record {
        side = so_far.side ∙ more;
        ceilings = so_far.ceilings ∙ filled-passed (s.ceilings.rx sci) (rxsc.ceilings_of old) sci n no_ceiling;
        counters = so_far.counters;
        channel_counters = so_far.channel_counters;
      }

-- what receive channels have where nothing is installed
module _ (s : Standing) (sci : List ℕ) (old : rxsc.RxValue) (empty : (an : ℕ) → (rxsc.rx_side_of old).rx sci an ≡ None)
    (ordered : (sci : List ℕ) (an : ℕ) → AreOrdered (rxsc.rx_side_of old) (rxsc.ceilings_of old) sci an) where
  nothing : (an : ℕ) → ((rxsc.rx_side_of old).numbers sci an ≡ None) × (rxsc.ceilings_of old sci an ≡ None)
  nothing an =
      none_numbered (rxsc.rx_side_of old).replay.window ((rxsc.rx_side_of old).rx sci an)
      ((rxsc.rx_side_of old).numbers sci an) (rxsc.ceilings_of old sci an)
      (ordered sci an) (empty an)

module _ (s : Standing) (is : IsStanding s) (sci : List ℕ) (old new : rxsc.RxValue) (n : ℕ)
    (filled : IsRxFilled s sci old new n) (end : 4 ≤ n)
    (none : (sci : List ℕ) (an : ℕ) → 4 ≤ an → s.config.rx sci an ≡ None) where
  no_rx_ceiling : (an : ℕ) → 4 ≤ an → s.ceilings.rx sci an ≡ None
  no_rx_ceiling an past = none_too (s.ceilings.rx sci an) (s.config.rx sci an) (is.rx sci an) (none sci an past)

  pub rx-all : rxsc.rx_side_of new ≡ with_channel s sci (rxsc.rx_side_of old)
  rx-all =
      let side = rxsc.rx_side_of old in
      let rx = filled-all (s.config.rx sci) side.rx sci n (λ k past. none sci k (omega arith)) in
      let numbers = filled-all (beginning s sci) side.numbers sci n
      (λ k past. ap (option_map first_numbers) (no_rx_ceiling k (omega arith))) in
      let more : rx_filled side s sci n ≡ with_channel s sci side =
      λ i. record side { rx = rx i; numbers = numbers i } in
      filled.side ∙ more

  pub rx-all-ceilings : rxsc.ceilings_of new ≡ put_at (rxsc.ceilings_of old) sci (s.ceilings.rx sci)
  rx-all-ceilings = filled.ceilings
      ∙ filled-all (s.ceilings.rx sci) (rxsc.ceilings_of old) sci n (λ k past. no_rx_ceiling k (omega arith))

-- ---- the receive channels

-- these channels are opened
pub record IsRxOpened (s : Standing) (rx : rxsc.RxValue) (scis : List (List ℕ)) : Type 0 where
  pub side : rxsc.rx_side_of rx ≡ rx_opened s scis
  pub ceilings : rxsc.ceilings_of rx ≡ among scis s.ceilings.rx (λ an. None)
  pub counters : rxsc.counters_of rx ≡ receive.no_counts
  pub channel_counters : rxsc.channel_counters_of rx ≡ new_channel_counters scis

module _ (s : Standing) (scis : List (List ℕ)) (i : ℕ) (sci : List ℕ) (is : IsNext scis i sci) (now : rxsc.RxValue)
    (so_far : IsRxOpened s now (take i scis)) where
  pub add-free : has_channel (rxsc.rx_side_of now) sci ≡ false
  add-free = ap (λ (r : RxSide). has_channel r sci) so_far.side ∙ next-free scis i sci is

  module _ (mid : rxsc.RxValue) (added : rxsc.rx_side_of mid
      ≡ record (rxsc.rx_side_of now) { channels = put_among sci (rxsc.rx_side_of now).channels }) where
    added_is : rxsc.rx_side_of mid ≡ record (rx_opened s (take i scis)) { channels = put_among sci (take i scis) }
    added_is = added ∙ ap (λ (r : RxSide). record r { channels = put_among sci r.channels }) so_far.side

    pub added-stands : has_channel (rxsc.rx_side_of mid) sci ≡ true
    added-stands =
        ap (λ (r : RxSide). has_channel r sci) added_is ∙ among-put_among sci (take i scis) sci
        ∙ or_left (bytes_eq sci sci) (is_among (take i scis) sci) (bytes_eq-itself sci)

    pub added-empty : (an : ℕ) → (rxsc.rx_side_of mid).rx sci an ≡ None
    added-empty an =
        ap (λ (r : RxSide). r.rx sci an) added_is
        ∙ ap (λ (b : Bool). cond b (s.config.rx sci) (λ an. None) an) (next-free scis i sci is)

    -- one channel more, with its associations
    pub opened-more : (new : rxsc.RxValue) → rxsc.rx_side_of new ≡ with_channel s sci (rxsc.rx_side_of mid)
        → rxsc.ceilings_of mid ≡ rxsc.ceilings_of now
        → rxsc.ceilings_of new ≡ put_at (rxsc.ceilings_of mid) sci (s.ceilings.rx sci)
        → rxsc.counters_of mid ≡ rxsc.counters_of now → rxsc.counters_of new ≡ rxsc.counters_of mid
        → rxsc.channel_counters_of mid ≡ put_at (rxsc.channel_counters_of now) sci (Some no_channel_counts)
        → rxsc.channel_counters_of new ≡ rxsc.channel_counters_of mid → IsRxOpened s new (take (i + 1) scis)
    opened-more new installed ceilings put_ceilings counters same_counters begun same_begun =
        let channels = put-next scis i sci is in
        let rx = among-more s.config.rx (λ an. None) scis i sci is.within is.there in
        let numbers = among-more (beginning s) (λ an. None) scis i sci is.within is.there in
        let more : with_channel s sci (record (rx_opened s (take i scis)) { channels = put_among sci (take i scis) })
        ≡ rx_opened s (take (i + 1) scis) =
        λ j. record (rx_opened s scis) { channels = channels j; rx = rx j; numbers = numbers j } in
        record {
          side = installed ∙ ap (with_channel s sci) added_is ∙ more;
          ceilings = put_ceilings
              ∙ ap (λ (f : List ℕ → ℕ → Option ℕ). put_at f sci (s.ceilings.rx sci)) (ceilings ∙ so_far.ceilings)
              ∙ among-more s.ceilings.rx (λ an. None) scis i sci is.within is.there;
          counters = same_counters ∙ counters ∙ so_far.counters;
          channel_counters = same_begun ∙ begun ∙ ap (λ (f : List ℕ → Option ChannelCounters).
              put_at f sci (Some no_channel_counts)) so_far.channel_counters
              ∙ among-more (λ s. Some no_channel_counts) None scis i sci is.within is.there;
        }

module _ (s : Standing) (is : IsStanding s) (rx : rxsc.RxValue) (i : ℕ)
    (opened : IsRxOpened s rx (take i s.config.channels))
    (end : length s.config.channels ≤ i)
    (have_channels : (sci : List ℕ) (an : ℕ) (sa : RxSa) → s.config.rx sci an ≡ Some sa
    → is_among s.config.channels sci ≡ true) where
  all_are : take i s.config.channels ≡ s.config.channels
  all_are = take_all i s.config.channels end

  no_association : (sci : List ℕ) (an : ℕ) → is_among s.config.channels sci ≡ false → s.config.rx sci an ≡ None
  no_association sci an absent = by (s.config.rx sci an) refl
    where
      by : (o : Option RxSa) → s.config.rx sci an ≡ o → o ≡ None
      by None found = refl
      by (Some sa) found = let stands = have_channels sci an sa found in cc

  no_ceiling : (sci : List ℕ) (an : ℕ) → is_among s.config.channels sci ≡ false → s.ceilings.rx sci an ≡ None
  no_ceiling sci an absent =
      none_too (s.ceilings.rx sci an) (s.config.rx sci an) (is.rx sci an) (no_association sci an absent)

  pub opened-side : rxsc.rx_side_of rx ≡ rx_side_with s.config (beginning s)
  opened-side =
      let sas = among-all s.config.rx (λ an. None) s.config.channels
      (λ sci absent. fun_ext (λ an. no_association sci an absent)) in
      let numbers = among-all (beginning s) (λ an. None) s.config.channels
      (λ sci absent. fun_ext (λ an. ap (option_map first_numbers) (no_ceiling sci an absent))) in
      let all : rx_opened s s.config.channels ≡ rx_side_with s.config (beginning s) =
      λ j. record (rx_opened s s.config.channels) { rx = sas j; numbers = numbers j } in
      opened.side ∙ ap (rx_opened s) all_are ∙ all

  pub opened-ceilings : rxsc.ceilings_of rx ≡ s.ceilings.rx
  opened-ceilings =
      opened.ceilings ∙ ap (λ (scis : List (List ℕ)). among scis s.ceilings.rx (λ an. None)) all_are
      ∙ among-all s.ceilings.rx (λ an. None) s.config.channels (λ sci absent. fun_ext (λ an. no_ceiling sci an absent))

-- no channel yet
pub nothing-opened : (s : Standing) (first rx : rxsc.RxValue) → rxsc.rx_side_of first ≡ new_rx_side
    → rxsc.rx_side_of rx ≡ record (rxsc.rx_side_of first) {
      validate = s.config.validate;
      replay = s.config.replay;
      numbers =
          λ sci an. option_map (numbers_under_window s.config.replay.window) ((rxsc.rx_side_of first).numbers sci an);
    }
    → rxsc.ceilings_of first ≡ (λ sci an. None) → rxsc.ceilings_of rx ≡ rxsc.ceilings_of first
    → rxsc.counters_of first ≡ receive.no_counts → rxsc.counters_of rx ≡ rxsc.counters_of first
    → rxsc.channel_counters_of first ≡ (λ sci. None) → rxsc.channel_counters_of rx ≡ rxsc.channel_counters_of first
    → IsRxOpened s rx []
nothing-opened s first rx new set no_ceilings ceilings none_counted counters no_channels channel_counters =
    let policy = λ (r : RxSide). record r {
      validate = s.config.validate;
      replay = s.config.replay;
      numbers = λ sci an. option_map (numbers_under_window s.config.replay.window) (r.numbers sci an);
    } in
    record {
      side = set ∙ ap policy new;
      ceilings = ceilings ∙ no_ceilings;
      counters = counters ∙ none_counted;
      channel_counters = channel_counters ∙ no_channels;
    }
