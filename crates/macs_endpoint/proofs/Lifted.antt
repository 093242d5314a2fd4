-- The channels of an endpoint, with a ceiling raised as the store has raised it.
use Rattle.std.proofs.Common.{◌≡◌, ◌≤◌, ℕ, List, Option, Some, None, is_some, refl, sym, ◌∙◌, ap, subst, arith}
use Rattle.std.specs.Option.{IfSome, IsSome, option_map}
use Rattle.macs_config.specs.Numbers.{block_beyond}
use Rattle.macs_config.specs.Tables.{put, put_at}
use Rattle.macs_config.proofs.Tables.{put-here, put_rx-here}
use Rattle.macs_txsc.specs.Transmit.{TxSide}
use Rattle.macs_txsc.specs.Value as txsc
use Rattle.macs_txsc.specs.declared.channel.Tx.{Tx}
use Rattle.macs_rxsc.specs.Needs.{Need}
use Rattle.macs_rxsc.specs.Receive.{Numbers, RxSide}
use Rattle.macs_rxsc.specs.Value as rxsc
use Rattle.macs_store.specs.Standing.{Standing}
use Rattle.macs_endpoint.specs.Ceilings.{RaiseRx, RaiseTx, standing_with_raise}
use Rattle.macs_endpoint.specs.State.{rx_side_with, tx_side_with}
use Rattle.macs_endpoint.specs.Value.{AreChannels, IsRxRaiseWithin, IsTxRaiseWithin}

-- a ceiling that exists, and is below the next one
tx_held : (block : ℕ) (next ceiling : Option ℕ) → IsTxRaiseWithin block next ceiling
    → (top : ℕ) × (ceiling ≡ Some top) × (top ≤ block_beyond top block)
tx_held block None ceiling within = absurd within
tx_held block (Some next) None within = absurd within
tx_held block (Some next) (Some top) within = let below = within.0 in (top, refl, omega (arith, below))

rx_held : (block pn : ℕ) (numbers : Option Numbers) (ceiling : Option ℕ) → IsRxRaiseWithin block pn numbers ceiling
    → (top : ℕ) × (ceiling ≡ Some top) × (top ≤ block_beyond pn block)
rx_held block pn None ceiling within = absurd within
rx_held block pn (Some numbers) None within = absurd within
rx_held block pn (Some numbers) (Some top) within = let above = within.1 in (top, refl, omega (arith, above))

not_above : (ceiling : Option ℕ) (top next : ℕ) → ceiling ≡ Some top → top ≤ next → IfSome ceiling (λ old. old ≤ next)
not_above ceiling top next is order = subst (λ (o : Option ℕ). IfSome o (λ old. old ≤ next)) (sym is) order

some_same : (a b : ℕ) → Some a ≡ Some b → a ≡ b
some_same a b is = cc

module _ (tx : Tx) (rx : rxsc.RxValue) (before s : Standing) (channels : AreChannels tx rx before) where
  module _ (an : ℕ)
      (within : IsTxRaiseWithin before.identity.tx_block ((txsc.tx_side_of tx).next an) (txsc.ceilings_of tx an))
      (is : s ≡ standing_with_raise before (RaiseTx an)) where
    abbrev tx_further : Option ℕ
    tx_further = option_map (λ (ceiling : ℕ). block_beyond ceiling before.identity.tx_block) (before.ceilings.tx an)

    -- the ceiling that the store has now
    tx_top : (top : ℕ) × (s.ceilings.tx an ≡ Some top) × IfSome (txsc.ceilings_of tx an) (λ old. old ≤ top)
    tx_top =
        let block = before.identity.tx_block in
        let held = tx_held block ((txsc.tx_side_of tx).next an) (txsc.ceilings_of tx an) within in
        let stood : before.ceilings.tx an ≡ Some held.0 = (λ i. (sym channels.tx_ceilings i) an) ∙ held.1 in (
          block_beyond held.0 block,
          (λ i. (is i).ceilings.tx an) ∙ put-here before.ceilings.tx an tx_further
              ∙ ap (option_map (λ (ceiling : ℕ). block_beyond ceiling block)) stood,
          not_above (txsc.ceilings_of tx an) held.0 (block_beyond held.0 block) held.1 held.2,
        )

    pub tx-lifted : IsSome (s.ceilings.tx an)
    tx-lifted = ap is_some tx_top.1

    pub tx-higher : (got : ℕ) → s.ceilings.tx an ≡ Some got → IfSome (txsc.ceilings_of tx an) (λ old. old ≤ got)
    tx-higher got has = subst (λ (n : ℕ). IfSome (txsc.ceilings_of tx an) (λ old. old ≤ n))
        (some_same tx_top.0 got (sym tx_top.1 ∙ has)) tx_top.2

    pub tx-channels : (new : Tx) (got : ℕ) → s.ceilings.tx an ≡ Some got → txsc.tx_side_of new ≡ txsc.tx_side_of tx
        → txsc.ceilings_of new ≡ put (txsc.ceilings_of tx) an (Some got) → AreChannels new rx s
    tx-channels new got has side ceilings =
        let here : Some got ≡ tx_further = sym has ∙ (λ i. (is i).ceilings.tx an)
        ∙ put-here before.ceilings.tx an tx_further in
        let made : AreChannels new rx (standing_with_raise before (RaiseTx an)) = record {
          tx_is = side ∙ channels.tx_is
              ∙ ap (λ (n : ℕ → Option ℕ). tx_side_with before.identity before.config n)
              (sym (ap (λ (x : TxSide). x.next) side));
          rx_is = channels.rx_is;
          tx_ceilings = ceilings ∙ (λ i. put (channels.tx_ceilings i) an (here i));
          rx_ceilings = channels.rx_ceilings;
        } in
        subst (λ (x : Standing). AreChannels new rx x) (sym is) made

  module _ (need : Need)
      (within : IsRxRaiseWithin before.identity.rx_block need.pn ((rxsc.rx_side_of rx).numbers need.sci need.an)
      (rxsc.ceilings_of rx need.sci need.an))
      (is : s ≡ standing_with_raise before (RaiseRx need)) where
    abbrev rx_further : ℕ
    rx_further = block_beyond need.pn before.identity.rx_block

    rx_top : s.ceilings.rx need.sci need.an ≡ Some rx_further
    rx_top = (λ i. (is i).ceilings.rx need.sci need.an)
        ∙ put_rx-here before.ceilings.rx need.sci need.an (Some rx_further)

    pub rx-lifted : IsSome (s.ceilings.rx need.sci need.an)
    rx-lifted = ap is_some rx_top

    pub rx-higher : (got : ℕ) → s.ceilings.rx need.sci need.an ≡ Some got
        → IfSome (rxsc.ceilings_of rx need.sci need.an) (λ old. old ≤ got)
    rx-higher got has =
        let ceiling = rxsc.ceilings_of rx need.sci need.an in
        let held =
        rx_held before.identity.rx_block need.pn ((rxsc.rx_side_of rx).numbers need.sci need.an) ceiling within in
        subst (λ (n : ℕ). IfSome ceiling (λ old. old ≤ n)) (some_same rx_further got (sym rx_top ∙ has))
        (not_above ceiling held.0 rx_further held.1 held.2)

    pub rx-channels : (new : rxsc.RxValue) (got : ℕ) → s.ceilings.rx need.sci need.an ≡ Some got
        → rxsc.rx_side_of new ≡ rxsc.rx_side_of rx
        → rxsc.ceilings_of new ≡ put_at (rxsc.ceilings_of rx) need.sci
        (put (rxsc.ceilings_of rx need.sci) need.an (Some got)) → AreChannels tx new s
    rx-channels new got has side ceilings =
        let here : got ≡ rx_further = some_same got rx_further (sym has ∙ rx_top) in
        let made : AreChannels tx new (standing_with_raise before (RaiseRx need)) = record {
          tx_is = channels.tx_is;
          rx_is = side ∙ channels.rx_is
              ∙ ap (λ (n : List ℕ → ℕ → Option Numbers). rx_side_with before.config n)
              (sym (ap (λ (x : RxSide). x.numbers) side));
          tx_ceilings = channels.tx_ceilings;
          rx_ceilings = ceilings ∙ (λ i.
              put_at (channels.rx_ceilings i) need.sci (put (channels.rx_ceilings i need.sci) need.an (Some (here i))));
        } in
        subst (λ (x : Standing). AreChannels tx new x) (sym is) made
