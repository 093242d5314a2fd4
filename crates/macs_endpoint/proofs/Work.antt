-- What the work under way of a sound endpoint says: a ceiling that is being raised rises, and not too far, and no
-- command is under way where none waits.
use Rattle.std.proofs.Common.{◌≡◌, ◌<◌, ◌⊎◌, [], inl, inr, ℕ, false, List, Option, Some, None, refl, sym, ◌∙◌, subst}
use Rattle.std.specs.Prelude.{IsSomeAnd}
use Rattle.macs_config.specs.Identity.{Identity}
use Rattle.macs_config.specs.Numbers.{block_beyond}
use Rattle.macs_txsc.specs.Transmit.{TxSide}
use Rattle.macs_txsc.specs.Transmit as tx
use Rattle.macs_txsc.specs.Value as txsc
use Rattle.macs_rxsc.specs.Needs.{first_need_of}
use Rattle.macs_rxsc.specs.Receive.{Numbers, RxSide}
use Rattle.macs_rxsc.specs.Value as rxsc
use Rattle.macs_rxsc.proofs.Told.{asked}
use Rattle.macs_store.specs.Standing.{Standing}
use Rattle.macs_store.specs.Value.{standing_in}
use Rattle.macs_endpoint.specs.Ceilings.{Raise, RaiseRx, RaiseTx, first_raise, standing_with_raise}
use Rattle.macs_endpoint.specs.Ceilings.{standing_with_reserved}
use Rattle.macs_endpoint.specs.State.{no_logs, rx_side, tx_side}
use Rattle.macs_endpoint.specs.Value.{EndpointValue, IsAtRest, IsKeeping, IsRaiseWithin, IsReserving, IsRxRaiseWithin}
use Rattle.macs_endpoint.specs.Value.{IsSoundEndpoint, is_stopped, state_of}
use Rattle.macs_endpoint.proofs.Fitting.{AreAhead, kept-ahead}
use Rattle.macs_endpoint.proofs.Working.{raise-ahead, some_is}
use Rattle.macs_endpoint.proofs.Raises.{IsAhead, raise-parts, rx-first}

-- ---- ceilings that rise

-- the ceiling of a receive association is below the one that it is raised to
abbrev pub IsHigher : Standing → Raise → Type 0
IsHigher s (RaiseTx an) = Unit {0}
IsHigher s (RaiseRx need) =
    IsSomeAnd (s.ceilings.rx need.sci need.an) (λ ceiling. ceiling < block_beyond need.pn s.identity.rx_block)

-- so it is with the first that is needed
pub first-higher : (tx_side : TxSide) (rx_side : RxSide) (s : Standing) (raise : Raise)
    → first_raise s tx_side rx_side ≡ Some raise → IsHigher s raise
first-higher tx_side rx_side s (RaiseTx an) first = tt
first-higher tx_side rx_side s (RaiseRx need) first =
    let block = s.identity.rx_block in
    let is = rx-first (tx.need_of tx_side s.ceilings.tx s.identity.tx_block) (first_need_of rx_side s.ceilings.rx block)
    need first in
    asked rx_side s.ceilings.rx block need is.1

within_higher : (block pn : ℕ) (numbers : Option Numbers) (ceiling : Option ℕ)
    → IsRxRaiseWithin block pn numbers ceiling
    → IsSomeAnd ceiling (λ old. old < block_beyond pn block)
within_higher block pn None ceiling within = absurd within
within_higher block pn (Some numbers) None within = absurd within
within_higher block pn (Some numbers) (Some ceiling) within = within.1

-- a reservation under way changes ceilings alone
pub reserved-parts : (s : Standing) (o : Option Raise)
    → ((standing_with_reserved s o).identity ≡ s.identity) × ((standing_with_reserved s o).config ≡ s.config)
reserved-parts s None = (refl, refl)
reserved-parts s (Some raise) = raise-parts s raise

module _ {D : Type 0} (e : EndpointValue D) (kept : IsSoundEndpoint e) where
  raising_by : (raise : Raise) → e.reserving ≡ Some raise → IsAtRest e ⊎ (IsReserving e ⊎ IsKeeping e)
      → (work : IsReserving e) × (work.raise ≡ raise)
  raising_by raise is (inl rest) = absurd (let none = sym rest.reserving ∙ is in cc)
  raising_by raise is (inr (inl work)) = (work, some_is work.raise raise (sym work.reserving ∙ is))
  raising_by raise is (inr (inr work)) = absurd (let none = sym work.reserving ∙ is in cc)

  -- a ceiling that is being raised will not be too far ahead
  raise_within : (raise : Raise) → e.reserving ≡ Some raise
      → IsRaiseWithin e.tx e.rx (standing_in e.store).identity raise
  raise_within raise is =
      let work = raising_by raise is kept.work in
      subst (λ (r : Raise). IsRaiseWithin e.tx e.rx (standing_in e.store).identity r) work.1 work.0.within

  higher_by : (raise : Raise) → IsRaiseWithin e.tx e.rx (standing_in e.store).identity raise
      → IsHigher (standing_in e.store) raise
  higher_by (RaiseTx an) within = tt
  higher_by (RaiseRx need) within =
      let block = (standing_in e.store).identity.rx_block in
      let numbers = (rxsc.rx_side_of e.rx).numbers need.sci need.an in
      within_higher block need.pn numbers ((standing_in e.store).ceilings.rx need.sci need.an)
      (subst (λ (c : List ℕ → ℕ → Option ℕ). IsRxRaiseWithin block need.pn numbers (c need.sci need.an))
      kept.channels.rx_ceilings within)

  -- it rises
  pub reserved-higher : (raise : Raise) → e.reserving ≡ Some raise → IsHigher (standing_in e.store) raise
  reserved-higher raise is = higher_by raise (raise_within raise is)

  ahead_by : (o : Option Raise) → e.reserving ≡ o
      → IsAhead (tx_side (state_of e no_logs)) (rx_side (state_of e no_logs))
      (standing_with_reserved (standing_in e.store) o)
  ahead_by None is = kept-ahead e kept
  ahead_by (Some raise) is =
      let s = standing_in e.store in
      subst (λ (i : Identity).
      AreAhead i (txsc.tx_side_of e.tx).next (rxsc.rx_side_of e.rx).numbers (standing_with_raise s raise).ceilings)
      (sym (raise-parts s raise).0)
      (raise-ahead e.tx e.rx s kept.channels (kept-ahead e kept) raise (raise_within raise is))

  -- no ceiling is too far ahead once the reservation under way is done
  pub reserved-ahead : IsAhead (tx_side (state_of e no_logs)) (rx_side (state_of e no_logs))
      (standing_with_reserved (standing_in e.store) e.reserving)
  reserved-ahead = ahead_by e.reserving refl

  -- ---- commands

  free_by : e.waiting ≡ [] → is_stopped e ≡ false → IsAtRest e ⊎ (IsReserving e ⊎ IsKeeping e) → e.under_way ≡ None
  free_by none running (inl rest) = rest.under_way running
  free_by none running (inr (inl work)) = work.under_way
  free_by none running (inr (inr work)) = absurd (let waits = sym work.waiting ∙ none in cc)

  -- while it runs a command under way is one that waits
  pub free-under_way : e.waiting ≡ [] → is_stopped e ≡ false → e.under_way ≡ None
  free-under_way none running = free_by none running kept.work
