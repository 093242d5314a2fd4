-- Work under way: what the disk of an endpoint leaves meanwhile.
use Rattle.std.proofs.Common.{◌≡◌, ◌≤◌, ◌<◌, ◌^◌, ◌⊎◌, ◌∙◌, [], ℕ, Bool, true, false, inl, inr, List, Option, Some}
use Rattle.std.proofs.Common.{None, refl, sym, ap, subst, arith, Result, Ok, Err}
use Rattle.std.specs.Prelude.{IsSomeAnd}
use Rattle.std.specs.Option.{option_map}
use Rattle.macs_config.specs.Config.{this_edition}
use Rattle.macs_config.specs.Numbers.{block_beyond}
use Rattle.macs_config.specs.Tables.{put}
use Rattle.macs_config.proofs.Tables.{put_all, put_at_all}
use Rattle.macs_disk.specs.Disk.{Disk}
use Rattle.macs_disk.specs.Runs.{Leaves}
use Rattle.macs_disk.specs.States.{Image}
use Rattle.macs_disk.proofs.Moments.{Leaves-now, Leaves-weaker}
use Rattle.macs_journal.specs.Areas.{least_sectors}
use Rattle.macs_txsc.specs.Value as txsc
use Rattle.macs_txsc.specs.declared.channel.Tx.{Tx}
use Rattle.macs_rxsc.specs.Receive.{Numbers}
use Rattle.macs_rxsc.specs.Value as rxsc
use Rattle.macs_store.specs.Found.{StandsFor, StandsForEither}
use Rattle.macs_store.specs.Standing.{Ceilings, Standing}
use Rattle.macs_store.specs.Value.{IsIdle, IsStored, standing_in, standing_then}
use Rattle.macs_store.specs.Value as store
use Rattle.macs_store.specs.UnderWay.{UnderWay}
use Rattle.macs_store.proofs.Keeping.{under_way-image}
use Rattle.macs_endpoint.specs.Ceilings.{Raise, RaiseRx, RaiseTx, standing_with_raise}
use Rattle.macs_endpoint.specs.Restart.{Fits, rx_limit}
use Rattle.macs_endpoint.specs.State.{Logs, State, Advanced, Advances}
use Rattle.macs_endpoint.specs.Value.{AreChannels, EndpointValue, IsAtRest, IsBacked, IsKeeping, IsRaiseWithin}
use Rattle.macs_endpoint.specs.Value.{IsReserving, IsRxRaiseWithin, IsRxWithin, IsSoundEndpoint, IsTxRaiseWithin}
use Rattle.macs_endpoint.specs.Value.{IsTxWithin, disk_in, is_stopped, state_of}
use Rattle.macs_endpoint.specs.Advancing.{GoesOn}
use Rattle.macs_endpoint.specs.Limits.{IsStill}
use Rattle.macs_endpoint.specs.declared.fault.StepFault.{StepFault}
use Rattle.macs_endpoint.specs.declared.fault.StepFault.TheVariants as step
use Rattle.macs_endpoint.specs.declared.progress.Step.{Step as Progress}
use Rattle.macs_endpoint.specs.declared.progress.Step.TheVariants.{Done, Idle, Reserved, Worked}
use Rattle.macs_endpoint.proofs.Fitting.{AreAhead, fits-ahead, fits-commit, kept-ahead, standing_with}

-- ---- a ceiling that is being raised

tx_further : (block : ℕ) (next ceiling : Option ℕ) → IsTxRaiseWithin block next ceiling → IsTxWithin block next ceiling
    → IsTxWithin block next (option_map (λ (c : ℕ). block_beyond c block) ceiling)
tx_further block None None raise within = tt
tx_further block None (Some ceiling) raise within = absurd within
tx_further block (Some next) None raise within = absurd within
tx_further block (Some next) (Some ceiling) raise within =
    let below = raise.0 in
    let near = raise.1 in
    let before = within.1 in
    let further : (next ≤ block_beyond ceiling block) × (block_beyond ceiling block ≤ 2 ^ 32) =
    (omega (arith, before, below), omega arith) in
    (within.0, further.0, near, further.1)

seen_further : (block next pn ceiling : ℕ) (seen : Option ℕ) → IsSomeAnd seen (λ s. pn ≤ s)
    → ceiling < block_beyond pn block → next ≤ ceiling
    → (next ≤ block_beyond pn block) × (block_beyond pn block ≤ rx_limit block next seen)
seen_further block next pn ceiling None is above within = absurd is
seen_further block next pn ceiling (Some seen) is above within = (omega (arith, above, within), omega (arith, is))

rx_further : (block pn : ℕ) (numbers : Option Numbers) (ceiling : Option ℕ) → IsRxRaiseWithin block pn numbers ceiling
    → IsRxWithin block numbers ceiling
    → IsRxWithin block numbers (Some (block_beyond pn block))
rx_further block pn None ceiling raise within = absurd raise
rx_further block pn (Some numbers) None raise within = absurd raise
rx_further block pn (Some numbers) (Some ceiling) raise within =
    seen_further block numbers.next pn ceiling numbers.seen raise.0 raise.1 within.0

-- the ceilings of the standing, with that one raised, are not too far ahead
module _ (tx : Tx) (rx : rxsc.RxValue) (s : Standing) (channels : AreChannels tx rx s)
    (are : AreAhead s.identity (txsc.tx_side_of tx).next (rxsc.rx_side_of rx).numbers s.ceilings) where
  pub raise-ahead : (raise : Raise) → IsRaiseWithin tx rx s.identity raise
      → AreAhead s.identity (txsc.tx_side_of tx).next (rxsc.rx_side_of rx).numbers
      (standing_with_raise s raise).ceilings
  raise-ahead (RaiseTx an) within =
      let block = s.identity.tx_block in
      let next = (txsc.tx_side_of tx).next in
      let x : Option ℕ = option_map (λ (ceiling : ℕ). block_beyond ceiling block) (s.ceilings.tx an) in
      let here : IsTxWithin block (next an) x =
      tx_further block (next an) (s.ceilings.tx an)
      (subst (λ (c : ℕ → Option ℕ). IsTxRaiseWithin block (next an) (c an)) channels.tx_ceilings within)
      (are.tx_ahead an) in
      record {
        tx_ahead = λ i. put_all (λ (o : Option ℕ). IsTxWithin block (next i) o) s.ceilings.tx an x i
            (λ same. subst (λ (k : ℕ). IsTxWithin block (next k) x) (sym same) here) (λ other. are.tx_ahead i);
        rx_ahead = are.rx_ahead;
        few = are.few;
      }
  raise-ahead (RaiseRx need) within =
      let block = s.identity.rx_block in
      let numbers = (rxsc.rx_side_of rx).numbers in
      let sci = need.sci in
      let an = need.an in
      let x : Option ℕ = Some (block_beyond need.pn block) in
      let here : IsRxWithin block (numbers sci an) x =
      rx_further block need.pn (numbers sci an) (s.ceilings.rx sci an)
      (subst (λ (c : List ℕ → ℕ → Option ℕ). IsRxRaiseWithin block need.pn (numbers sci an) (c sci an))
      channels.rx_ceilings within)
      (are.rx_ahead sci an) in
      record {
        tx_ahead = are.tx_ahead;
        rx_ahead = λ t k. put_at_all (λ (row : ℕ → Option ℕ). IsRxWithin block (numbers t k) (row k)) s.ceilings.rx sci
            (put (s.ceilings.rx sci) an x) t
            (λ same. put_all (λ (o : Option ℕ). IsRxWithin block (numbers t k) o) (s.ceilings.rx sci) an x k
            (λ same_k. subst (λ (u : List ℕ). IsRxWithin block (numbers u k) x) (sym same)
            (subst (λ (m : ℕ). IsRxWithin block (numbers sci m) x) (sym same_k) here))
            (λ other.
            subst (λ (u : List ℕ). IsRxWithin block (numbers t k) (s.ceilings.rx u k)) same (are.rx_ahead t k)))
            (λ other. are.rx_ahead t k);
        few = are.few;
      }

-- ---- what is under way

-- the ceilings alone are raised
pub raise-is : (s : State) (c : Ceilings) (raise : Raise) → standing_with_raise (standing_with s c) raise
    ≡ standing_with s (standing_with_raise (standing_with s c) raise).ceilings
raise-is s c (RaiseTx an) = refl
raise-is s c (RaiseRx need) = refl

pub some_is : {A : Type 0} (a b : A) → Some a ≡ Some b → a ≡ b
some_is a b is = cc

pub not_stopped : (b : Bool) → b ≡ true → b ≡ false → ⊥
not_stopped b is not = absurd cc

module _ {D : Type 0} (e : EndpointValue D) (kept : IsSoundEndpoint e) where
  abbrev before : Standing
  before = standing_in e.store

  leads_by : IsAtRest e ⊎ (IsReserving e ⊎ IsKeeping e) → (after : Standing) × (standing_then e.store ≡ Some after)
  leads_by (inl rest) = (before, ap (λ (h : UnderWay). store.standing_with before h) rest.store)
  leads_by (inr (inl work)) = (standing_with_raise before work.raise, work.leads)
  leads_by (inr (inr work)) = (work.after, work.leads)

  -- the work under way leads to something
  pub leads-on : (after : Standing) × (standing_then e.store ≡ Some after)
  leads-on = leads_by kept.work

  rest_by : IsIdle e.store → IsAtRest e ⊎ (IsReserving e ⊎ IsKeeping e) → IsAtRest e
  rest_by idle (inl rest) = rest
  rest_by idle (inr (inl work)) = absurd (work.busy idle)
  rest_by idle (inr (inr work)) = absurd (work.busy idle)

  -- an endpoint whose store has nothing under way is at rest
  pub at-rest : IsIdle e.store → IsAtRest e
  at-rest idle = rest_by idle kept.work

  free_by : e.waiting ≡ [] → IsAtRest e ⊎ (IsReserving e ⊎ IsKeeping e) → IsAtRest e ⊎ IsReserving e
  free_by none (inl rest) = inl rest
  free_by none (inr (inl work)) = inr work
  free_by none (inr (inr work)) = absurd (let waits = sym work.waiting ∙ none in cc)

  -- where no command waits none is being kept
  pub none-kept : e.waiting ≡ [] → IsAtRest e ⊎ IsReserving e
  none-kept none = free_by none kept.work

  module _ (sectors : ℕ) (image : Image) (size : least_sectors ≤ sectors) (logs : Logs) (stopped : Bool) where
    -- the state, stopped or not
    abbrev state : State
    state = record (state_of e logs) { stopped = stopped }

    fits_by : (after : Standing) → standing_then e.store ≡ Some after → IsAtRest e ⊎ (IsReserving e ⊎ IsKeeping e)
        → StandsForEither before after image → Fits this_edition sectors image state
    fits_by after leads (inl rest) left =
        let same : before ≡ after =
        some_is before after (sym (ap (λ (h : UnderWay). store.standing_with before h) rest.store) ∙ leads) in
        elim left.0 [
          | inl finds ↦ fits-ahead sectors image size state before.ceilings (kept-ahead e kept) finds
          | inr finds ↦ fits-ahead sectors image size state before.ceilings (kept-ahead e kept)
              (subst (λ (x : Standing). StandsFor this_edition image x) (sym same) finds)
        ]
    fits_by after leads (inr (inl work)) left =
        let same : standing_with_raise before work.raise ≡ after =
        some_is (standing_with_raise before work.raise) after (sym work.leads ∙ leads) in
        elim left.0 [
          | inl finds ↦ fits-ahead sectors image size state before.ceilings (kept-ahead e kept) finds
          | inr finds ↦ fits-ahead sectors image size state (standing_with_raise before work.raise).ceilings
              (raise-ahead e.tx e.rx before kept.channels (kept-ahead e kept) work.raise work.within)
              (subst (λ (x : Standing). StandsFor this_edition image x)
              (sym same ∙ raise-is state before.ceilings work.raise) finds)
        ]
    fits_by after leads (inr (inr work)) left =
        let same : work.after ≡ after = some_is work.after after (sym work.leads ∙ leads) in
        elim left.0 [
          | inl finds ↦ fits-ahead sectors image size state before.ceilings (kept-ahead e kept) finds
          | inr finds ↦ fits-commit sectors image size state before.ceilings work.first.command (kept-ahead e kept)
              work.in_range work.under_way (
                inr (
                  work.after,
                  work.accepted,
                  subst (λ (x : Standing). StandsFor this_edition image x) (sym same) finds,
                ),
                left.1,
              )
        ]

    -- an image that stands for the standing, or for the standing once the work under way is done
    pub fits-either : (after : Standing) → standing_then e.store ≡ Some after → StandsForEither before after image
        → Fits this_edition sectors image state
    fits-either after leads left = fits_by after leads kept.work left

  -- ---- its disk

  module _ (disk_of : D → Disk) where
    -- the disk holds what it has in memory
    pub kept-backed : least_sectors ≤ (disk_in disk_of e).sectors → IsStored disk_of e.store → IsBacked disk_of e
    kept-backed size stored = record {
      size = size;
      stored = λ running. stored;
      fits = λ logs image left.
          fits-either (disk_in disk_of e).sectors image size logs (is_stopped e) leads-on.0 leads-on.1
          (under_way-image disk_of e.store stored leads-on.0 leads-on.1 image left);
      form = λ image left. (under_way-image disk_of e.store stored leads-on.0 leads-on.1 image left).1;
    }

    -- what calls of the work under way leave
    pub fits-moments : (new : Disk) (logs : Logs) (after : Standing) → least_sectors ≤ (disk_in disk_of e).sectors
        → standing_then e.store ≡ Some after
        → Leaves (disk_in disk_of e) new (StandsForEither before after)
        → Leaves (disk_in disk_of e) new
        (λ image. Fits this_edition (disk_in disk_of e).sectors image (state_of e logs))
    fits-moments new logs after size leads leaves =
        Leaves-weaker (disk_in disk_of e) new (StandsForEither before after)
        (λ image. Fits this_edition (disk_in disk_of e).sectors image (state_of e logs))
        (λ image left. fits-either (disk_in disk_of e).sectors image size logs (is_stopped e) after leads left) leaves

    -- a device call failed: what is left then
    pub cut-backed : (cut : EndpointValue D) → is_stopped cut ≡ true
        → ((logs : Logs) → state_of cut logs ≡ record (state_of e logs) { stopped = true })
        → (after : Standing) → least_sectors ≤ (disk_in disk_of cut).sectors → standing_then e.store ≡ Some after
        → Leaves (disk_in disk_of e) (disk_in disk_of cut) (StandsForEither before after) → IsBacked disk_of cut
    cut-backed cut stopped same after size leads leaves = record {
      size = size;
      stored = λ running. absurd (not_stopped (is_stopped cut) stopped running);
      fits = λ logs image left.
          subst (λ (s : State). Fits this_edition (disk_in disk_of cut).sectors image s) (sym (same logs))
          (fits-either (disk_in disk_of cut).sectors image size logs true after leads
          (Leaves-now (disk_in disk_of e) (disk_in disk_of cut) (StandsForEither before after) leaves image left));
      form = λ image left.
          (Leaves-now (disk_in disk_of e) (disk_in disk_of cut) (StandsForEither before after) leaves image left).1;
    }

-- ---- steps that leave the store as it was, and steps that make a device call

-- nothing is said of the store where work under way goes on
pub still-on : {D : Type 0} (e before new : EndpointValue D) (result : Result Progress StepFault)
    → GoesOn before result new
    → IsStill e Advances (Advanced result) new
still-on e before new (Ok Idle) goes = absurd goes
still-on e before new (Ok Worked) goes = tt
still-on e before new (Ok Reserved) goes = tt
still-on e before new (Ok (Done ticket (Ok done))) goes = tt
still-on e before new (Ok (Done ticket (Err at))) goes = absurd goes
still-on e before new (Err step.Stopped) goes = absurd goes
still-on e before new (Err step.GenerationsSpent) goes = absurd goes
still-on e before new (Err step.Disk) goes = tt

-- the store is as it was
pub still-same : {D : Type 0} (e new : EndpointValue D) (result : Result Progress StepFault) → new.store ≡ e.store
    → IsStill e Advances (Advanced result) new
still-same e new (Ok Idle) same = tt
still-same e new (Ok Worked) same = tt
still-same e new (Ok Reserved) same = tt
still-same e new (Ok (Done ticket (Ok done))) same = tt
still-same e new (Ok (Done ticket (Err at))) same = same
still-same e new (Err step.Stopped) same = same
still-same e new (Err step.GenerationsSpent) same = same
still-same e new (Err step.Disk) same = tt
