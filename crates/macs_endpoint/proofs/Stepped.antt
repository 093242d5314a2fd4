-- One device call of the work under way: it goes on, is done, or is cut short.
use Rattle.std.proofs.Common.{◌≡◌, ◌≤◌, ◌+◌, ◌⊎◌, ◌∷◌, ◌∙◌, inl, inr, ℕ, false, List, length, Option, Some, None}
use Rattle.std.proofs.Common.{Result, Ok, Err, is_ok, refl, sym, ap, subst, arith}
use Rattle.macs_config.specs.Apply.{IsCommand}
use Rattle.macs_config.specs.Config.{this_edition}
use Rattle.macs_config.specs.Identity.{IsIdentity}
use Rattle.macs_disk.specs.Disk.{IsHonest, Works}
use Rattle.macs_disk.specs.Disk as disk
use Rattle.macs_disk.specs.Runs.{Leaves}
use Rattle.macs_disk.proofs.Moments.{Leaves-weaker}
use Rattle.macs_journal.specs.Areas.{least_sectors}
use Rattle.macs_journal.specs.declared.fault.JournalFault.{JournalFault}
use Rattle.macs_journal.specs.declared.fault.JournalFault.TheVariants as fault
use Rattle.macs_journal.specs.declared.work.JournalStep.TheVariants.{Finished, Going}
use Rattle.macs_txsc.specs.Value as txsc
use Rattle.macs_txsc.specs.declared.channel.Tx.{Tx}
use Rattle.macs_rxsc.specs.Receive.{Numbers}
use Rattle.macs_rxsc.specs.Value as rxsc
use Rattle.macs_store.specs.Standing.{Standing, accept, ceilings_after}
use Rattle.macs_store.specs.Stepping.{Steps}
use Rattle.macs_store.specs.Table.{standing_of}
use Rattle.macs_store.specs.Value.{IsIdle, standing_in}
use Rattle.macs_store.specs.Value as store
use Rattle.macs_store.proofs.Keeping.{accepted-in_range}
use Rattle.macs_endpoint.specs.Advancing.{ClockAfter, GoesOn, turn_after_step}
use Rattle.macs_endpoint.specs.Calls.{Fails, IsCall}
use Rattle.macs_endpoint.specs.Ceilings.{StandsAdvanced, StandsAfter, standing_with_raise}
use Rattle.macs_endpoint.specs.Counting.{channel_counters_after, channel_counters_after_command}
use Rattle.macs_endpoint.specs.Counting.{channel_counters_after_made}
use Rattle.macs_endpoint.specs.Queue.{first_command, queue_length}
use Rattle.macs_endpoint.specs.Reserving.{FitsState}
use Rattle.macs_endpoint.specs.Restart.{FitsCall}
use Rattle.macs_endpoint.specs.State.{Advanced, Advances, Logs, command_made, no_logs, state_after_fault}
use Rattle.macs_endpoint.specs.Step.{AdvanceStep, next_after, numbers_after}
use Rattle.macs_endpoint.specs.Value.{AreChannels, EndpointValue, IsAtRest, IsBacked, IsKeeping, IsRaiseWithin}
use Rattle.macs_endpoint.specs.Value.{IsReserving, IsSoundEndpoint, disk_in, is_stopped, state_of}
use Rattle.macs_endpoint.specs.declared.fault.StepFault.{StepFault}
use Rattle.macs_endpoint.specs.declared.fault.StepFault.TheVariants as step
use Rattle.macs_endpoint.specs.declared.progress.Step.{Step as Progress}
use Rattle.macs_endpoint.specs.declared.progress.Step.TheVariants.{Done, Idle, Reserved, Worked}
use Rattle.macs_endpoint.specs.declared.queue.Waiting.{Waiting}
use Rattle.macs_endpoint.specs.declared.turn.Turn.TheVariants as turn
use Rattle.macs_endpoint.proofs.Ended.{IsCut, IsDone, err_same, given_up-backed, given_up-moments, given_up-state}
use Rattle.macs_endpoint.proofs.Ended.{kept-held, not_stopped, raised-backed, raised-moments, raised-state, raised_to}
use Rattle.macs_endpoint.proofs.Ended.{step-cut, step-done}
use Rattle.macs_endpoint.proofs.Fitting.{AreAhead, accept-parts, ahead-within, command-ahead, fits-advancing}
use Rattle.macs_endpoint.proofs.Fitting.{kept-ahead}
use Rattle.macs_endpoint.proofs.Working.{cut-backed, fits-moments, kept-backed, leads-on, still-on}

-- ---- the call that a step is

-- a step makes one device call at most
most_one : (old : ℕ) (result : Result Progress StepFault) (new : ℕ) → ClockAfter old result new → new ≤ old + 1
most_one old (Ok Idle) new clock = clock
most_one old (Ok Worked) new clock = omega (arith, clock)
most_one old (Ok Reserved) new clock = omega (arith, clock)
most_one old (Ok (Done ticket (Ok done))) new clock = omega (arith, clock)
most_one old (Ok (Done ticket (Err at))) new clock = clock
most_one old (Err at) new clock = clock

module _ {D : Type 0} (disk_of : D → disk.Disk) (e : EndpointValue D) (running : is_stopped e ≡ false)
    (busy : ¬ IsIdle e.store)
    (result : Result Progress StepFault) (new : EndpointValue D) where
  -- what is left while it is made fits the state before it
  pub advance-call : ((logs : Logs) → AdvanceStep (state_of e logs) result (state_of new logs))
      → StandsAdvanced (standing_in e.store) e.reserving
      (command_made (state_of e no_logs) Advances (Advanced result)) result (standing_in new.store)
      → GoesOn e result new → ClockAfter (disk_in disk_of e).clock result (disk_in disk_of new).clock
      → new.turn ≡ turn_after_step e.turn result
      → txsc.counters_of new.tx ≡ txsc.counters_of e.tx → rxsc.counters_of new.rx ≡ rxsc.counters_of e.rx
      → rxsc.channel_counters_of new.rx
      ≡ channel_counters_after (state_of e no_logs) Advances (Advanced result) (rxsc.channel_counters_of e.rx)
      → Works (disk_in disk_of e) (disk_in disk_of new)
      → Fails (disk_in disk_of e) (disk_in disk_of new) (Advanced result)
      → (IsHonest (disk_in disk_of new) → IsBacked disk_of e → (logs : Logs)
      → Leaves (disk_in disk_of e) (disk_in disk_of new) (FitsState (state_of e logs) (disk_in disk_of e)))
      → (IsHonest (disk_in disk_of new) → IsBacked disk_of e → IsBacked disk_of new)
      → IsCall disk_of e Advances (Advanced result) new
  advance-call steps ceilings goes clock whose tx_counters rx_counters channel_counters works fails moments
      backs = record {
        behaves = record {
          in_range = tt;
          step = λ logs. (logs, inr (running, steps logs));
          ceilings = ceilings;
          limited = tt;
          still = still-on e e new result goes;
          ends_work = tt;
          advances = λ runs. record {
            begins = λ idle. absurd (busy idle);
            goes_on = λ works. goes;
            one = most_one (disk_in disk_of e).clock result (disk_in disk_of new).clock clock;
            clock = λ works. clock;
          };
          turn = whose;
          tx_counters = tx_counters;
          rx_counters = rx_counters;
          channel_counters = channel_counters;
        };
        device = record { works = works; fails = fails };
        survives = λ honest backed. record {
          any_moment = λ logs later.
              Leaves-weaker (disk_in disk_of e) (disk_in disk_of new) (FitsState (state_of e logs) (disk_in disk_of e))
              (FitsCall (disk_in disk_of e).sectors (state_of e logs) Advances (state_of new later))
              (λ image fits.
              inl (fits-advancing (disk_in disk_of e).sectors image backed.size this_edition (state_of e logs) fits))
              (moments honest backed logs);
          backed = backs honest backed;
        };
      }

-- ---- it continues

-- what is in memory
module _ {D : Type 0} (e : EndpointValue D) (kept : IsSoundEndpoint e) (s : store.StoreValue D)
    (runs : store.is_stopped s ≡ false) (held : s.held ≡ e.store.held)
    (going : (¬ IsIdle s) × (store.standing_then s ≡ store.standing_then e.store)) where
  abbrev pub gone_on : EndpointValue D
  gone_on = record e { store = s }

  on_same : standing_in s ≡ standing_in e.store
  on_same = ap standing_of held

  on_work : IsReserving e ⊎ IsKeeping e → IsAtRest gone_on ⊎ (IsReserving gone_on ⊎ IsKeeping gone_on)
  on_work (inl work) = inr (inl (record {
    running = runs;
    busy = going.0;
    raise = work.raise;
    reserving = work.reserving;
    under_way = work.under_way;
    leads = going.1 ∙ work.leads
        ∙ ap (λ (x : Standing). Some (standing_with_raise x work.raise)) (sym on_same);
    within = subst (λ (x : Standing). IsRaiseWithin e.tx e.rx x.identity work.raise) (sym on_same) work.within;
  }))
  on_work (inr work) = inr (inr (record {
    running = runs;
    busy = going.0;
    reserving = work.reserving;
    first = work.first;
    rest = work.rest;
    waiting = work.waiting;
    under_way = work.under_way;
    in_range = work.in_range;
    after = work.after;
    leads = going.1 ∙ work.leads;
    accepted = subst (λ (x : Standing). accept x work.first.command ≡ Ok work.after) (sym on_same) work.accepted;
  }))

  pub gone_on-kept : IsReserving e ⊎ IsKeeping e → IsSoundEndpoint gone_on
  gone_on-kept work = kept-held e gone_on kept on_same kept.few kept.tickets (on_work work)

  on_state : (running : is_stopped e ≡ false) (logs : Logs) → state_of gone_on logs ≡ state_of e logs
  on_state running logs = λ i. record {
    edition = this_edition;
    identity = (on_same i).identity;
    config = (on_same i).config;
    next = (txsc.tx_side_of e.tx).next;
    numbers = (rxsc.rx_side_of e.rx).numbers;
    logs = logs;
    stopped = (runs ∙ sym running) i;
    under_way = e.under_way;
    waiting = e.waiting;
    tickets = e.tickets;
  }

-- and what is on the disk
pub gone_on-call : {D : Type 0} (disk_of : D → disk.Disk) (e : EndpointValue D) (kept : IsSoundEndpoint e)
    (running : is_stopped e ≡ false) (s : store.StoreValue D) → Steps disk_of e.store (Ok Going) s
    → IsReserving e ⊎ IsKeeping e → ¬ IsIdle e.store
    → IsCall disk_of e Advances (Advanced (Ok Worked)) (record e { store = s })
gone_on-call disk_of e kept running s steps work busy =
    let held = steps.standing (λ is. cc) in
    let leads = leads-on e kept in
    advance-call disk_of e running busy (Ok Worked) (record e { store = s })
    (λ logs. inl (on_state e kept s steps.running held (steps.going refl) running logs)) (ap standing_of held)
    (refl, refl, (steps.going refl).0, steps.left busy) (steps.call busy) refl refl refl refl steps.work.works
    steps.work.fails
    (λ honest backed logs. fits-moments e kept disk_of (disk_in disk_of (record e { store = s })) logs leads.0
    backed.size leads.1
    (steps.any_moment honest (backed.stored running) leads.0 leads.1))
    (λ honest backed. kept-backed (record e { store = s })
    (gone_on-kept e kept s steps.running held (steps.going refl) work) disk_of
    (subst (λ (n : ℕ). least_sectors ≤ n) (sym steps.work.works.sectors) backed.size)
    (steps.stored honest (backed.stored running)))

-- a step of work under way fails as Disk
pub step_fault : {D : Type 0} (disk_of : D → disk.Disk) (old new : store.StoreValue D) (at : JournalFault)
    → store.is_stopped old ≡ false
    → Steps disk_of old (Err at) new → at ≡ fault.Disk
step_fault disk_of old new at running steps = elim steps.names [
  | inl is ↦ absurd (not_stopped (store.is_stopped old) (steps.stopped.0 is) running)
  | inr is ↦ err_same at is
]

-- ---- a reservation

module _ {D : Type 0} (disk_of : D → disk.Disk) (e : EndpointValue D) (kept : IsSoundEndpoint e) (work : IsReserving e)
    (s : store.StoreValue D) where
  pub reserved-call : (steps : Steps disk_of e.store (Ok Finished) s) (tx : Tx) (rx : rxsc.RxValue)
      → AreChannels tx rx (standing_in s)
      → txsc.tx_side_of tx ≡ txsc.tx_side_of e.tx → rxsc.rx_side_of rx ≡ rxsc.rx_side_of e.rx
      → txsc.counters_of tx ≡ txsc.counters_of e.tx → rxsc.counters_of rx ≡ rxsc.counters_of e.rx
      → rxsc.channel_counters_of rx ≡ rxsc.channel_counters_of e.rx
      → IsCall disk_of e Advances (Advanced (Ok Reserved))
      (record e { store = s; tx = tx; rx = rx; reserving = None; turn = turn.Command })
  reserved-call steps tx rx channels tx_side rx_side tx_counters rx_counters channel_counters =
      let done = step-done disk_of e.store (raised_to disk_of e kept work) work.leads s steps in
      advance-call disk_of e work.running work.busy (Ok Reserved)
      (record e { store = s; tx = tx; rx = rx; reserving = None; turn = turn.Command })
      (raised-state disk_of e kept work s done tx rx turn.Command channels tx_side rx_side)
      (work.raise, work.reserving, done.stands)
      ((work.raise, work.reserving), done.idle, steps.last refl) (steps.call work.busy) refl tx_counters rx_counters
      channel_counters
      steps.work.works steps.work.fails
      (raised-moments disk_of e kept work s done tx rx turn.Command channels tx_side rx_side)
      (raised-backed disk_of e kept work s done tx rx turn.Command channels tx_side rx_side)

  pub given_up-call : Steps disk_of e.store (Err fault.Disk) s
      → IsCall disk_of e Advances (Advanced (Err step.Disk)) (record e { store = s; reserving = None })
  given_up-call steps =
      let cut = step-cut disk_of e.store (raised_to disk_of e kept work) work.leads s steps in
      advance-call disk_of e work.running work.busy (Err step.Disk) (record e { store = s; reserving = None })
      (λ logs. inl (given_up-state disk_of e kept work s cut logs)) cut.stands refl steps.one refl refl refl refl
      steps.work.works steps.work.fails
      (given_up-moments disk_of e kept work s cut) (given_up-backed disk_of e kept work s cut)

-- ---- a command

heads_same : {A : Type 0} (a b : A) (rest others : List A) → a ∷ rest ≡ b ∷ others → a ≡ b
heads_same a b rest others is = cc

module _ {D : Type 0} (disk_of : D → disk.Disk) (e : EndpointValue D) (kept : IsSoundEndpoint e) (work : IsKeeping e)
    (first : Waiting) (rest : List Waiting)
    (waits : e.waiting ≡ first ∷ rest) where
  same_first : work.first ≡ first
  same_first = heads_same work.first first work.rest rest (sym work.waiting ∙ waits)

  pub keeps : accept (standing_in e.store) first.command ≡ Ok work.after
  keeps = subst (λ (w : Waiting). accept (standing_in e.store) w.command ≡ Ok work.after) same_first work.accepted

  ranges : IsCommand first.command
  ranges = subst (λ (w : Waiting). IsCommand w.command) same_first work.in_range

  module _ (s : store.StoreValue D) (done : IsDone disk_of e.store work.after s) where
    -- the channels may follow
    pub follows : accept (standing_in e.store) first.command ≡ Ok (standing_in s)
    follows = keeps ∙ ap Ok (sym done.stands)

    module _ (tx : Tx) (rx : rxsc.RxValue) (channels : AreChannels tx rx (standing_in s))
        (next : (txsc.tx_side_of tx).next ≡ next_after first.command (txsc.tx_side_of e.tx).next)
        (numbers : (rxsc.rx_side_of rx).numbers ≡ numbers_after first.command (rxsc.rx_side_of e.rx).numbers) where
      abbrev followed : EndpointValue D
      followed = record e { store = s; tx = tx; rx = rx; under_way = None; waiting = rest; turn = turn.Reservation }

      fewer : (length (first ∷ rest) ≤ queue_length) → length rest ≤ queue_length
      fewer few = omega (arith, few)

      pub followed-kept : IsSoundEndpoint followed
      followed-kept =
          let old = standing_in e.store in
          let parts = accept-parts old first.command (standing_in s) follows in
          let made = parts.2 in
          let ahead = command-ahead old.identity first.command (txsc.tx_side_of e.tx).next
          (rxsc.rx_side_of e.rx).numbers old.ceilings ranges
          (accepted-in_range old first.command (ap is_ok follows)).0 (kept-ahead e kept) in
          let second : AreAhead old.identity (txsc.tx_side_of tx).next (rxsc.rx_side_of rx).numbers
          (ceilings_after old.identity first.command old.ceilings) =
          subst (λ (m : List ℕ → ℕ → Option Numbers). AreAhead old.identity (txsc.tx_side_of tx).next m
          (ceilings_after old.identity first.command old.ceilings)) (sym numbers)
          (subst (λ (n : ℕ → Option ℕ).
          AreAhead old.identity n (numbers_after first.command (rxsc.rx_side_of e.rx).numbers)
          (ceilings_after old.identity first.command old.ceilings)) (sym next) ahead) in
          let third : AreAhead (standing_in s).identity (txsc.tx_side_of tx).next (rxsc.rx_side_of rx).numbers
          (standing_in s).ceilings =
          subst (λ (x : Standing). AreAhead x.identity (txsc.tx_side_of tx).next (rxsc.rx_side_of rx).numbers
          x.ceilings) (sym made) second in
          record {
            identity = subst (λ (x : Standing). IsIdentity x.identity) (sym made) kept.identity;
            channels = channels;
            within = ahead-within tx rx (standing_in s) channels third;
            few = fewer (subst (λ (w : List Waiting). length w ≤ queue_length) waits kept.few);
            tickets = kept.tickets;
            work = inl (record { store = done.idle; reserving = work.reserving; under_way = λ going. refl });
          }

      pub followed-call : Steps disk_of e.store (Ok Finished) s
          → txsc.counters_of tx ≡ txsc.counters_of e.tx → rxsc.counters_of rx ≡ rxsc.counters_of e.rx
          → rxsc.channel_counters_of rx ≡ channel_counters_after_command first.command (rxsc.channel_counters_of e.rx)
          → IsCall disk_of e Advances (Advanced (Ok (Done first.ticket (Ok tt)))) followed
      followed-call steps tx_counters rx_counters channel_counters =
          let parts = accept-parts (standing_in e.store) first.command (standing_in s) follows in
          advance-call disk_of e work.running work.busy (Ok (Done first.ticket (Ok tt))) followed
          (λ logs. (
            first,
            rest,
            waits,
            refl,
            (
              parts.0,
              parts.1,
              λ i. record {
                edition = this_edition;
                identity = (parts.2 i).identity;
                config = (parts.2 i).config;
                next = next i;
                numbers = numbers i;
                logs = logs;
                stopped = (done.running ∙ sym work.running) i;
                under_way = None;
                waiting = rest;
                tickets = e.tickets;
              },
            ),
          ))
          (subst (λ (w : List Waiting). StandsAfter (first_command w) (standing_in e.store) (standing_in s))
          (sym waits) follows)
          ((work.first.command, work.under_way), done.idle, steps.last refl) (steps.call work.busy) refl
          tx_counters rx_counters
          (subst (λ (w : List Waiting). rxsc.channel_counters_of rx ≡ channel_counters_after_made (first_command w)
          (rxsc.channel_counters_of e.rx)) (sym waits) channel_counters)
          steps.work.works steps.work.fails
          (λ honest backed logs.
          fits-moments e kept disk_of (disk_in disk_of followed) logs work.after backed.size work.leads
          (done.any_moment honest (backed.stored work.running)))
          (λ honest backed. kept-backed followed followed-kept disk_of
          (subst (λ (n : ℕ). least_sectors ≤ n) (sym done.works.sectors) backed.size)
          (done.stored honest (backed.stored work.running)))

module _ {D : Type 0} (disk_of : D → disk.Disk) (e : EndpointValue D) (kept : IsSoundEndpoint e) (work : IsKeeping e)
    (s : store.StoreValue D) (cut : IsCut disk_of e.store work.after s) where
  abbrev pub cut_short : EndpointValue D
  cut_short = record e { store = s }

  pub cut_short-kept : IsSoundEndpoint cut_short
  cut_short-kept = kept-held e cut_short kept cut.stands kept.few kept.tickets
      (inl (record {
        store = cut.idle;
        reserving = work.reserving;
        under_way =
            λ going. absurd (not_stopped (store.is_stopped s) cut.stopped going);
      }))

  cut_state : (logs : Logs) → state_of cut_short logs ≡ state_after_fault (state_of e logs)
  cut_state logs = λ i. record {
    edition = this_edition;
    identity = (cut.stands i).identity;
    config = (cut.stands i).config;
    next = (txsc.tx_side_of e.tx).next;
    numbers = (rxsc.rx_side_of e.rx).numbers;
    logs = logs;
    stopped = cut.stopped i;
    under_way = e.under_way;
    waiting = e.waiting;
    tickets = e.tickets;
  }

  pub cut_short-call : Steps disk_of e.store (Err fault.Disk) s
      → IsCall disk_of e Advances (Advanced (Err step.Disk)) cut_short
  cut_short-call steps =
      advance-call disk_of e work.running work.busy (Err step.Disk) cut_short (λ logs. inl (cut_state logs)) cut.stands
      refl steps.one refl refl refl refl
      steps.work.works steps.work.fails
      (λ honest backed logs.
      fits-moments e kept disk_of (disk_in disk_of cut_short) logs work.after backed.size work.leads
      (cut.any_moment honest (backed.stored work.running)))
      (λ honest backed. cut-backed e kept disk_of cut_short cut.stopped cut_state work.after
      (subst (λ (n : ℕ). least_sectors ≤ n) (sym cut.works.sectors) backed.size) work.leads
      (cut.any_moment honest (backed.stored work.running)))
