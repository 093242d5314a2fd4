-- A command that is to wait: it comes after the others, under a ticket of its own, and no work is touched.
use Rattle.std.proofs.Common.{◌≡◌, ◌≤◌, ◌<◌, ◌∷◌, ◌⊎◌, [], inl, inr, ℕ, true, false, List, length, Result, Ok, Err}
use Rattle.std.proofs.Common.{refl, sym, ap, subst, arith}
use Rattle.std.proofs.lemmas.List.{length-append}
use Rattle.macs_config.specs.Apply.{IsCommand}
use Rattle.macs_config.specs.declared.command.Command.{Command}
use Rattle.macs_disk.specs.Disk as disk
use Rattle.macs_txsc.specs.Value as txsc
use Rattle.macs_rxsc.specs.Value as rxsc
use Rattle.macs_store.specs.Value.{StoreValue}
use Rattle.macs_endpoint.specs.Calls.{IsCall}
use Rattle.macs_endpoint.specs.Parts.{endpoint_of}
use Rattle.macs_endpoint.specs.Queue.{QueueValue, Queues, last_ticket, queue_length, with_waiting}
use Rattle.macs_endpoint.specs.State.{Logs, Submits, Submitted}
use Rattle.macs_endpoint.specs.Step.{RunningStep, Step}
use Rattle.macs_endpoint.specs.Value.{EndpointValue, IsAtRest, IsBacked, IsKeeping, IsReserving, IsSoundEndpoint}
use Rattle.macs_endpoint.specs.Value.{is_stopped, state_of}
use Rattle.macs_endpoint.specs.declared.channels.Channels.{Channels}
use Rattle.macs_endpoint.specs.declared.fault.SubmitFault.{SubmitFault}
use Rattle.macs_endpoint.specs.declared.fault.SubmitFault.TheVariants as submit
use Rattle.macs_endpoint.specs.declared.queue.Waiting.{Waiting}
use Rattle.macs_endpoint.specs.declared.turn.Turn.{Turn}
use Rattle.macs_endpoint.proofs.Alone.{alone-call}
use Rattle.macs_endpoint.proofs.Ended.{kept-held}
use Rattle.macs_endpoint.proofs.Working.{kept-backed}

-- one command more
one_more : (waiting : List Waiting) (ticket : ℕ) (command : Command) → length waiting < queue_length
    → length (with_waiting waiting ticket command) ≤ queue_length
one_more waiting ticket command few =
    let last : Waiting = record { ticket = ticket; command = command } in
    let added = length-append waiting (last ∷ []) in
    omega (arith, few, added)

module _ {D : Type 0} (disk_of : D → disk.Disk) (e : EndpointValue D) (command : Command)
    (ranges : IsCommand command) where
  -- the store and the channels stay as they are
  untouched : (result : Result ℕ SubmitFault) (other : EndpointValue D) → other.tx ≡ e.tx → other.rx ≡ e.rx
      → other.turn ≡ e.turn
      → ((logs : Logs) → Step (state_of e logs) (Submits command) (Submitted result)
      (state_of (record other { store = e.store }) logs))
      → (IsBacked disk_of e → IsBacked disk_of (record other { store = e.store }))
      → IsCall disk_of e (Submits command) (Submitted result) (record other { store = e.store })
  untouched result other tx rx whose steps backs =
      alone-call disk_of e other (Submits command) (Submitted result) refl backs (record {
        in_range = ranges;
        step = λ logs. (logs, steps logs);
        ceilings = refl;
        limited = tt;
        still = refl;
        ends_work = tt;
        advances = tt;
        turn = whose;
        tx_counters = ap txsc.counters_of tx;
        rx_counters = ap rxsc.counters_of rx;
        channel_counters = ap rxsc.channel_counters_of rx;
      })

  -- a device call failed before
  pub stopped-submit : is_stopped e ≡ true → IsCall disk_of e (Submits command) (Submitted (Err submit.Stopped)) e
  stopped-submit stopped =
      untouched (Err submit.Stopped) e refl refl refl (λ logs. inl (stopped, tt, refl)) (λ backed. backed)

-- ---- the commands that wait

module _ {D : Type 0} (disk_of : D → disk.Disk) (s : StoreValue D) (channels : Channels) (before : QueueValue)
    (whose : Turn) (command : Command) (ranges : IsCommand command) where
  -- an endpoint with this queue
  abbrev pub queued : QueueValue → EndpointValue D
  queued queue = endpoint_of s channels queue whose

  abbrev e : EndpointValue D
  e = queued before

  -- the queue with one command more
  abbrev more : ℕ → QueueValue
  more ticket = record before { waiting = with_waiting before.waiting ticket command; given = ticket }

  -- the work under way is the same
  more_work : (ticket : ℕ) → IsAtRest e ⊎ (IsReserving e ⊎ IsKeeping e)
      → IsAtRest (queued (more ticket)) ⊎ (IsReserving (queued (more ticket)) ⊎ IsKeeping (queued (more ticket)))
  more_work ticket (inl rest) =
      inl (record { store = rest.store; reserving = rest.reserving; under_way = rest.under_way })
  more_work ticket (inr (inl work)) = inr (inl (record {
    running = work.running;
    busy = work.busy;
    raise = work.raise;
    reserving = work.reserving;
    under_way = work.under_way;
    leads = work.leads;
    within = work.within;
  }))
  more_work ticket (inr (inr work)) = inr (inr (record {
    running = work.running;
    busy = work.busy;
    reserving = work.reserving;
    first = work.first;
    rest = with_waiting work.rest ticket command;
    waiting = ap (λ (w : List Waiting). with_waiting w ticket command) work.waiting;
    under_way = work.under_way;
    in_range = work.in_range;
    after = work.after;
    leads = work.leads;
    accepted = work.accepted;
  }))

  module _ (kept : IsSoundEndpoint e) where
    more_kept : (ticket : ℕ) → length e.waiting < queue_length → ticket ≤ last_ticket
        → IsSoundEndpoint (queued (more ticket))
    more_kept ticket few within =
        kept-held e (queued (more ticket)) kept refl
        (one_more e.waiting ticket command few) within
        (more_work ticket kept.work)

    -- what holds of every endpoint holds on
    pub queued-kept : (result : Result ℕ SubmitFault) (queue : QueueValue) → Queues before command result queue
        → IsSoundEndpoint (queued queue)
    queued-kept (Ok ticket) queue queues =
        let within : ticket ≤ last_ticket = let below = queues.1 in let is = queues.2 in omega (arith, below, is) in
        subst (λ (q : QueueValue). IsSoundEndpoint (queued q)) (sym queues.3) (more_kept ticket queues.0 within)
    queued-kept (Err submit.QueueFull) queue queues =
        subst (λ (q : QueueValue). IsSoundEndpoint (queued q)) (sym queues.1) kept
    queued-kept (Err submit.TicketsSpent) queue queues =
        subst (λ (q : QueueValue). IsSoundEndpoint (queued q)) (sym queues.2) kept
    queued-kept (Err submit.Stopped) queue queues = absurd queues

    module _ (running : is_stopped e ≡ false) where
      queued_call : (result : Result ℕ SubmitFault) (queue : QueueValue) → Queues before command result queue
          → ((logs : Logs)
          → RunningStep (state_of e logs) (Submits command) (Submitted result) (state_of (queued queue) logs))
          → IsCall disk_of e (Submits command) (Submitted result) (queued queue)
      queued_call result queue queues steps =
          untouched disk_of e command ranges result (queued queue) refl refl refl (λ logs. inr (running, steps logs))
          (λ backed.
          kept-backed (queued queue) (queued-kept result queue queues) disk_of backed.size (backed.stored running))

      -- the state with what waits then
      state_by : (queue other : QueueValue) (logs : Logs) → queue ≡ other
          → state_of (queued queue) logs ≡ state_of (queued other) logs
      state_by queue other logs same = ap (λ (q : QueueValue). state_of (queued q) logs) same

      -- it is to wait, or there is no room for it
      pub queued-submit : (result : Result ℕ SubmitFault) (queue : QueueValue) → Queues before command result queue
          → IsCall disk_of e (Submits command) (Submitted result) (queued queue)
      queued-submit (Ok ticket) queue queues =
          queued_call (Ok ticket) queue queues (λ logs. (
            queues.0,
            queues.1,
            queues.2,
            subst (λ (n : ℕ). state_of (queued queue) logs
                ≡ state_of (queued (more n)) logs) queues.2
                (state_by queue (more ticket) logs queues.3),
          ))
      queued-submit (Err submit.QueueFull) queue queues =
          queued_call (Err submit.QueueFull) queue queues (λ logs. (queues.0, state_by queue before logs queues.1))
      queued-submit (Err submit.TicketsSpent) queue queues =
          queued_call (Err submit.TicketsSpent) queue queues
          (λ logs. (queues.0, queues.1, state_by queue before logs queues.2))
      queued-submit (Err submit.Stopped) queue queues = absurd queues
