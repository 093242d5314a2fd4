-- A command that does not wait: it is kept and followed, or refused, or cut short.
use Rattle.std.proofs.Common.{◌≡◌, ◌≤◌, ◌+◌, [], inl, inr, ℕ, true, false, not, ◌&&◌, if◌then◌else◌, List, Option, Some}
use Rattle.std.proofs.Common.{None, Result, Ok, Err, is_ok, IsOk, refl, sym, ◌∙◌, ap, subst, arith}
use Rattle.macs_config.specs.Apply.{IsCommand, Named, Reason, apply}
use Rattle.macs_config.specs.Config.{Config, this_edition}
use Rattle.macs_config.specs.Identity.{IsIdentity}
use Rattle.macs_config.specs.declared.command.Command.{Command}
use Rattle.macs_config.specs.declared.refusal.Refusal.{Refusal}
use Rattle.macs_disk.specs.Disk.{IsHonest}
use Rattle.macs_disk.specs.Disk as disk
use Rattle.macs_disk.specs.Runs.{Leaves}
use Rattle.macs_disk.proofs.Moments.{Leaves-now, Leaves-weaker}
use Rattle.macs_journal.specs.Areas.{least_sectors}
use Rattle.macs_txsc.specs.Value as txsc
use Rattle.macs_txsc.specs.declared.channel.Tx.{Tx}
use Rattle.macs_rxsc.specs.Receive.{Numbers}
use Rattle.macs_rxsc.specs.Value as rxsc
use Rattle.macs_store.specs.Found.{CommitLeaves}
use Rattle.macs_store.specs.Keeps.{Commits, generation_after, generation_with_change, most_calls, most_with_change}
use Rattle.macs_store.specs.Keeps.{slots_after, slots_with_change}
use Rattle.macs_store.specs.Value.{IsIdle, calls_left, generation_then, slots_then, standing_in}
use Rattle.macs_store.specs.Value as store
use Rattle.macs_store.specs.Standing.{Standing, accept, ceilings_after, standing_or_refusal}
use Rattle.macs_store.specs.Table.{standing_of}
use Rattle.macs_store.proofs.Keeping.{accepted-in_range}
use Rattle.macs_store.specs.declared.fault.CommitFault.{CommitFault}
use Rattle.macs_store.specs.declared.fault.CommitFault.TheVariants as commit
use Rattle.macs_endpoint.specs.Advancing.{turn_after}
use Rattle.macs_endpoint.specs.Calls.{Fails, IsCall, EndsWork}
use Rattle.macs_endpoint.specs.Ceilings.{Raise, StandsRan, standing_with_reserved}
use Rattle.macs_endpoint.specs.Counting.{channel_counters_after_command}
use Rattle.macs_endpoint.specs.KeptCommands.{KeepsCommand, most_in_command}
use Rattle.macs_endpoint.specs.Limits.{IsLimited, IsStill}
use Rattle.macs_endpoint.specs.Restart.{Fits, FitsCall, state_during, state_taking_alone}
use Rattle.macs_endpoint.specs.RefillCosts.{reserved_in}
use Rattle.macs_endpoint.specs.State.{Accepts, Commands, Logs, Ran, State, state_after_fault, state_with_under_way}
use Rattle.macs_endpoint.specs.Step.{Step, next_after, numbers_after}
use Rattle.macs_endpoint.specs.Value.{AreChannels, EndpointValue, IsBacked, IsSoundEndpoint, disk_in, is_stopped}
use Rattle.macs_endpoint.specs.Value.{state_of}
use Rattle.macs_endpoint.specs.declared.fault.CommandFault.{CommandFault}
use Rattle.macs_endpoint.specs.declared.fault.CommandFault.TheVariants.{Busy, Disk, GenerationsSpent, Refused, Stopped}
use Rattle.macs_endpoint.specs.declared.queue.Waiting.{Waiting}
use Rattle.macs_endpoint.specs.declared.turn.Turn.TheVariants as turn
use Rattle.macs_endpoint.proofs.Alone.{alone-call}
use Rattle.macs_endpoint.proofs.Ended.{kept-held, not_stopped}
use Rattle.macs_endpoint.proofs.Fitting.{AreAhead, accept-parts, ahead-within, command-ahead, fits-commit, kept-ahead}
use Rattle.macs_endpoint.proofs.Working.{at-rest, kept-backed}

-- ---- refusals

pub by_accepted : (s : Standing) (command : Command) (result : Result Config Reason)
    → IsOk (standing_or_refusal s command result) → IsOk result
by_accepted s command (Ok config) is = refl
by_accepted s command (Err refusal) is = absurd cc

-- a command is under way while it is kept
during-held : (s : State) (command : Command) → s.waiting ≡ [] → s.stopped ≡ false → Accepts s command
    → state_during s (Commands command) ≡ state_with_under_way s command
during-held s command none running accepts =
    ap (λ (waiting : List Waiting). state_taking_alone s command waiting) none
    ∙ (λ i. if not (running i) && accepts i then state_with_under_way s command else s)

module _ {D : Type 0} (disk_of : D → disk.Disk) (e : EndpointValue D) (command : Command)
    (ranges : IsCommand command) where
  -- nothing changes but whose turn it is
  unmoved : (fault : CommandFault) (other : EndpointValue D) → other.tx ≡ e.tx → other.rx ≡ e.rx
      → ((logs : Logs) → Step (state_of e logs) (Commands command) (Ran (Err fault))
      (state_of (record other { store = e.store }) logs))
      → Fails (disk_in disk_of e) (disk_in disk_of e) (Ran (Err fault))
      → StandsRan (standing_in e.store) e.reserving command (Err fault) (standing_in e.store)
      → IsLimited e (Commands command) (Ran (Err fault)) (record other { store = e.store })
      → IsStill e (Commands command) (Ran (Err fault)) (record other { store = e.store })
      → EndsWork (Commands command) (Ran (Err fault)) (record other { store = e.store })
      → other.turn ≡ turn_after e (Commands command) (Ran (Err fault))
      → (IsBacked disk_of e → IsBacked disk_of (record other { store = e.store }))
      → IsCall disk_of e (Commands command) (Ran (Err fault)) (record other { store = e.store })
  unmoved fault other tx rx step fails stands limited still rests whose backs =
      alone-call disk_of e other (Commands command) (Ran (Err fault)) fails backs (record {
        in_range = ranges;
        step = λ logs. (logs, step logs);
        ceilings = stands;
        limited = limited;
        still = still;
        ends_work = rests;
        advances = tt;
        turn = whose;
        tx_counters = ap txsc.counters_of tx;
        rx_counters = ap rxsc.counters_of rx;
        channel_counters = ap rxsc.channel_counters_of rx;
      })

  quick : (disk_in disk_of e).clock ≤ (disk_in disk_of e).clock + most_in_command e
  quick = omega arith

  -- no device call is made
  no_call : (disk_in disk_of e).clock ≤ (disk_in disk_of e).clock + calls_left e.store
  no_call = omega arith

  pub stopped-command : is_stopped e ≡ true → KeepsCommand disk_of e command (Err Stopped) e
  stopped-command stopped = record {
    call = unmoved Stopped e refl refl (λ logs. inl (stopped, tt, refl)) refl refl tt refl tt refl (λ backed. backed);
    slots = tt;
    generation = tt;
    most = quick;
    spent = λ is. no_call;
  }

  pub busy-command : is_stopped e ≡ false → ¬ (e.waiting ≡ []) → KeepsCommand disk_of e command (Err Busy) e
  busy-command running waits = record {
    call = unmoved Busy e refl refl (λ logs. inr (running, (waits, refl))) refl refl tt refl tt refl (λ backed. backed);
    slots = tt;
    generation = tt;
    most = quick;
    spent = λ is. no_call;
  }

  turned_backed : IsBacked disk_of e → IsBacked disk_of (record e { turn = turn.Reservation })
  turned_backed backed = record { size = backed.size; stored = backed.stored; fits = backed.fits; form = backed.form }

  pub refused-command : (refusal : Refusal) → is_stopped e ≡ false → e.waiting ≡ []
      → apply this_edition (standing_in e.store).identity (standing_in e.store).config command ≡ Err (Named refusal)
      → KeepsCommand disk_of e command (Err (Refused refusal)) (record e { turn = turn.Reservation })
  refused-command refusal running none refused = record {
    call = unmoved (Refused refusal) (record e { turn = turn.Reservation }) refl refl
        (λ logs. inr (running, (none, refused, refl))) refl refl tt refl tt refl turned_backed;
    slots = tt;
    generation = tt;
    most = quick;
    spent = λ is. no_call;
  }

-- ---- a command that is accepted

pub ok_not_err : {X : Type 0} (result : Result X Reason) (reason : Reason) → IsOk result → result ≡ Err reason → ⊥
ok_not_err (Ok x) reason is not = absurd cc
ok_not_err (Err other) reason is not = absurd cc

module _ {D : Type 0} (disk_of : D → disk.Disk) (e : EndpointValue D) (kept : IsSoundEndpoint e) (command : Command)
    (ranges : IsCommand command)
    (running : is_stopped e ≡ false) (idle : IsIdle e.store) (none : e.waiting ≡ [])
    (accepted : IsOk (accept (standing_in e.store) command)) where
  accepts : IsOk (apply this_edition (standing_in e.store).identity (standing_in e.store).config command)
  accepts = by_accepted (standing_in e.store) command
      (apply this_edition (standing_in e.store).identity (standing_in e.store).config command) accepted

  free : e.reserving ≡ None
  free = (at-rest e kept idle).reserving

  none_under_way : e.under_way ≡ None
  none_under_way = (at-rest e kept idle).under_way running

  few_calls : (old new : ℕ) → new ≤ old + most_calls e.store → new ≤ old + most_in_command e
  few_calls old new within =
      let same : most_with_change (slots_then e.store) (reserved_in e) ≡ most_calls e.store =
      λ i. most_with_change (store.slots_with e.store (idle i))
      (standing_with_reserved (standing_in e.store) (free i)) in
      omega (arith, within, same)

  -- no work is under way, so a change leaves what it leaves of the store as it is
  same_slots : slots_after e.store ≡ slots_with_change (slots_then e.store) (reserved_in e)
  same_slots = λ i. slots_with_change (store.slots_with e.store (sym idle i))
      (standing_with_reserved (standing_in e.store) (sym free i))

  same_generation : generation_after e.store ≡ generation_with_change (slots_then e.store) (generation_then e.store)
  same_generation =
      λ i. generation_with_change (store.slots_with e.store (sym idle i)) (store.generation_with e.store (sym idle i))

  stands_ran : (result : Result (Unit {0}) CommandFault) (s : Standing)
      → StandsRan (standing_in e.store) None command result s
      → StandsRan (standing_in e.store) e.reserving command result s
  stands_ran result s stands =
      subst (λ (o : Option Raise). StandsRan (standing_in e.store) o command result s) (sym free) stands

  -- the journal cannot be compacted
  pub spent-command : (s : store.StoreValue D) → Commits disk_of e.store command (Err commit.GenerationsSpent) s
      → KeepsCommand disk_of e command (Err GenerationsSpent) (record e { store = s; turn = turn.Reservation })
  spent-command s commits =
      let same : s ≡ e.store = elim commits.same [
        | inl is ↦ absurd cc
        | inr is ↦ is
      ] in
      let spent = (commits.spent.0 refl).1 in
      subst (λ (x : store.StoreValue D). KeepsCommand disk_of e command (Err GenerationsSpent)
      (record e { store = x; turn = turn.Reservation })) (sym same)
      (record {
        call = unmoved disk_of e command ranges GenerationsSpent (record e { turn = turn.Reservation }) refl refl
            (λ logs. inr (running, (none, accepts, refl))) refl
            (stands_ran (Err GenerationsSpent) (standing_in e.store) refl) spent (λ rests. refl) idle refl
            (turned_backed disk_of e command ranges);
        slots = tt;
        generation = tt;
        most = quick disk_of e command ranges;
        spent = λ is. no_call disk_of e command ranges;
      })

  moments : (new : disk.Disk) (later : State) (logs : Logs) → IsBacked disk_of e
      → Leaves (disk_in disk_of e) new (CommitLeaves (standing_in e.store) command)
      → Leaves (disk_in disk_of e) new (FitsCall (disk_in disk_of e).sectors (state_of e logs) (Commands command) later)
  moments new later logs backed leaves =
      let sectors = (disk_in disk_of e).sectors in
      let old = state_of e logs in
      Leaves-weaker (disk_in disk_of e) new (CommitLeaves (standing_in e.store) command)
      (FitsCall sectors old (Commands command) later)
      (λ image left. inl
      (subst (λ (s : State). Fits this_edition sectors image s) (sym (during-held old command none running accepts))
      (fits-commit sectors image backed.size (state_with_under_way old command) (standing_in e.store).ceilings command
      (kept-ahead e kept) ranges refl left)))
      leaves

  -- ---- a device call failed

  module _ (s : store.StoreValue D) (commits : Commits disk_of e.store command (Err commit.Disk) s) where
    abbrev cut : EndpointValue D
    cut = record e { store = s; under_way = Some command; turn = turn.Reservation }

    cut_same : standing_in s ≡ standing_in e.store
    cut_same = ap standing_of (commits.halted refl).1

    cut_stopped : store.is_stopped s ≡ true
    cut_stopped = (commits.halted refl).0

    pub cut-kept : IsSoundEndpoint cut
    cut-kept = kept-held e cut kept cut_same kept.few kept.tickets
        (inl (record {
          store = commits.idle;
          reserving = free;
          under_way =
              λ going. absurd (not_stopped (store.is_stopped s) cut_stopped going);
        }))

    cut_state : (logs : Logs) → state_of cut logs ≡ state_after_fault (state_with_under_way (state_of e logs) command)
    cut_state logs = λ i. record {
      edition = this_edition;
      identity = (cut_same i).identity;
      config = (cut_same i).config;
      next = (txsc.tx_side_of e.tx).next;
      numbers = (rxsc.rx_side_of e.rx).numbers;
      logs = logs;
      stopped = cut_stopped i;
      under_way = Some command;
      waiting = e.waiting;
      tickets = e.tickets;
    }

    cut_backed : IsHonest (disk_in disk_of cut) → IsBacked disk_of e → IsBacked disk_of cut
    cut_backed honest backed =
        let sectors = (disk_in disk_of cut).sectors in
        let size : least_sectors ≤ sectors =
        subst (λ (n : ℕ). least_sectors ≤ n) (sym commits.work.works.sectors) backed.size in
        let leaves = commits.any_moment honest (backed.stored running) in
        record {
          size = size;
          stored = λ going. absurd (not_stopped (store.is_stopped s) cut_stopped going);
          fits = λ logs image left. subst (λ (x : State). Fits this_edition sectors image x) (sym (cut_state logs))
              (fits-commit sectors image size (state_after_fault (state_with_under_way (state_of e logs) command))
              (standing_in e.store).ceilings command (kept-ahead e kept) ranges refl
              (Leaves-now (disk_in disk_of e) (disk_in disk_of cut) (CommitLeaves (standing_in e.store) command) leaves
              image left));
          form = λ image left. (Leaves-now (disk_in disk_of e) (disk_in disk_of cut)
              (CommitLeaves (standing_in e.store) command) leaves image left).1;
        }

    pub cut-command : KeepsCommand disk_of e command (Err Disk) cut
    cut-command = record {
      call = record {
        behaves = record {
          in_range = ranges;
          step = λ logs. (logs, inr (running, (none, accepts, cut_state logs)));
          ceilings = stands_ran (Err Disk) (standing_in s) (inl cut_same);
          limited = tt;
          still = tt;
          ends_work = tt;
          advances = tt;
          turn = refl;
          tx_counters = refl;
          rx_counters = refl;
          channel_counters = refl;
        };
        device = record { works = commits.work.works; fails = commits.work.fails };
        survives = λ honest backed. record {
          any_moment = λ logs later. moments (disk_in disk_of cut) (state_of cut later) logs backed
              (commits.any_moment honest (backed.stored running));
          backed = cut_backed honest backed;
        };
      };
      slots = tt;
      generation = tt;
      most = few_calls (disk_in disk_of e).clock (disk_in disk_of cut).clock commits.most;
      spent = λ is. absurd cc;
    }

  -- ---- the command was kept

  module _ (s : store.StoreValue D) (commits : Commits disk_of e.store command (Ok tt) s) (tx : Tx) (rx : rxsc.RxValue)
      (channels : AreChannels tx rx (standing_in s))
      (next : (txsc.tx_side_of tx).next ≡ next_after command (txsc.tx_side_of e.tx).next)
      (numbers : (rxsc.rx_side_of rx).numbers ≡ numbers_after command (rxsc.rx_side_of e.rx).numbers) where
    abbrev done : EndpointValue D
    done = record e { store = s; tx = tx; rx = rx; turn = turn.Reservation }

    pub done-kept : IsSoundEndpoint done
    done-kept =
        let old = standing_in e.store in
        let parts = accept-parts old command (standing_in s) commits.done in
        let made = parts.2 in
        let first = command-ahead old.identity command (txsc.tx_side_of e.tx).next (rxsc.rx_side_of e.rx).numbers
        old.ceilings ranges
        (accepted-in_range old command (ap is_ok commits.done)).0 (kept-ahead e kept) in
        let second : AreAhead old.identity (txsc.tx_side_of tx).next (rxsc.rx_side_of rx).numbers
        (ceilings_after old.identity command old.ceilings) =
        subst (λ (m : List ℕ → ℕ → Option Numbers). AreAhead old.identity (txsc.tx_side_of tx).next m
        (ceilings_after old.identity command old.ceilings)) (sym numbers)
        (subst (λ (n : ℕ → Option ℕ). AreAhead old.identity n (numbers_after command (rxsc.rx_side_of e.rx).numbers)
        (ceilings_after old.identity command old.ceilings)) (sym next) first) in
        let third : AreAhead (standing_in s).identity (txsc.tx_side_of tx).next (rxsc.rx_side_of rx).numbers
        (standing_in s).ceilings =
        subst (λ (x : Standing). AreAhead x.identity (txsc.tx_side_of tx).next (rxsc.rx_side_of rx).numbers x.ceilings)
        (sym made) second in
        record {
          identity = subst (λ (x : Standing). IsIdentity x.identity) (sym made) kept.identity;
          channels = channels;
          within = ahead-within tx rx (standing_in s) channels third;
          few = kept.few;
          tickets = kept.tickets;
          work = inl (record { store = commits.idle; reserving = free; under_way = λ going. none_under_way });
        }

    pub done-command : txsc.counters_of tx ≡ txsc.counters_of e.tx → rxsc.counters_of rx ≡ rxsc.counters_of e.rx
        → rxsc.channel_counters_of rx ≡ channel_counters_after_command command (rxsc.channel_counters_of e.rx)
        → KeepsCommand disk_of e command (Ok tt) done
    done-command tx_counters rx_counters channel_counters =
        let parts = accept-parts (standing_in e.store) command (standing_in s) commits.done in
        record {
          call = record {
            behaves = record {
              in_range = ranges;
              step = λ logs. (
                logs,
                inr (
                  running,
                  (
                    none,
                    (
                      parts.0,
                      parts.1,
                      λ i. record {
                        edition = this_edition;
                        identity = (parts.2 i).identity;
                        config = (parts.2 i).config;
                        next = next i;
                        numbers = numbers i;
                        logs = logs;
                        stopped = (commits.running ∙ sym running) i;
                        under_way = none_under_way i;
                        waiting = e.waiting;
                        tickets = e.tickets;
                      },
                    ),
                  ),
                ),
              );
              ceilings = stands_ran (Ok tt) (standing_in s) commits.done;
              limited = tt;
              still = tt;
              ends_work = commits.idle;
              advances = tt;
              turn = refl;
              tx_counters = tx_counters;
              rx_counters = rx_counters;
              channel_counters = channel_counters;
            };
            device = record { works = commits.work.works; fails = commits.work.fails };
            survives = λ honest backed. record {
              any_moment = λ logs later. moments (disk_in disk_of done) (state_of done later) logs backed
                  (commits.any_moment honest (backed.stored running));
              backed = kept-backed done done-kept disk_of
                  (subst (λ (n : ℕ). least_sectors ≤ n) (sym commits.work.works.sectors) backed.size)
                  (commits.stored honest (backed.stored running));
            };
          };
          slots = commits.slots ∙ same_slots;
          generation = commits.generation ∙ same_generation;
          most = few_calls (disk_in disk_of e).clock (disk_in disk_of done).clock commits.most;
          spent = λ is. absurd cc;
        }

  -- no other refusal is left
  pub spent_only : (at : CommitFault) (s : store.StoreValue D) → (¬ (at ≡ commit.Disk))
      → Commits disk_of e.store command (Err at) s → at ≡ commit.GenerationsSpent
  spent_only commit.Stopped s other commits = absurd (not_stopped (is_stopped e) (commits.stopped.0 refl) running)
  spent_only (commit.Refused refusal) s other commits = absurd
      (ok_not_err (accept (standing_in e.store) command) (Named refusal) accepted ((commits.refused refusal).0 refl).1)
  spent_only commit.GenerationsSpent s other commits = refl
  spent_only commit.Disk s other commits = absurd (other refl)
