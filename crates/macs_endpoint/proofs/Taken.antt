-- Work that is started, before its first device call or with it, and a command that is refused before.
use Rattle.std.proofs.Common.{◌≡◌, ◌≤◌, ◌+◌, ◌==◌, if◌then◌else◌, ◌∙◌, inl, inr, ℕ, Bool, true, false, Option, Some}
use Rattle.std.proofs.Common.{None, Result, Ok, Err, is_err, OnErr, OnOk, refl, sym, ap, subst, arith}
use Rattle.macs_config.specs.Config.{this_edition}
use Rattle.macs_config.specs.declared.command.Command.{Command}
use Rattle.macs_disk.specs.Disk as disk
use Rattle.macs_disk.specs.Disk.{Works}
use Rattle.macs_disk.specs.Runs.{Leaves}
use Rattle.macs_disk.specs.States.{Image}
use Rattle.macs_disk.proofs.Moments.{Leaves-start, Leaves-weaker, Works-start}
use Rattle.macs_journal.specs.Areas.{least_sectors, slots}
use Rattle.macs_txsc.specs.Value as txsc
use Rattle.macs_rxsc.specs.Value as rxsc
use Rattle.macs_store.specs.Keeps.{IsSpent, most_calls}
use Rattle.macs_store.specs.Standing.{Standing}
use Rattle.macs_store.specs.Stepping.{HasUnderWay}
use Rattle.macs_store.specs.Table.{standing_of}
use Rattle.macs_store.specs.Value.{IsIdle, calls_left, standing_in}
use Rattle.macs_store.specs.Value as store
use Rattle.macs_endpoint.specs.Advancing.{AdvancesAs, BeginsWith, CallsAtOnce, GoesOn, Due, ToKeep, ToRaise, next_due}
use Rattle.macs_endpoint.specs.Advancing.{due_among, turn_after_step}
use Rattle.macs_endpoint.specs.Halves.{HasBegun}
use Rattle.macs_endpoint.specs.Calls.{Fails, IsCall}
use Rattle.macs_endpoint.specs.Ceilings.{Raise, StandsAdvanced, standing_with_raise}
use Rattle.macs_endpoint.specs.Counting.{channel_counters_after}
use Rattle.macs_endpoint.specs.Needed.{raise_in}
use Rattle.macs_endpoint.specs.Restart.{Fits, FitsCall, state_during}
use Rattle.macs_endpoint.specs.State.{Advanced, Advances, Logs, State, command_made, no_logs}
use Rattle.macs_endpoint.specs.Step.{AdvanceStep, Step}
use Rattle.macs_endpoint.specs.Value.{EndpointValue, IsBacked, IsSoundEndpoint, device_in, disk_in, is_stopped}
use Rattle.macs_endpoint.specs.Value.{state_of}
use Rattle.macs_endpoint.specs.declared.fault.StepFault.{StepFault}
use Rattle.macs_endpoint.specs.declared.fault.StepFault.TheVariants as step
use Rattle.macs_endpoint.specs.declared.progress.Step.{Step as Progress}
use Rattle.macs_endpoint.specs.declared.progress.Step.TheVariants.{Done, Idle, Reserved, Worked}
use Rattle.macs_endpoint.specs.declared.queue.Waiting.{Waiting}
use Rattle.macs_endpoint.specs.declared.turn.Turn.{Turn}
use Rattle.macs_endpoint.specs.declared.turn.Turn.TheVariants as turn
use Rattle.macs_endpoint.proofs.Alone.{alone-call}
use Rattle.macs_endpoint.proofs.Ended.{begun-backed, begun-state, not_stopped}
use Rattle.macs_endpoint.proofs.Fitting.{fits-advancing}
use Rattle.macs_endpoint.proofs.Working.{at-rest, still-on, still-same}

-- ---- what is due next

raised_due : (a b : Raise) → ToRaise a ≡ ToRaise b → Some a ≡ Some b
raised_due a b is = cc

taken_due : (a b : Waiting) → ToKeep a ≡ ToKeep b → Some a ≡ Some b
taken_due a b is = cc

pub raises-first : (whose : Turn) (o : Option Raise) (w : Option Waiting) (raise : Raise)
    → due_among whose o w ≡ Some (ToRaise raise) → o ≡ Some raise
raises-first whose None None raise is = absurd cc
raises-first whose (Some other) None raise is = let same : ToRaise other ≡ ToRaise raise = cc in
    raised_due other raise same
raises-first whose None (Some first) raise is = absurd cc
raises-first turn.Reservation (Some other) (Some first) raise is = let same : ToRaise other ≡ ToRaise raise = cc in
    raised_due other raise same
raises-first turn.Command (Some other) (Some first) raise is = absurd cc

pub takes-first : (whose : Turn) (o : Option Raise) (w : Option Waiting) (first : Waiting)
    → due_among whose o w ≡ Some (ToKeep first) → w ≡ Some first
takes-first whose None None first is = absurd cc
takes-first whose (Some raise) None first is = absurd cc
takes-first whose None (Some other) first is = let same : ToKeep other ≡ ToKeep first = cc in
    taken_due other first same
takes-first turn.Reservation (Some raise) (Some other) first is = absurd cc
takes-first turn.Command (Some raise) (Some other) first is = let same : ToKeep other ≡ ToKeep first = cc in
    taken_due other first same

-- ---- a change takes more than one call

most_by : (b : Bool) (n : ℕ) → 4 ≤ (if b then 523 + n else 4)
most_by true n = omega arith
most_by false n = omega arith

some_calls : {D : Type 0} (s : store.StoreValue D) → 4 ≤ most_calls s
some_calls s = most_by (store.used_slots s == slots) (store.snapshot_length s)

-- so the one after the start is not the last
pub many-calls : {D : Type 0} (disk_of : D → disk.Disk) (old : store.StoreValue D) (after : Standing)
    (new : store.StoreValue D)
    → HasUnderWay disk_of old after new → calls_left new ≡ 1 → ⊥
many-calls disk_of old after new has one = let most = has.left in let least = some_calls old in
    omega (arith, one, most, least)

-- ---- the start, and the call after it

-- A step makes a device call at once, which is the first one or not.
pub at-once : {D : Type 0} (disk_of : D → disk.Disk) (old mid new : EndpointValue D)
    (result : Result Progress StepFault) → device_in mid ≡ device_in old → (¬ IsIdle mid.store)
    → (IsIdle old.store → calls_left mid.store ≤ most_calls old.store) → AdvancesAs disk_of mid result new
    → CallsAtOnce disk_of old result new
at-once {D} disk_of old mid new (Ok Worked) device busy within does = (
  does.clock busy ∙ ap (λ (d : D). (disk_of d).clock + 1) device,
  λ idle. omega (arith, within idle, (does.goes_on busy).3),
)
at-once disk_of old mid new (Ok Idle) device busy within does = tt
at-once disk_of old mid new (Ok Reserved) device busy within does = tt
at-once disk_of old mid new (Ok (Done ticket result)) device busy within does = tt
at-once disk_of old mid new (Err fault) device busy within does = tt

-- where no device call is made the clock stays
clock-stays : (clock : ℕ) → clock ≤ clock + 1
clock-stays clock = omega arith

module _ {D : Type 0} (disk_of : D → disk.Disk) (e : EndpointValue D) (running : is_stopped e ≡ false)
    (idle : IsIdle e.store) (after : Standing)
    (s : store.StoreValue D) (has : HasUnderWay disk_of e.store after s) (under_way : Option Command)
    (reserving : Option Raise) where
  abbrev pub taken : EndpointValue D
  taken = record e { store = s; under_way = under_way; reserving = reserving }

  taken_disk : disk_in disk_of taken ≡ disk_in disk_of e
  taken_disk = ap disk_of has.device

  runs : (logs : Logs) (result : Result Progress StepFault) (t : State)
      → Step (state_of taken logs) Advances (Advanced result) t
      → AdvanceStep (state_of taken logs) result t
  runs logs result t made = elim made [
    | inl stopped ↦ absurd (not_stopped (is_stopped taken) stopped.0 has.running)
    | inr steps ↦ steps.1
  ]

  -- the start is a call by itself, which makes no device call
  pub start-call : ((logs : Logs) → AdvanceStep (state_of e logs) (Ok Worked) (state_of taken logs))
      → BeginsWith e (next_due e) (Ok Worked) taken → (IsBacked disk_of e → IsBacked disk_of taken)
      → IsCall disk_of e Advances (Advanced (Ok Worked)) taken
  start-call steps begins backs =
      let old = disk_in disk_of e in
      record {
        behaves = record {
          in_range = tt;
          step = λ logs. (logs, inr (running, steps logs));
          ceilings = ap standing_of has.standing;
          limited = tt;
          still = tt;
          ends_work = tt;
          advances = λ going. record {
            begins = λ nothing. begins;
            goes_on = λ busy. absurd (busy idle);
            one = subst (λ (d : disk.Disk). d.clock ≤ old.clock + 1) (sym taken_disk) (clock-stays old.clock);
            clock = λ busy. absurd (busy idle);
          };
          turn = refl;
          tx_counters = refl;
          rx_counters = refl;
          channel_counters = refl;
        };
        device = record {
          works = subst (λ (d : disk.Disk). Works old d) (sym taken_disk) (Works-start old);
          fails = ap (λ (d : disk.Disk). d.failures) taken_disk;
        };
        survives = λ honest backed. record {
          any_moment = λ logs after.
              let Left : Image → Type 0 = FitsCall old.sectors (state_of e logs) Advances (state_of taken after) in
              subst (λ (d : disk.Disk). Leaves old d Left) (sym taken_disk)
              (Leaves-start old Left (λ image left.
              inl (fits-advancing old.sectors image backed.size this_edition (state_of e logs)
              (backed.fits logs image left))));
          backed = backs backed;
        };
      }

  pub taken-call : (result : Result Progress StepFault) (new : EndpointValue D)
      → IsCall disk_of taken Advances (Advanced result) new
      → ((logs : Logs) (t : State) → AdvanceStep (state_of taken logs) result t
      → AdvanceStep (state_of e logs) result t)
      → StandsAdvanced (standing_in e.store) e.reserving
      (command_made (state_of e no_logs) Advances (Advanced result)) result (standing_in new.store)
      → BeginsWith e (next_due e) result new
      → rxsc.channel_counters_of new.rx
      ≡ channel_counters_after (state_of e no_logs) Advances (Advanced result) (rxsc.channel_counters_of e.rx)
      → ((logs : Logs) (sectors : ℕ) (image : Image) → least_sectors ≤ sectors
      → Fits this_edition sectors image (state_during (state_of taken logs) Advances)
      → Fits this_edition sectors image (state_during (state_of e logs) Advances))
      → (IsBacked disk_of e → IsBacked disk_of taken) → IsCall disk_of e Advances (Advanced result) new
  taken-call result new call leads stands begins counted during backs = record {
    behaves = record {
      in_range = tt;
      step = λ logs. let made = call.behaves.step logs in
          (made.0, inr (running, leads logs (state_of new made.0) (runs logs result (state_of new made.0) made.1)));
      ceilings = stands;
      limited = tt;
      still = still-on e taken new result ((call.behaves.advances has.running).goes_on has.busy);
      ends_work = tt;
      advances = λ going. record {
        begins = λ nothing. begins;
        goes_on = λ busy. absurd (busy idle);
        one = subst (λ (d : disk.Disk). (disk_in disk_of new).clock ≤ d.clock + 1) taken_disk
            (call.behaves.advances has.running).one;
        clock = λ busy. absurd (busy idle);
      };
      turn = call.behaves.turn;
      tx_counters = call.behaves.tx_counters;
      rx_counters = call.behaves.rx_counters;
      channel_counters = counted;
    };
    device = record {
      works = subst (λ (d : disk.Disk). Works d (disk_in disk_of new)) taken_disk call.device.works;
      fails = subst (λ (d : disk.Disk). Fails d (disk_in disk_of new) (Advanced result)) taken_disk call.device.fails;
    };
    survives = λ honest backed.
        let survives = call.survives honest (backs backed) in
        record {
          any_moment = λ logs later.
              let old = disk_in disk_of e in
              let From : disk.Disk → Image
              → Type 0 = λ d. FitsCall d.sectors (state_of taken logs) Advances (state_of new later) in
              Leaves-weaker old (disk_in disk_of new) (From old)
              (FitsCall old.sectors (state_of e logs) Advances (state_of new later))
              (λ image left. elim left [
                | inl before ↦ inl (during logs old.sectors image backed.size before)
                | inr made ↦ inr made
              ])
              (subst (λ (d : disk.Disk). Leaves d (disk_in disk_of new) (From d)) taken_disk
              (survives.any_moment logs later));
          backed = survives.backed;
        };
  }

-- ---- a reservation

module _ {D : Type 0} (disk_of : D → disk.Disk) (e : EndpointValue D) (kept : IsSoundEndpoint e)
    (running : is_stopped e ≡ false) (idle : IsIdle e.store)
    (raise : Raise) (first : raise_in e ≡ Some raise) (next : next_due e ≡ Some (ToRaise raise))
    (s : store.StoreValue D)
    (has : HasUnderWay disk_of e.store (standing_with_raise (standing_in e.store) raise) s) where
  abbrev raising : EndpointValue D
  raising = record e { store = s; reserving = Some raise }

  same_standing : standing_in s ≡ standing_in e.store
  same_standing = ap standing_of has.standing

  many : calls_left s ≡ 1 → ⊥
  many one = many-calls disk_of e.store (standing_with_raise (standing_in e.store) raise) s has one

  raise_call : (result : Result Progress StepFault) (new : EndpointValue D)
      → IsCall disk_of raising Advances (Advanced result) new
      → StandsAdvanced (standing_in e.store) e.reserving
      (command_made (state_of e no_logs) Advances (Advanced result)) result (standing_in new.store)
      → BeginsWith e (Some (ToRaise raise)) result new
      → rxsc.channel_counters_of new.rx
      ≡ channel_counters_after (state_of e no_logs) Advances (Advanced result) (rxsc.channel_counters_of e.rx)
      → IsCall disk_of e Advances (Advanced result) new
  raise_call result new call stands begins counted =
      let state = begun-state disk_of e kept running idle raise first s has in
      taken-call disk_of e running idle (standing_with_raise (standing_in e.store) raise) s has e.under_way (Some raise)
      result new call
      (λ logs t steps. subst (λ (x : State). AdvanceStep x result t) (state logs) steps) stands
      (subst (λ (p : Option Due). BeginsWith e p result new) (sym next) begins) counted
      (λ logs sectors image size fits.
      subst (λ (x : State). Fits this_edition sectors image (state_during x Advances)) (state logs) fits)
      (begun-backed disk_of e kept running idle raise first s has)

  free : e.under_way ≡ None
  free = (at-rest e kept idle).under_way running

  by_result : (result : Result Progress StepFault) (new : EndpointValue D)
      → IsCall disk_of raising Advances (Advanced result) new
      → GoesOn raising result new → IsCall disk_of e Advances (Advanced result) new
  by_result (Ok Worked) new call goes =
      raise_call (Ok Worked) new call (call.behaves.ceilings ∙ same_standing) (
        goes.0,
        (let left = goes.3 in let most = has.left in
            omega (arith, left, most)),
        goes.1 ∙ free,
      )
      call.behaves.channel_counters
  by_result (Err step.Disk) new call goes = raise_call (Err step.Disk) new call (call.behaves.ceilings ∙ same_standing)
      (goes ∙ free) call.behaves.channel_counters
  by_result (Ok Idle) new call goes = absurd goes
  by_result (Ok Reserved) new call goes = absurd (many goes.2)
  by_result (Ok (Done ticket (Ok done))) new call goes = absurd (many goes.2)
  by_result (Ok (Done ticket (Err at))) new call goes = absurd goes
  by_result (Err step.Stopped) new call goes = absurd goes
  by_result (Err step.GenerationsSpent) new call goes = absurd goes

  -- a reservation has begun, without its first device call
  pub raise-begun : (mid : EndpointValue D) → mid ≡ raising → HasBegun disk_of e mid
  raise-begun mid same =
      subst (λ (x : EndpointValue D). HasBegun disk_of e x) (sym same) (record {
        running = has.running;
        busy = has.busy;
        same = λ busy. absurd (busy idle);
        call = λ nothing. start-call disk_of e running idle (standing_with_raise (standing_in e.store) raise) s has
            e.under_way (Some raise) (λ logs. inl (begun-state disk_of e kept running idle raise first s has logs))
            (subst (λ (p : Option Due). BeginsWith e p (Ok Worked) raising) (sym next)
            (refl, omega (arith, has.left), free))
            (begun-backed disk_of e kept running idle raise first s has);
        step = λ result later call.
            let does = call.behaves.advances has.running in (
              by_result result later call (does.goes_on has.busy),
              at-once disk_of e raising later result has.device has.busy (λ nothing. omega (arith, has.left)) does,
            );
      })

-- ---- nothing begins

-- work that is under way has begun
pub going-begun : {D : Type 0} (disk_of : D → disk.Disk) (e : EndpointValue D) → is_stopped e ≡ false
    → (¬ IsIdle e.store) → HasBegun disk_of e e
going-begun disk_of e running busy = record {
  running = running;
  busy = busy;
  same = λ works. refl;
  call = λ idle. absurd (busy idle);
  step = λ result later call. (
    call,
    at-once disk_of e e later result refl busy (λ idle. absurd (busy idle)) (call.behaves.advances running),
  );
}

module _ {D : Type 0} (disk_of : D → disk.Disk) (e : EndpointValue D) (running : is_stopped e ≡ false)
    (idle : IsIdle e.store) where
  pub quiet : (result : Result Progress StepFault) (other : EndpointValue D)
      → ((logs : Logs) → AdvanceStep (state_of e logs) result (state_of (record other { store = e.store }) logs))
      → Fails (disk_in disk_of e) (disk_in disk_of e) (Advanced result)
      → StandsAdvanced (standing_in e.store) e.reserving
      (command_made (state_of e no_logs) Advances (Advanced result)) result (standing_in e.store)
      → BeginsWith e (next_due e) result (record other { store = e.store })
      → other.turn ≡ turn_after_step e.turn result
      → other.tx ≡ e.tx → other.rx ≡ e.rx
      → rxsc.channel_counters_of other.rx
      ≡ channel_counters_after (state_of e no_logs) Advances (Advanced result) (rxsc.channel_counters_of e.rx)
      → (IsBacked disk_of e → IsBacked disk_of (record other { store = e.store }))
      → IsCall disk_of e Advances (Advanced result) (record other { store = e.store })
  quiet result other steps fails stands begins whose tx rx counted backs =
      alone-call disk_of e other Advances (Advanced result) fails backs (record {
        in_range = tt;
        step = λ logs. (logs, inr (running, steps logs));
        ceilings = stands;
        limited = tt;
        still = still-same e (record other { store = e.store }) result refl;
        ends_work = tt;
        advances = λ going. record {
          begins = λ nothing. begins;
          goes_on = λ busy. absurd (busy idle);
          one = clock-stays (disk_in disk_of e).clock;
          clock = λ busy. absurd (busy idle);
        };
        turn = whose;
        tx_counters = ap txsc.counters_of tx;
        rx_counters = ap rxsc.counters_of rx;
        channel_counters = counted;
      })

  -- nothing is due
  pub idle-call : next_due e ≡ None → IsCall disk_of e Advances (Advanced (Ok Idle)) e
  idle-call none = quiet (Ok Idle) e (λ logs. refl) refl refl
      (subst (λ (p : Option Due). BeginsWith e p (Ok Idle) e) (sym none) refl) refl refl refl refl
      (λ backed. backed)

  -- the journal cannot be compacted for a reservation
  pub spent-call : (raise : Raise) → next_due e ≡ Some (ToRaise raise) → IsSpent e.store
      → IsCall disk_of e Advances (Advanced (Err step.GenerationsSpent)) (record e { turn = turn.Command })
  spent-call raise next spent =
      quiet (Err step.GenerationsSpent) (record e { turn = turn.Command }) (λ logs. refl) refl refl
      (subst (λ (p : Option Due). BeginsWith e p (Err step.GenerationsSpent) (record e { turn = turn.Command }))
      (sym next) spent) refl refl refl refl
      (λ backed. record { size = backed.size; stored = backed.stored; fits = backed.fits; form = backed.form })

-- a device call failed before
pub stopped-step : {D : Type 0} (disk_of : D → disk.Disk) (e : EndpointValue D) → is_stopped e ≡ true
    → IsCall disk_of e Advances (Advanced (Err step.Stopped)) e
stopped-step disk_of e stopped =
    alone-call disk_of e e Advances (Advanced (Err step.Stopped)) refl (λ backed. backed) (record {
      in_range = tt;
      step = λ logs. (logs, inl (stopped, tt, refl));
      ceilings = refl;
      limited = tt;
      still = refl;
      ends_work = tt;
      advances = λ going. absurd (not_stopped (is_stopped e) stopped going);
      turn = refl;
      tx_counters = refl;
      rx_counters = refl;
      channel_counters = refl;
    })

-- ---- what a start answers

pub on-err : {T E P : Type 0} (result : Result T E) → is_err result ≡ true → OnErr result P → P
on-err (Ok value) is holds = absurd cc
on-err (Err at) is holds = holds

pub on-ok : {E P : Type 0} (result : Result (Unit {0}) E) → is_err result ≡ false → OnOk result P → P
on-ok (Ok value) is holds = holds
on-ok (Err at) is holds = absurd cc
