-- What a `ReportedDisk` is.
use Rattle.std.specs.Prelude.{◌≡◌, ◌+◌, ◌-◌, ℕ, Bool, true, false, List, [], ◌∷◌, length, get_or}
use Rattle.std.specs.Prelude.{Option, None, is_some, unwrap_or, Result, Ok, Err}
use Rattle.macs_disk.specs.States.{DiskState}
use Rattle.macs_disk.specs.Disk.{Disk, IsHonest, now}
use Rattle.macs_disk.specs.DeviceCalls.{DoesCall, IsMade}
use Rattle.macs_disk.specs.declared.device_call.DeviceCall.{DeviceCall}
use Rattle.macs_disk.specs.declared.disk.DeviceFault.{DeviceFault}
use Rattle.macs_c.specs.ImageDisks.{image_of, sector_of}

-- a moment of a disk, as lists: what reads give, and, of each pending sector, what is durable
abbrev pub Moment : Type 0
Moment = List (List ℕ) × List (Option (List ℕ))

-- the state at that moment
abbrev pub reported_state : Moment → DiskState
reported_state moment =
    record {
      seen = image_of moment.0;
      durable = λ i. sector_of (unwrap_or (get_or moment.1 i None) (get_or moment.0 i []));
      pending = λ i. is_some (get_or moment.1 i None);
    }

-- a disk whose calls a C program makes: how many sectors it has, how many calls there were and how many of these
-- failed; its moments, the last one first, and whether it is honest
pub record ReportedValue : Type 0 where
  pub sectors : ℕ
  pub clock : ℕ
  pub failures : ℕ
  pub moments : List Moment
  pub honest : Bool

-- the moment this many calls ago
abbrev pub moment_before : List Moment → ℕ → Moment
moment_before moments calls = get_or moments calls ([], [])

-- a disk with these sectors, all durable, before the first call
abbrev pub reported_from : List (List ℕ) → Bool → ReportedValue
reported_from sectors honest =
    record { sectors = length sectors; clock = 0; failures = 0; moments = (sectors, []) ∷ []; honest = honest }

-- the disk that the reports describe, which is never worn
abbrev pub reported_disk : ReportedValue → Disk
reported_disk it =
    record {
      sectors = it.sectors;
      past = λ k. reported_state (moment_before it.moments (it.clock - k));
      clock = it.clock;
      failures = it.failures;
      honest = it.honest;
      worn = false;
      prompt = true;
    }

-- one for an answer that is a failure
abbrev pub failures_in : {T E : Type 0} → Result T E → ℕ
failures_in (Ok done) = 0
failures_in (Err fault) = 1

-- the same disk after a call that led to this moment
abbrev pub reported_next : ReportedValue → Moment → Result (Unit {0}) DeviceFault → ReportedValue
reported_next it next answer =
    record {
      sectors = it.sectors;
      clock = it.clock + 1;
      failures = it.failures + failures_in answer;
      moments = next ∷ it.moments;
      honest = it.honest;
    }

-- the answer of a call that does not reach the disk
abbrev pub missed : Result (Unit {0}) DeviceFault
missed = Err (record {})

-- On an honest disk the reported call led from the last moment to this one.
abbrev pub MayBeReported : ReportedValue → Moment → DeviceCall → List ℕ → Result (Unit {0}) DeviceFault → Type 0
MayBeReported it next asked read answer = IsHonest (reported_disk it)
    → DoesCall (now (reported_disk it)) (reported_state next) asked read answer
