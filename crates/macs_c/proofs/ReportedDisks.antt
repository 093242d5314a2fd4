-- A disk whose calls a C program makes: a report of a call makes it one.
use Rattle.std.proofs.Common.{◌≡◌, ◌≤◌, ◌+◌, ◌-◌, ◌∙◌, inl, inr, ℕ, suc, Bool, true, false, List, ◌∷◌}
use Rattle.std.proofs.Common.{refl, sym, ap, subst, arith, Result, Ok, Err}
use Rattle.macs_disk.specs.States.{DiskState}
use Rattle.macs_disk.specs.Disk.{IsDeviceCall, now}
use Rattle.macs_disk.specs.DeviceCalls.{DoesCall, IsMade}
use Rattle.macs_disk.specs.declared.device_call.DeviceCall.{DeviceCall}
use Rattle.macs_disk.specs.declared.disk.DeviceFault.{DeviceFault}
use Rattle.macs_c.specs.ReportedDisks.{MayBeReported, Moment, ReportedValue, missed, moment_before, reported_disk}
use Rattle.macs_c.specs.ReportedDisks.{reported_next, reported_state}

-- it is now in the state of the last moment
pub reported-now : (it : ReportedValue) → now (reported_disk it) ≡ reported_state (moment_before it.moments 0)
reported-now it =
    let none : it.clock - it.clock ≡ 0 = omega arith in
    ap (λ (n : ℕ). reported_state (moment_before it.moments n)) none

-- one moment more is one call more since each earlier one
moment-past : (moments : List Moment) (next : Moment) (clock k : ℕ) → k ≤ clock
    → moment_before (next ∷ moments) (clock + 1 - k) ≡ moment_before moments (clock - k)
moment-past moments next clock k le =
    let one : clock + 1 - k ≡ suc (clock - k) = omega (arith, le) in ap (moment_before (next ∷ moments)) one

module _ (it : ReportedValue) (next : Moment) where
  pub reported-call : (answer : Result (Unit {0}) DeviceFault)
      → IsDeviceCall (reported_disk it) (reported_disk (reported_next it next answer)) answer
  reported-call (Ok done) = record {
    work = record {
      works = record {
        later = omega arith;
        past = λ k le. ap reported_state (moment-past it.moments next it.clock k le);
        failures = omega arith;
        worn = λ was. was;
        sectors = refl;
        honest = refl;
      };
      ok = omega arith;
      err = tt;
    };
    at_most_one = omega arith;
    one = λ _. refl;
    counted = λ _. tt;
    refused = λ worn. absurd cc;
    stands = λ worn. absurd cc;
    alike = λ worn. absurd cc;
  }
  reported-call (Err fault) = record {
    work = record {
      works = record {
        later = omega arith;
        past = λ k le. ap reported_state (moment-past it.moments next it.clock k le);
        failures = omega arith;
        worn = λ was. was;
        sectors = refl;
        honest = refl;
      };
      ok = tt;
      err = inl refl;
    };
    at_most_one = omega arith;
    one = λ _. refl;
    counted = λ _. refl;
    refused = λ worn. absurd cc;
    stands = λ worn. absurd cc;
    alike = λ worn. absurd cc;
  }

  pub reported-made : (asked : DeviceCall) (read : List ℕ) (answer : Result (Unit {0}) DeviceFault)
      → MayBeReported it next asked read answer
      → IsMade (reported_disk it) (reported_disk (reported_next it next answer)) asked read answer
  reported-made asked read answer may = record {
    call = reported-call answer;
    does = λ honest. subst (λ (s : DiskState). DoesCall (now (reported_disk it)) s asked read answer)
        (sym (reported-now (reported_next it next answer))) (may honest);
  }

-- a call that does not reach the disk leaves it in its state
pub missed-same : (it : ReportedValue)
    → now (reported_disk (reported_next it (moment_before it.moments 0) missed)) ≡ now (reported_disk it)
missed-same it = reported-now (reported_next it (moment_before it.moments 0) missed) ∙ sym (reported-now it)
