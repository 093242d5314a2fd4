-- A device call that a C program made and reported: the endpoint continues from there.
use Rattle.std.proofs.Common.{◌≡◌, ◌≤◌, ◌∙◌, ℕ, List, Option, Some, None, Result, sym, ap, subst}
use Rattle.macs_disk.specs.DeviceCalls.{IsMade}
use Rattle.macs_disk.specs.declared.device_call.DeviceCall.{DeviceCall}
use Rattle.macs_disk.specs.declared.disk.DeviceFault.{DeviceFault}
use Rattle.macs_journal.specs.Areas.{least_sectors}
use Rattle.macs_store.specs.Value.{IsIdle}
use Rattle.macs_endpoint.specs.Calls.{IsCall}
use Rattle.macs_endpoint.specs.Halves.{Did, IsNextCall, with_device}
use Rattle.macs_endpoint.specs.State.{Advanced, Advances}
use Rattle.macs_endpoint.specs.Value.{device_in}
use Rattle.macs_endpoint.specs.declared.fault.StepFault.{StepFault}
use Rattle.macs_endpoint.specs.declared.progress.Step.{Step}
use Rattle.macs_c.specs.Calls.{E, MayReport, reported}
use Rattle.macs_c.specs.ReportedDisks.{Moment, ReportedValue, reported_disk, reported_next}
use Rattle.macs_c.proofs.ReportedDisks.{reported-made}

-- it has as many sectors as before
pub large-enough : (it later : ReportedValue) (next : Moment) (answer : Result (Unit {0}) DeviceFault)
    → later ≡ reported_next it next answer → least_sectors ≤ (reported_disk it).sectors
    → least_sectors ≤ (reported_disk later).sectors
large-enough it later next answer is large =
    subst (λ (n : ℕ). least_sectors ≤ n) (sym (ap (λ (d : ReportedValue). d.sectors) is)) large

-- a call is awaited, so that work is under way
pub still-busy : {A : Type 0} (o : Option A) (x : A) → o ≡ Some x → o ≡ None → ⊥
still-busy {A} o x some none = let no : ◌≡◌ {A = Option A} (Some x) None = sym some ∙ none in cc

-- with another disk the same work is under way
pub idle-before : (old mid : E) (later : ReportedValue) → mid ≡ with_device old later → IsIdle mid.store
    → IsIdle old.store
idle-before old mid later moved idle = subst (λ (e : E). IsIdle e.store) moved idle

module _ (old : E) (next : Moment) (read : List ℕ) (ok : ℕ) (asked : DeviceCall) (is : IsNextCall old asked)
    (may : MayReport old next read ok) (said : Result (Unit {0}) DeviceFault) (saying : said ≡ reported ok)
    (device : ReportedValue) (here : device ≡ device_in old) (later : ReportedValue)
    (after : later ≡ reported_next device next said) where
  after-here : later ≡ reported_next (device_in old) next (reported ok)
  after-here =
      after ∙ ap (λ (d : ReportedValue). reported_next d next said) here
      ∙ ap (λ (r : Result (Unit {0}) DeviceFault). reported_next (device_in old) next r) saying

  -- the call that was made
  made-here : IsMade (reported_disk (device_in old)) (reported_disk later) asked read (reported ok)
  made-here =
      subst (λ (d : ReportedValue). IsMade (reported_disk (device_in old)) (reported_disk d) asked read (reported ok))
      (sym after-here) (reported-made (device_in old) next asked read (reported ok) (may asked is))

  pub went-on : (mid : E) → mid ≡ with_device old later → (result : Result Step StepFault) (new : E)
      → Did reported_disk mid read said result new
      → IsCall reported_disk old Advances (Advanced result) new
      × (device_in new ≡ reported_next (device_in old) next (reported ok))
  went-on mid moved result new did =
      let from : Did reported_disk (with_device old later) read (reported ok) result new =
      subst (λ (r : Result (Unit {0}) DeviceFault). Did reported_disk (with_device old later) read r result new) saying
      (subst (λ (m : E). Did reported_disk m read said result new) moved did) in
      (from.step (device_in old) asked is made-here, from.device ∙ after-here)
