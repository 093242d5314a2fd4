-- The calls of an endpoint from C: each is the call of the crate below, or changes nothing, for a cause that is named.
use Rattle.std.specs.Prelude.{◌≡◌, ◌≤◌, ◌⊎◌, ◌==◌, ℕ, Bool, true, if◌then◌else◌, List, length, Option, Some, None}
use Rattle.std.specs.Prelude.{Result, Ok, Err}
use Rattle.macs_config.specs.Config.{this_edition}
use Rattle.macs_disk.specs.DeviceCalls.{IsWithin}
use Rattle.macs_disk.specs.declared.device_call.DeviceCall.{DeviceCall}
use Rattle.macs_disk.specs.declared.device_call.DeviceCall.TheVariants.{Read, Write, Sync}
use Rattle.macs_disk.specs.declared.disk.DeviceFault.{DeviceFault}
use Rattle.macs_journal.specs.Areas.{least_sectors}
use Rattle.macs_journal.specs.declared.fault.JournalFault.{JournalFault}
use Rattle.macs_journal.specs.declared.fault.JournalFault.TheVariants as fault
use Rattle.macs_store.specs.Found.{IsUnfitTo}
use Rattle.macs_store.specs.Opening as store
use Rattle.macs_store.specs.Opening.{HasNoneToMigrate}
use Rattle.macs_store.specs.Value.{IsIdle, StoreValue, on_device as store_on_device}
use Rattle.macs_endpoint.specs.Calls.{IsCall, IsStep}
use Rattle.macs_endpoint.specs.Halves.{HasBegun, IsNextCall}
use Rattle.macs_endpoint.specs.Opening.{Begins, Opens}
use Rattle.macs_endpoint.specs.State.{Advanced, Advances}
use Rattle.macs_endpoint.specs.Value.{EndpointValue, IsBacked, device_in, disk_in, is_stopped, on_device}
use Rattle.macs_endpoint.specs.declared.fault.StepFault.{StepFault}
use Rattle.macs_endpoint.specs.declared.progress.Step.{Step}
use Rattle.macs_endpoint.specs.declared.progress.Step.TheVariants.{Done}
use Rattle.macs_c.specs.Answers.{command_answer, number_of, open_answer, step_answer}
use Rattle.macs_c.specs.ImageDisks.{ImageValue, image_disk, image_from, image_of}
use Rattle.macs_c.specs.ReportedDisks.{MayBeReported, Moment, ReportedValue, reported_disk, reported_from}
use Rattle.macs_c.specs.ReportedDisks.{reported_next}
use Rattle.macs_c.specs.declared.answers.Answer.{Answer}
use Rattle.macs_c.specs.declared.answers.Answer.TheVariants as code
use Rattle.macs_c.specs.declared.device_calls.MacsCall.{MacsCall}
use Rattle.macs_c.specs.declared.device_calls.MacsDone.{MacsDone}
use Rattle.macs_c.specs.declared.slot.Slot.{Slot}

-- an endpoint whose device calls a C program makes
abbrev pub E : Type 0
E = EndpointValue ReportedValue

-- ---- opening

-- An endpoint was opened from these sectors, and is on a disk with them, all durable, which holds what is in memory.
pub record IsOpened (honest : Bool) (sectors : List (List ℕ)) (e : E) : Type 0 where
  pub from : EndpointValue ImageValue
  pub opens : Opens image_disk (image_from sectors) from
  pub moved : e ≡ on_device from (reported_from sectors honest)
  pub backed : IsBacked reported_disk e

-- Why no endpoint is opened from these sectors: none continues from what is there. Disk is for a journal that an
-- opening migrates, since the sectors are only read.
abbrev pub IsRefusedFor : List (List ℕ) → JournalFault → Type 0
IsRefusedFor sectors fault.Disk =
    (least_sectors ≤ length sectors) × (¬ HasNoneToMigrate (image_disk (image_from sectors)))
IsRefusedFor sectors other = IsUnfitTo this_edition (length sectors) (image_of sectors) other

-- An endpoint is opened where none was, or nothing changes: one was open, or the sectors are refused.
abbrev pub OpenAnswer : Bool → List (List ℕ) → Option Slot → Answer → Option Slot → Type 0
OpenAnswer honest sectors (Some old) answer new = (answer ≡ code.Open) × (new ≡ Some old)
OpenAnswer honest sectors None answer (Some new) = (answer ≡ code.Success) × IsOpened honest sectors new.endpoint
OpenAnswer honest sectors None answer None =
    (fault : JournalFault) × (answer ≡ open_answer fault) × IsRefusedFor sectors fault

-- The first part of an opening: the store that was opened from these sectors, moved to a disk with them; or why they
-- are refused.
abbrev pub StoreFrom : Bool → List (List ℕ) → Result (StoreValue ReportedValue) JournalFault → Type 0
StoreFrom honest sectors (Ok s) = (from : StoreValue ImageValue) × store.Opens image_disk (image_from sectors) from
    × (s ≡ store_on_device from (reported_from sectors honest))
StoreFrom honest sectors (Err fault) = IsRefusedFor sectors fault

-- and its second: the endpoint that begins with a store is there
abbrev pub BeginsThere : StoreValue ReportedValue → Option Slot → Type 0
BeginsThere s there = (e : E) × (there ≡ Some (record { endpoint = e })) × Begins s e

-- ---- device calls

-- a device call as a C program gets it
abbrev pub call_after : MacsCall → DeviceCall → MacsCall
call_after old (Read at) = record { kind = 1; sector = at; octets = old.octets }
call_after old (Write at octets) = record { kind = 2; sector = at; octets = octets }
call_after old Sync = record { kind = 3; sector = old.sector; octets = old.octets }

-- the report on a command that a step completed
abbrev pub done_after : MacsDone → Result Step StepFault → MacsDone
done_after old (Ok (Done ticket result)) = record { ticket = ticket; answer = number_of (command_answer result) }
done_after old result = old

-- what a C program reports of a device call that it made: 1 if it succeeded
abbrev pub reported : ℕ → Result (Unit {0}) DeviceFault
reported ok = if ok == 1 then Ok tt else Err (record {})

-- Work is under way, and its next device call is named; or a step needs none, and this is its result. No device call is
-- made.
abbrev pub NextFrom : E → MacsCall → MacsDone → Answer → MacsCall → MacsDone → E → Type 0
NextFrom old call done answer call' done' new =
    ((answer ≡ code.Call) × HasBegun reported_disk old new × (device_in new ≡ device_in old) × (done' ≡ done)
    × ((asked : DeviceCall) × IsNextCall new asked × IsWithin (disk_in reported_disk new).sectors asked
    × (call' ≡ call_after call asked)))
    ⊎ ((result : Result Step StepFault) × (answer ≡ step_answer result) × IsStep reported_disk old result new
    × (device_in new ≡ device_in old) × (call' ≡ call) × (done' ≡ done_after done result))

-- The report on the pending device call is what an honest device may answer.
abbrev pub MayReport : E → Moment → List ℕ → ℕ → Type 0
MayReport e next read ok = (asked : DeviceCall) → IsNextCall e asked
    → MayBeReported (device_in e) next asked read (reported ok)

-- The device call that the work under way needs was made, and the endpoint continues as a step that had made it itself;
-- or none is pending, since the endpoint is stopped or has no work under way.
abbrev pub DidFrom : E → Moment → List ℕ → ℕ → MacsDone → Answer → MacsDone → E → Type 0
DidFrom old next read ok done answer done' new =
    ((answer ≡ code.NoCall) × ((is_stopped old ≡ true) ⊎ IsIdle old.store) × (new ≡ old) × (done' ≡ done))
    ⊎ ((result : Result Step StepFault) × (answer ≡ step_answer result)
    × IsCall reported_disk old Advances (Advanced result) new
    × (device_in new ≡ reported_next (device_in old) next (reported ok)) × (done' ≡ done_after done result))

-- the same where an endpoint may be open
abbrev pub NextAnswer : Option Slot → MacsCall → MacsDone → Answer → MacsCall → MacsDone → Option Slot → Type 0
NextAnswer None call done answer call' done' new =
    (answer ≡ code.Closed) × (new ≡ None) × (call' ≡ call) × (done' ≡ done)
NextAnswer (Some old) call done answer call' done' None = ⊥
NextAnswer (Some old) call done answer call' done' (Some new) =
    NextFrom old.endpoint call done answer call' done' new.endpoint

-- the answer to the device call may be reported, where an endpoint is open
abbrev pub MayReportThere : Option Slot → Moment → List ℕ → ℕ → Type 0
MayReportThere None next read ok = Unit {0}
MayReportThere (Some slot) next read ok = MayReport slot.endpoint next read ok

-- the report of a device call where an endpoint may be open: with none it is refused, and nothing changes
abbrev pub DidAnswer : Option Slot → Moment → List ℕ → ℕ → MacsDone → Answer → MacsDone → Option Slot → Type 0
DidAnswer None next read ok done answer done' new = (answer ≡ code.Closed) × (new ≡ None) × (done' ≡ done)
DidAnswer (Some old) next read ok done answer done' None = ⊥
DidAnswer (Some old) next read ok done answer done' (Some new) =
    DidFrom old.endpoint next read ok done answer done' new.endpoint
