-- The device calls of an append: what a power loss leaves around each, which sectors it leaves alone, and what is
-- before the next.
use Rattle.std.proofs.Common.{◌≡◌, ◌≢◌, ◌<◌, ◌+◌, ℕ, refl, subst, arith, List, Some, Result, Ok, Err, OnOk, length}
use Rattle.macs_disk.specs.States.{Image, IsImage, IsSound, DiskState, state_after_write}
use Rattle.macs_disk.specs.Disk.{Disk, IsDeviceCall, now}
use Rattle.macs_record.specs.Decoding.{IsSectorOf}
use Rattle.macs_record.specs.Gates.{open_gate}
use Rattle.macs_record.specs.declared.record.Record.{Record}
use Rattle.macs_journal.specs.Areas.{gate, slot_body, slots}
use Rattle.macs_journal.specs.Appending.{AtAppend, AtNext, DoesAppend, HasEitherJournal, calls_left, free_body}
use Rattle.macs_journal.specs.Appending.{free_gate, next_append}
use Rattle.macs_journal.specs.Found.{Content, content_with_record}
use Rattle.macs_journal.specs.Work.{IsSpared}
use Rattle.macs_journal.specs.declared.appending.AppendStage.{AppendStage}
use Rattle.macs_journal.specs.declared.appending.AppendStage.TheVariants.{Body, BodySync, Gate, GateSync}
use Rattle.macs_journal.proofs.Appends.{append-synced, appended, body-written, gate-written, record-synced}
use Rattle.macs_journal.proofs.Spared.{Spared-sync, Spared-write}

-- one call less is left after a call
pub left-next : (stage : AppendStage) → calls_left (next_append stage) + 1 ≡ calls_left (Some stage)
left-next Body = refl
left-next BodySync = refl
left-next Gate = refl
left-next GateSync = refl

-- a sector is left alone that is neither the body nor the gate of the slot
pub append-apart : {T E : Type 0} (old new : Disk) (area slot : ℕ) (sector : List ℕ) (result : Result T E) (i : ℕ)
    → i ≢ slot_body area slot → i ≢ gate area (slot + 1) → IsSound (now old) → IsDeviceCall old new result
    → (stage : AppendStage) → DoesAppend (now old) (now new) area slot sector stage result → IsSpared old new i
append-apart old new area slot sector result i body_apart gate_apart sound call Body does =
    Spared-write old new (slot_body area slot) sector result i body_apart call does
append-apart old new area slot sector result i body_apart gate_apart sound call BodySync does =
    Spared-sync old new result i sound call does
append-apart old new area slot sector result i body_apart gate_apart sound call Gate does =
    Spared-write old new (gate area (slot + 1)) open_gate result i gate_apart call does
append-apart old new area slot sector result i body_apart gate_apart sound call GateSync does =
    Spared-sync old new result i sound call does

module _ (old new : DiskState) (c : Content) (r : Record) (area slot : ℕ) (sector : List ℕ)
    (area_is : c.area ≡ area) (slot_is : length c.records ≡ slot) (room : slot < slots) (is : IsSectorOf r sector) where
  within : length c.records < slots
  within = omega (arith, slot_is, room)

  body_at : slot_body area slot ≡ free_body c
  body_at = omega (arith, area_is, slot_is)

  gate_at : gate area (slot + 1) ≡ free_gate c
  gate_at = omega (arith, area_is, slot_is)

  module _ {T E : Type 0} where
    -- whatever the call answered, one of the two contents is left
    pub append-left : (stage : AppendStage) (result : Result T E) → AtAppend old c sector stage → IsImage old old.seen
        → DoesAppend old new area slot sector stage result → (image : Image) → IsImage new image
        → HasEitherJournal c (content_with_record c r) image
    append-left Body result at fit does =
        body-written old new c r (slot_body area slot) sector result within body_at at does
    append-left BodySync result at fit does = append-synced old new c r sector result within is BodySync at fit does
    append-left Gate result at fit does =
        gate-written old new c r (gate area (slot + 1)) sector open_gate result within is gate_at at does
    append-left GateSync result at fit does = append-synced old new c r sector result within is GateSync at fit does

    -- a call that was made leads to the next one, the last to the record appended
    pub append-next : (stage : AppendStage) (result : Result T E) → AtAppend old c sector stage
        → DoesAppend old new area slot sector stage result
        → OnOk result (AtNext new c r sector (next_append stage))
    append-next stage (Err e) at does = tt
    append-next Body (Ok x) at does =
        record { prior = old; ready = at; is = subst (λ (i : ℕ). new ≡ state_after_write old i sector) body_at does.ok }
    append-next BodySync (Ok x) at does = record-synced old new c sector within at does.ok
    append-next Gate (Ok x) at does =
        record {
          prior = old;
          staged = at;
          is =
              subst (λ (i : ℕ). new ≡ state_after_write old i open_gate) gate_at does.ok;
        }
    append-next GateSync (Ok x) at does = appended old new c r sector within is at does.ok
