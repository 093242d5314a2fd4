-- The last device calls of a compaction: the bodies are made durable, and the head gate is opened and made durable.
use Rattle.std.proofs.Common.{◌≡◌, ◌≢◌, ◌≤◌, ◌+◌, ◌∙◌, ◌<◌, ◌⊎◌, inl, ℕ, refl, ap, subst, arith, List, length, Result}
use Rattle.std.proofs.Common.{inr, sym, true, replicate}
use Rattle.std.proofs.lemmas.Bool.{cases_lt}
use Rattle.macs_disk.specs.Disk.{Disk, IsDeviceCall, MayLeave, Syncs, Writes, now, Works}
use Rattle.macs_disk.specs.Runs.{LeavesNothingNew, Leaves}
use Rattle.macs_disk.specs.States.{DiskState, Image, IsImage, IsSound, state_after_sync, state_after_write}
use Rattle.macs_disk.proofs.Calls.{sync-leaves}
use Rattle.macs_disk.proofs.Images.{put-same, put-other, synced-image}
use Rattle.macs_disk.proofs.Moments.{Leaves-call, Leaves-weaker, Leaves-now}
use Rattle.macs_record.specs.Gates.{open_gate, IsOpen}
use Rattle.macs_record.specs.Heads.{Head}
use Rattle.macs_record.specs.declared.record.Record.{Record}
use Rattle.macs_journal.specs.Areas.{gate}
use Rattle.macs_journal.specs.NewArea.{IsOldOrOpening, IsSettled}
use Rattle.macs_journal.specs.Stages.{AreBodiesDurable, AreBodiesWritten, IsHeadOpened, IsOpening, IsCompacted}
use Rattle.macs_journal.specs.Work.{IsSpared}
use Rattle.macs_journal.proofs.Appends.{sync-image, wrote}
use Rattle.macs_journal.proofs.Spared.{Spared-on, Spared-sync, Spared-write}

-- ---- what a power loss leaves while a head gate is opened

-- the gate as it is written is open
pub open_gate-opens : IsOpen open_gate
open_gate-opens = (replicate 504 0, refl)

-- after a sync
pub synced-settled : (old new : DiskState) → new ≡ state_after_sync old → IsSettled new
synced-settled old new is = subst IsSettled (sym is) (record { clean = λ i. refl; fresh = λ i. refl })

-- a sync was made, and then the gate was written, whole or torn, or not at all
pub opening-image : (s mid new : DiskState) (area at : ℕ) → IsImage s s.seen → at ≡ gate area 0
    → mid ≡ state_after_sync s
    → (new ≡ mid) ⊎ ((other : List ℕ) × (new ≡ state_after_write mid at other)) → (image : Image) → IsImage new image
    → IsOldOrOpening s area image
opening-image s mid new area at fit at_is is wrote image left = elim wrote [
  | inl same ↦ inl (synced-image s image fit (subst (λ (s : DiskState). IsImage s image) (same ∙ is) left))
  | inr torn ↦
      let here : IsImage (state_after_write (state_after_sync s) at torn.0) image =
      subst (λ (s : DiskState). IsImage s image)
      (torn.1 ∙ ap (λ (m : DiskState). state_after_write m at torn.0) is) left in
      inr (λ i apart. here.kept i (put-other (state_after_sync s).pending at i true (λ same. apart (same ∙ at_is))))
]

-- what is left up to a moment, by what is left up to one before it and what is left between them
pub left-until : (old mid new : Disk) (P : Image → Type 0) (limit : ℕ) → Leaves old mid P → Works mid new
    → ((k : ℕ) → mid.clock ≤ k → k ≤ new.clock → k < limit → (image : Image) → IsImage (new.past k) image
    → MayLeave mid image)
    → (k : ℕ) → old.clock ≤ k → k ≤ new.clock → k < limit → (image : Image) → IsImage (new.past k) image → P image
left-until old mid new P limit leaves works between k from until lt image left = elim (cases_lt mid.clock k) [
  | inl after ↦ Leaves-now old mid P leaves image (between k (omega (arith, after)) until lt image left)
  | inr before ↦ leaves.each image
      (k, from, before, subst (λ (s : DiskState). IsImage s image) (works.past k before) left)
]

-- one call more, not before the second one
opening-on : {T E : Type 0} (began d new : Disk) (area : ℕ) (head : Head) (records : List Record) (result : Result T E)
    (at : IsOpening began d area head records)
    → at.full.clock + 1 ≤ d.clock → IsDeviceCall d new result
    → ((image : Image) → IsImage (now new) image → IsOldOrOpening (now at.full) area image)
    → ((i : ℕ) → i ≢ gate area 0 → IsSpared d new i) → IsOpening began new area head records
opening-on began d new area head records result at second call images spares = record {
  full = at.full;
  filled = at.filled;
  leaves = Leaves-call at.full d new result (IsOldOrOpening (now at.full) area) at.leaves call images;
  until = λ k from le lt image left.
      let before : k ≤ d.clock = omega (arith, lt, second) in
      at.until k from before lt image (subst (λ (s : DiskState). IsImage s image) (call.work.works.past k before) left);
  others = λ i apart. Spared-on at.full d new i at.leaves.works call.work.works (at.others i apart) (spares i apart);
}

-- ---- the bodies are made durable

module _ {T E : Type 0} (began d new : Disk) (area : ℕ) (head : Head) (records : List Record) (result : Result T E)
    (at : AreBodiesWritten began d area head records (length records)) (sound : IsSound (now d))
    (call : IsDeviceCall d new result) (syncs : Syncs (now d) (now new) result) where
  nothing : LeavesNothingNew d new
  nothing = sync-leaves d new result sound call syncs

  pub opening-first : IsOpening began new area head records
  opening-first = record {
    full = d;
    filled = at;
    leaves = Leaves-weaker d new (MayLeave d) (IsOldOrOpening (now d) area) (λ image left. inl left) nothing;
    until = λ k from le lt image left. nothing.each image (k, from, le, left);
    others = λ i apart. Spared-sync d new result i sound call syncs;
  }

  pub bodies-durable : new.clock ≡ d.clock + 1 → now new ≡ state_after_sync (now d)
      → AreBodiesDurable began new area head records
  unfolding opening-first
  bodies-durable one is = record { opening = opening-first; calls = one; fit = sound.fit; synced = is }

-- ---- the head gate is opened

module _ {T E : Type 0} (began d new : Disk) (area : ℕ) (head : Head) (records : List Record) (result : Result T E)
    (at : AreBodiesDurable began d area head records) (call : IsDeviceCall d new result)
    (writes : Writes (now d) (now new) (gate area 0) open_gate result) where
  written-images : (image : Image) → IsImage (now new) image → IsOldOrOpening (now at.opening.full) area image
  written-images = opening-image (now at.opening.full) (now d) (now new) area (gate area 0) at.fit refl at.synced
      (wrote (now d) (now new) (gate area 0) open_gate result writes)

  pub opening-written : IsOpening began new area head records
  opening-written =
      opening-on began d new area head records result at.opening (let was = at.calls in
      omega (arith, was)) call written-images
      (λ i apart. Spared-write d new (gate area 0) open_gate result i apart call writes)

  pub head-opened : new.clock ≡ d.clock + 1 → now new ≡ state_after_write (now d) (gate area 0) open_gate
      → IsHeadOpened began new area head records
  unfolding opening-on opening-written
  head-opened one is = record {
    opening = opening-written;
    calls = (let was = at.calls in omega (arith, was, one));
    opened = ap (λ (s : DiskState). s.seen (gate area 0)) is
        ∙ put-same (now d).seen (gate area 0) (gate area 0) open_gate refl;
    images = written-images;
  }

-- ---- and made durable

module _ {T E : Type 0} (began d new : Disk) (area : ℕ) (head : Head) (records : List Record) (result : Result T E)
    (at : IsHeadOpened began d area head records) (sound : IsSound (now d)) (call : IsDeviceCall d new result)
    (syncs : Syncs (now d) (now new) result) where
  pub opening-synced : IsOpening began new area head records
  opening-synced =
      opening-on began d new area head records result at.opening (let was = at.calls in omega (arith, was)) call
      (λ image left. at.images image (sync-image (now d) (now new) result sound.fit syncs image left))
      (λ i apart. Spared-sync d new result i sound call syncs)

  pub becomes-compacted : new.clock ≡ d.clock + 1 → now new ≡ state_after_sync (now d)
      → IsCompacted began new area head records
  unfolding opening-on opening-synced
  becomes-compacted one is = record {
    opening = opening-synced;
    calls = (let was = at.calls in omega (arith, was, one));
    opened = ap (λ (s : DiskState). s.seen (gate area 0)) is ∙ at.opened;
    settled = synced-settled (now d) (now new) is;
  }
