-- An endpoint at rest, on another disk that is now in the same state.
use Rattle.std.proofs.Common.{◌≡◌, ◌≤◌, ◌+◌, ◌∙◌, ℕ, sym, ap, subst, arith}
use Rattle.macs_disk.specs.Disk.{Disk, now}
use Rattle.macs_disk.specs.States.{DiskState, IsImage}
use Rattle.macs_journal.specs.Appending.{AtAppend, IsReady}
use Rattle.macs_journal.specs.Areas.{least_sectors}
use Rattle.macs_journal.specs.Found.{Content}
use Rattle.macs_journal.specs.Value.{HoldsUnderWay}
use Rattle.macs_journal.specs.declared.under_way.UnderWay.{UnderWay}
use Rattle.macs_journal.specs.declared.under_way.UnderWay.TheVariants.{Append, Compact, Nothing}
use Rattle.macs_store.specs.Value.{IsIdle, IsStored, StoreValue}
use Rattle.macs_store.specs.Value as store
use Rattle.macs_store.proofs.Keeping.{one-content}
use Rattle.macs_endpoint.specs.Restart.{Fits}
use Rattle.macs_endpoint.specs.Value.{EndpointValue, IsAtRest, IsBacked, disk_in, on_device, state_of}

-- the next generation is another one
no-next : (n : ℕ) → n ≡ n + 1 → ⊥
no-next n is = omega (arith, is)

-- Where the content stays what it is, no compaction is under way, and what is speaks of this moment alone.
held-there : (d other : Disk) → now other ≡ now d → (under_way : UnderWay) (before after : Content) → after ≡ before
    → HoldsUnderWay d under_way before after → HoldsUnderWay other under_way before after
held-there d other same Nothing before after is held =
    (subst (λ (s : DiskState). IsReady s before) (sym same) held.0, held.1)
held-there d other same (Append work) before after is held = (
  held.0,
  held.1,
  held.2,
  subst (λ (s : DiskState). AtAppend s before work.sector work.stage) (sym same) held.3,
  held.4,
)
held-there d other same (Compact work) before after is held =
    absurd (no-next before.head.generation (ap (λ (c : Content). c.head.generation) (sym is ∙ held.becomes)))

stored-there : {D E : Type 0} (disk_of : D → Disk) (disk_at : E → Disk) (s : StoreValue D) (device : E) → IsIdle s
    → now (disk_at device) ≡ now (store.disk_in disk_of s)
    → IsStored disk_of s → IsStored disk_at (store.on_device s device)
stored-there disk_of disk_at s device idle same stored = record {
  content = stored.content;
  next = stored.next;
  holding = record {
    holds = record {
      at = stored.holding.holds.at;
      holds = held-there (store.disk_in disk_of s) (disk_at device) same s.journal.under_way stored.content
          stored.next (one-content disk_of s stored idle) stored.holding.holds.holds;
    };
    made = stored.holding.made;
  };
  stands = stored.stands;
  becomes = stored.becomes;
  leads = stored.leads;
  form = stored.form;
  form_next = stored.form_next;
}

pub backed-there : {D E : Type 0} (disk_of : D → Disk) (disk_at : E → Disk) (e : EndpointValue D) (device : E)
    → IsAtRest e → IsBacked disk_of e → (disk_at device).sectors ≡ (disk_in disk_of e).sectors
    → now (disk_at device) ≡ now (disk_in disk_of e)
    → IsBacked disk_at (on_device e device)
backed-there disk_of disk_at e device rest backed size same = record {
  size = subst (λ (n : ℕ). least_sectors ≤ n) (sym size) backed.size;
  stored = λ running. stored-there disk_of disk_at e.store device rest.store same (backed.stored running);
  fits = λ logs image left.
      subst (λ (n : ℕ). Fits (state_of e logs).edition n image (state_of e logs)) (sym size)
      (backed.fits logs image (subst (λ (s : DiskState). IsImage s image) same left));
  form = λ image left. backed.form image (subst (λ (s : DiskState). IsImage s image) same left);
}
