-- An endpoint opened from sectors, and moved to a disk whose calls are reported; or why it is not.
use Rattle.std.proofs.Common.{◌≡◌, ◌≤◌, ◌<◌, ◌∙◌, inl, inr, ℕ, Bool, true, false, List, [], ◌∷◌, length, get_or}
use Rattle.std.proofs.Common.{Ok, Err, refl, sym, ap, subst, arith}
use Rattle.std.proofs.lemmas.Bool.{cases_eq}
use Rattle.std.specs.Prelude.{Some}
use Rattle.macs_disk.specs.Disk.{MayLeave, now}
use Rattle.macs_disk.specs.Runs.{LeavesNothingNew}
use Rattle.macs_disk.specs.States.{DiskState, IsImage, IsSector, put_sector, settled_state, zero_sector}
use Rattle.macs_disk.proofs.Images.{put-other, put-same}
use Rattle.macs_journal.specs.Areas.{least_sectors}
use Rattle.macs_journal.specs.declared.fault.JournalFault.{JournalFault}
use Rattle.macs_journal.specs.declared.fault.JournalFault.TheVariants as fault
use Rattle.macs_store.specs.Opening as store
use Rattle.macs_store.specs.Opening.{HasNoneToMigrate, RefusesDisk}
use Rattle.macs_store.specs.Value.{IsIdle, StoreValue, on_device as store_on_device}
use Rattle.macs_endpoint.specs.Opening.{Begins, Opens}
use Rattle.macs_endpoint.specs.Value.{EndpointValue, IsBacked, device_in, disk_in, on_device}
use Rattle.macs_endpoint.proofs.OpenedDisks.{opened-there}
use Rattle.macs_endpoint.proofs.OtherDisk.{backed-there}
use Rattle.macs_c.specs.Calls.{E, IsOpened, IsRefusedFor, StoreFrom}
use Rattle.macs_c.specs.Evidence.{image-sound, sector_of-sector}
use Rattle.macs_c.specs.ImageDisks.{ImageValue, image_disk, image_from, image_of, sector_of, tried_state}
use Rattle.macs_c.specs.ReportedDisks.{ReportedValue, reported_disk, reported_from}
use Rattle.macs_c.proofs.ImageDisks.{none-tried, now-settled, now-tried, one-tried, past-settled}

-- ---- the store

module _ (honest : Bool) (sectors : List (List ℕ)) (disk : ImageValue) (is : disk ≡ image_from sectors) where
  module _ (other : ReportedValue) (is_it : other ≡ reported_from sectors honest) where
    pub large-there : least_sectors ≤ (image_disk disk).sectors → least_sectors ≤ (reported_disk other).sectors
    large-there large =
        let one : length disk.sectors ≡ length sectors = ap (λ (d : ImageValue). length d.sectors) is in
        let two : other.sectors ≡ length sectors = ap (λ (d : ReportedValue). d.sectors) is_it in
        omega (arith, large, one, two)

    pub store-from : (from : StoreValue ImageValue) → store.Opens image_disk disk from → (s : StoreValue ReportedValue)
        → s ≡ store_on_device from other → StoreFrom honest sectors (Ok s)
    store-from from opens s moved = (
      from,
      subst (λ (d : ImageValue). store.Opens image_disk d from) is opens,
      moved ∙ ap (λ (d : ReportedValue). store_on_device from d) is_it,
    )

-- ---- a refusal

module _ (sectors : List (List ℕ)) (left : ImageValue) (at : ℕ) (tried : left.tried ≡ Some at) where
  -- a sector that is pending may be left with any octets
  any-octets : (octets : List ℕ) → IsSector octets
      → IsImage (tried_state left.sectors (Some at)) (put_sector (image_of left.sectors) at octets)
  any-octets octets whole = record {
    kept = λ i clean. elim (cases_eq i at) [
      | inl same ↦ absurd (let marked = put-same (λ _. false) at i true same in cc)
      | inr other ↦ put-other (image_of left.sectors) at i octets other
    ];
    whole = λ i pending. elim (cases_eq i at) [
      | inl same ↦ subst IsSector (sym (put-same (image_of left.sectors) at i octets same)) whole
      | inr other ↦ absurd (let clean = put-other (λ _. false) at i true other in cc)
    ];
  }

  -- so a write that is tried leaves something new
  no-sector : LeavesNothingNew (image_disk (image_from sectors)) (image_disk left) → (octets : List ℕ)
      → IsSector octets → octets ≡ image_of sectors at
  no-sector nothing octets whole =
      let old : MayLeave (image_disk (image_from sectors)) (put_sector (image_of left.sectors) at octets) =
      nothing.each (put_sector (image_of left.sectors) at octets) (
        (image_disk left).clock,
        omega arith,
        omega arith,
        subst (λ (s : DiskState). IsImage s (put_sector (image_of left.sectors) at octets))
            (sym (now-tried left at tried)) (any-octets octets whole),
      ) in
      sym (put-same (image_of left.sectors) at at octets refl) ∙ old.kept at refl

  something-new : LeavesNothingNew (image_disk (image_from sectors)) (image_disk left) → ⊥
  unfolding sector_of zero_sector
  something-new nothing =
      let zeros = no-sector nothing (sector_of []) (sector_of-sector []) in
      let one = no-sector nothing (sector_of (1 ∷ [])) (sector_of-sector (1 ∷ [])) in
      let same : 0 ≡ 1 = ap (λ (octets : List ℕ). get_or octets 0 0) (zeros ∙ sym one) in
      omega (arith, same)

module _ (sectors : List (List ℕ)) (left : ImageValue) where
  to-migrate : RefusesDisk image_disk (image_from sectors) left fault.Disk
      → HasNoneToMigrate (image_disk (image_from sectors)) → ⊥
  to-migrate made none = elim made.fails [
    | inl one ↦
        let is = one-tried left.tried left.more one in
        something-new sectors left is.0 is.1 (made.unwritten refl (λ _. none)).0.any_moment
    | inr worn ↦ absurd cc
  ]

  large : RefusesDisk image_disk (image_from sectors) left fault.Disk → least_sectors ≤ length sectors
  large made =
      let enough : length sectors < least_sectors → ⊥ = λ few. (let no = made.small.1 few in cc) in
      omega (arith, enough)

  refused-for : (why : JournalFault) → RefusesDisk image_disk (image_from sectors) left why → IsRefusedFor sectors why
  refused-for fault.Disk made = (large made, to-migrate made)
  refused-for fault.Stopped made = made.found (λ is. absurd cc) refl
  refused-for fault.TooSmall made = made.found (λ is. absurd cc) refl
  refused-for fault.AlreadyFormatted made = made.found (λ is. absurd cc) refl
  refused-for fault.NotFormatted made = made.found (λ is. absurd cc) refl
  refused-for fault.BadJournal made = made.found (λ is. absurd cc) refl
  refused-for fault.GenerationsSpent made = made.found (λ is. absurd cc) refl

  pub store-refused : (disk : ImageValue) → disk ≡ image_from sectors → (honest : Bool) → (why : JournalFault)
      → RefusesDisk image_disk disk left why → StoreFrom honest sectors (Err why)
  store-refused disk is honest why made =
      refused-for why (subst (λ (d : ImageValue). RefusesDisk image_disk d left why) is made)

-- ---- the endpoint

module _ (sectors : List (List ℕ)) (from : EndpointValue ImageValue)
    (opens : Opens image_disk (image_from sectors) from) where
  -- sectors that are only read stay what they are
  still : now (disk_in image_disk from) ≡ settled_state (image_of sectors)
  still =
      let disk = device_in from in
      now-settled disk (none-tried disk.tried disk.more opens.device.fails)
      ∙ sym (past-settled disk 0 (omega arith)) ∙ opens.device.works.past 0 (omega arith)

  opened : (honest : Bool) (e : E) → e ≡ on_device from (reported_from sectors honest) → IsOpened honest sectors e
  opened honest e is = record {
    from = from;
    opens = opens;
    moved = is;
    backed = subst (λ (e : E). IsBacked reported_disk e) (sym is)
        (backed-there image_disk reported_disk from (reported_from sectors honest) opens.idle (opens.backed refl)
        (sym opens.device.works.sectors) (sym still));
  }

module _ (honest : Bool) (sectors : List (List ℕ)) where
  pub store-idle : (s : StoreValue ReportedValue) → StoreFrom honest sectors (Ok s) → IsIdle s
  store-idle s made = subst (λ (t : StoreValue ReportedValue). IsIdle t) (sym made.2) made.1.idle

  pub opened-from : (s : StoreValue ReportedValue) → StoreFrom honest sectors (Ok s) → (e : E) → Begins s e
      → IsOpened honest sectors e
  opened-from s made e begun =
      let there =
      opened-there image_disk (image_from sectors) (λ _. image-sound (image_from sectors)) made.0
      (reported_from sectors honest) e made.1 s
      made.2 begun in
      opened sectors there.0 there.1 honest e there.2
