use Rattle.std.proofs.Common.{◌≡◌, ◌≢◌, ◌∙◌, refl, ℕ, List, sym, subst, arith, Result, Ok, Err, IsErr}
use Rattle.macs_disk.specs.States.{Image, DiskState, IsImage, IsSector, state_after_write, settled_state, zero_sector}
use Rattle.macs_disk.specs.Disk.{Disk, FailsOnce, IsHonest, IsWork, Reads, Works, now}
use Rattle.macs_disk.specs.Runs.{Leaves, LeavesNothingNew}
use Rattle.macs_disk.proofs.Images.{written-elsewhere}
use Rattle.macs_disk.proofs.Moments.{FailsOnce-before, Leaves-weaker, Works-on}
use Rattle.macs_disk_tests.proofs.tests.promises.replace_second.Goals as goal

abbrev blank : DiskState
blank = settled_state (λ _. zero_sector)

abbrev AllBlank : Image → Type 0
AllBlank image = (i : ℕ) → image i ≡ zero_sector

abbrev FirstBlank : Image → Type 0
FirstBlank image = image 0 ≡ zero_sector

first : (image : Image) → AllBlank image → FirstBlank image
first image all = all 0

before : (s : DiskState) → s ≡ blank → (image : Image) → IsImage s image → AllBlank image
before s is image left =
    let left_blank : IsImage blank image = subst (λ (s : DiskState). IsImage s image) is left in
    λ i. left_blank.kept i refl

after : (s : DiskState) → s ≡ blank → (sector : List ℕ) (image : Image) → IsSector sector
    → IsImage (state_after_write s 1 sector) image → FirstBlank image
after s is sector image whole left =
    let left_blank : IsImage (state_after_write blank 1 sector) image =
    subst (λ (s : DiskState). IsImage (state_after_write s 1 sector) image) is left in
    let other : 0 ≢ 1 = omega arith in
    written-elsewhere blank 1 sector image left_blank 0 other refl

failed : {T E : Type 0} (old new : Disk) (answer : Result T E) → IsErr answer → Works old new → FailsOnce old new
    → IsWork old new answer
failed old new (Ok x) is works once = absurd cc
failed old new (Err e) is works once = record { works = works; ok = tt; err = once }

pub returns-in_err-read-clause-work : goal.returns-in_err-read-clause-work
returns-in_err-read-clause-work g c =
    failed _ _ c.from_residual.result c.from_residual.ensures.0 c.read.ensures.call.work.works
    c.in_err-read.ensures.call.work.err

pub returns-in_err-write-clause-work : goal.returns-in_err-write-clause-work
returns-in_err-write-clause-work g c =
    let d = g.D.SectorDisk.disk in
    let old = d c.args.disk.now in
    let mid = d c.read.new.self in
    let new = d c.write.new.self in
    let read : Works old mid = c.read.ensures.call.work.works in
    failed old new c.from_residual-in_err-write.result c.from_residual-in_err-write.ensures.0
    (Works-on old mid new read c.write.ensures.call.work.works)
    (FailsOnce-before old mid new c.in_ok-read.ensures.call.work.ok c.in_err-write.ensures.call.work.err)

pub returns-clause-work : goal.returns-clause-work
returns-clause-work g c =
    let d = g.D.SectorDisk.disk in
    let old = d c.args.disk.now in
    let mid = d c.read.new.self in
    let late = d c.write.new.self in
    c.work_goes_on.ensures old late (d c.sync.new.self) c.sync.result
    (Works-on old mid late c.read.ensures.call.work.works c.write.ensures.call.work.works)
    (c.in_ok-write.ensures.call.work.ok ∙ c.in_ok-read.ensures.call.work.ok) c.sync.ensures.call.work

pub returns-in_err-read-clause-worn : goal.returns-in_err-read-clause-worn
returns-in_err-read-clause-worn g c worn = c.from_residual.ensures.0

pub returns-in_err-write-clause-worn : goal.returns-in_err-write-clause-worn
returns-in_err-write-clause-worn g c worn = c.from_residual-in_err-write.ensures.0

pub returns-clause-worn : goal.returns-clause-worn
returns-clause-worn g c worn =
    let d = g.D.SectorDisk.disk in
    let still = c.write.ensures.call.work.works.worn (c.read.ensures.call.work.works.worn worn) in
    (c.calls_are_counted.ensures.worn (d c.write.new.self) (d c.sync.new.self) c.sync.result
    c.sync.ensures.call still).0

pub returns-in_err-read-clause-leaves : goal.returns-in_err-read-clause-leaves
returns-in_err-read-clause-leaves g c honest is =
    let d = g.D.SectorDisk.disk in
    let reads : Reads (now (d c.args.disk.now)) (now (d c.read.new.self)) 0 c.read.new.into c.read.result =
    c.read.ensures.effect honest in
    c.leaves_weaker.ensures _ _ first
    (c.leaves_call.ensures _ _ _ c.read.result (c.leaves_none.ensures (d c.args.disk.now) (before _ is))
    c.read.ensures.call (before _ (reads.same ∙ is)))

pub returns-in_err-write-clause-leaves : goal.returns-in_err-write-clause-leaves
returns-in_err-write-clause-leaves g c honest is =
    let d = g.D.SectorDisk.disk in
    let reads : Reads (now (d c.args.disk.now)) (now (d c.read.new.self)) 0 c.read.new.into c.read.result =
    c.read.ensures.effect (sym c.write.ensures.call.work.works.honest ∙ honest) in
    let quiet : LeavesNothingNew (d c.args.disk.now) (d c.read.new.self) =
    c.a_read_call_leaves_nothing_new.ensures _ _ 0 c.read.new.into c.read.result c.read.ensures.call reads in
    c.leaves_join.ensures _ (d c.read.new.self) _
    (Leaves-weaker _ _ _ AllBlank (before _ is) quiet)
    (c.a_write_call_leaves.ensures _ _ 1 c.args.octets.now c.write.result
    (record { size = c.told-octets; octets = c.fits-octets })
    c.write.ensures.call (c.write.ensures.effect honest) (λ image left. before _ (reads.same ∙ is) image left 0)
    (after _ (reads.same ∙ is)))
    first (λ image blank. blank)

pub returns-clause-leaves : goal.returns-clause-leaves
returns-clause-leaves g c honest is =
    let d = g.D.SectorDisk.disk in
    let honest2 : IsHonest (d c.write.new.self) = sym c.sync.ensures.call.work.works.honest ∙ honest in
    let reads : Reads (now (d c.args.disk.now)) (now (d c.read.new.self)) 0 c.read.new.into c.read.result =
    c.read.ensures.effect (sym c.write.ensures.call.work.works.honest ∙ honest2) in
    let quiet : LeavesNothingNew (d c.args.disk.now) (d c.read.new.self) =
    c.a_read_call_leaves_nothing_new.ensures _ _ 0 c.read.new.into c.read.result c.read.ensures.call reads in
    let wrote : Leaves (d c.read.new.self) (d c.write.new.self) FirstBlank =
    c.a_write_call_leaves.ensures _ _ 1 c.args.octets.now c.write.result
    (record { size = c.told-octets; octets = c.fits-octets })
    c.write.ensures.call (c.write.ensures.effect honest2) (λ image left. before _ (reads.same ∙ is) image left 0)
    (after _ (reads.same ∙ is)) in
    let synced : LeavesNothingNew (d c.write.new.self) (d c.sync.new.self) =
    c.a_sync_call_leaves_nothing_new.ensures.nothing_new _ _ c.sync.result
    (g.met.D.SectorDisk.sound c.write.new.self honest2) c.sync.ensures.call (c.sync.ensures.effect honest) in
    c.leaves_join.ensures _ (d c.read.new.self) _
    (Leaves-weaker _ _ _ AllBlank (before _ is) quiet)
    (c.leaves_more.ensures _ (d c.write.new.self) _ wrote
    (Leaves-weaker _ _ _ FirstBlank (c.leaves_now.ensures _ _ wrote) synced))
    first (λ image blank. blank)
