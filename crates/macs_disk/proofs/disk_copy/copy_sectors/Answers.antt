use Rattle.std.proofs.Common.{◌≡◌, ◌∙◌, ℕ, arith, refl, subst}
use Rattle.macs_disk.specs.Disk.{now}
use Rattle.macs_disk.specs.FileDisks.{image_in_file}
use Rattle.macs_disk.specs.Files.{FileState}
use Rattle.macs_disk.specs.MemDisks.{disk_of}
use Rattle.macs_disk.specs.States.{state_after_write}
use Rattle.macs_disk.specs.declared.layout.Layout.{Layout}
use Rattle.macs_disk.proofs.DiskCopies.{carried, one-written}
use Rattle.macs_disk.proofs.disk_copy.copy_sectors.Goals as goal

pub copy_sector-requires-clause-room : goal.copy_sector-requires-clause-room
copy_sector-requires-clause-room g c = c.loop-at.invariant.2

pub loop-at-preserved : goal.loop-at-preserved
loop-at-preserved g c =
    let inv = c.loop-at.invariant in
    let file = g.F.DiskFile.file c.args.file.now in
    let at = c.loop-at.at in (
      c.in_ok-copy_sector.ensures.steady ∙ inv.0,
      λ behaves. c.in_ok-copy_sector.ensures.same (inv.0 ∙ behaves) ∙ inv.1 behaves,
      c.in_ok-copy_sector.ensures.room,
      λ behaves.
          one-written (now (disk_of c.loop-at.copy)) (now (disk_of c.copy_sector.new.copy))
          at _ (λ (k : ℕ). image_in_file c.args.layout file.seen k)
          (carried (λ (f : FileState). now (disk_of c.copy_sector.new.copy)
          ≡ state_after_write (now (disk_of c.loop-at.copy)) at (image_in_file c.args.layout f.seen at))
          _ _ (inv.1 behaves) behaves c.in_ok-copy_sector.ensures.copied)
          refl (inv.3 behaves),
    )

pub returns-clause-copied : goal.returns-clause-copied
returns-clause-copied g c = λ behaves laid. record {
  sectors = c.loop-at.invariant.2;
  honest = refl;
  seen = λ k below.
      subst (λ (l : Layout). (now (disk_of c.loop-at.copy)).seen k
      ≡ image_in_file l (g.F.DiskFile.file c.args.file.now).seen k) laid
      (c.loop-at.invariant.3 behaves k (omega (arith, below, c.loop-at-test.false)));
}
